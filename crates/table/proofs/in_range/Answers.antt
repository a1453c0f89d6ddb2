use Rattle.table.proofs.Tests.{word_range}
use Rattle.table.proofs.in_range.Goals as goal

pub returns : goal.returns
returns c = word_range c.args.b c.ranges.b.fits
