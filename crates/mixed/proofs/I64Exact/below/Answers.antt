use Rattle.mixed.proofs.Compare.{below_integers}
use Rattle.mixed.proofs.I64Exact.below.Goals as goal

pub returns : goal.returns
returns c = below_integers c.args.self c.args.other c.ranges.self c.ranges.other
