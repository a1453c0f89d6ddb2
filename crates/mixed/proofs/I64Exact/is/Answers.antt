use Rattle.mixed.proofs.Compare.{equal_integers}
use Rattle.mixed.proofs.I64Exact.is.Goals as goal

pub returns : goal.returns
returns c = equal_integers c.args.self c.args.other c.ranges.self c.ranges.other
