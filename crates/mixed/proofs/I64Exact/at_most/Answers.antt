use Rattle.mixed.proofs.Compare.{at_most_integers}
use Rattle.mixed.proofs.I64Exact.at_most.Goals as goal

pub returns : goal.returns
returns c = at_most_integers c.args.self c.args.other c.ranges.self c.ranges.other
