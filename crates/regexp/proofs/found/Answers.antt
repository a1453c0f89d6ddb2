use Rattle.octets.specs.Octets.{folded}
use Rattle.regexp.proofs.Loops.{found_is}
use Rattle.regexp.proofs.found.Goals as goal

pub returns : goal.returns
returns c =
    found_is c.args.p.now c.args.kinds.now c.args.args.now c.args.n c.requires.1 (folded c.args.s_mark c.args.s.now) c.args.sf c.args.ef c.finds.result c.finds.ensures
