use native.Mathlib.Omega.{arith}
use Rattle.octets.specs.Octets.{folded}
use Rattle.regexp.proofs.Loops.{regex_short}
use Rattle.regexp.proofs.search_in.Goals as goal

pub returns : goal.returns
returns g c =
    regex_short (folded c.args.s_mark c.args.s.now) c.args.p.now (omega (arith, c.requires.0, c.requires.1)) _ c.search.ensures
