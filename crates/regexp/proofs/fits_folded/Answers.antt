use mathlib.Core.Path.{ap, ◌∙◌}
use native.Mathlib.Omega.{arith}
use mathlib.Core.Bool.{true}
use Rattle.octets.specs.Octets.{folded}
use Rattle.regexp.specs.Regex.{regex_of}
use Rattle.regexp.proofs.Loops.{regex_long, folded_length}
use Rattle.regexp.proofs.fits_folded.Goals as goal

pub returns-then-p-gt4096 : goal.returns-then-p-gt4096
returns-then-p-gt4096 c =
    regex_long (folded c.args.s_mark c.args.s.now) (folded true c.args.p.now) (rw (folded_length c.args.p.now) (omega arith))

pub returns : goal.returns
returns c =
    let a = c.args in
    c.fits_plain.ensures ∙ ap (regex_of (folded a.s_mark a.s.now)) c.copy_folded.ensures
