use mathlib.Core.Path.{sym, ap, ◌∙◌}
use mathlib.Core.Bool.{Bool}
use Rattle.octets.specs.Octets.{folded}
use Rattle.octets.proofs.Theorems.{not_folded}
use Rattle.regexp.specs.Regex.{regex_of}
use Rattle.regexp.proofs.fits.Goals as goal

pub returns-then-p_mark : goal.returns-then-p_mark
returns-then-p_mark c =
    c.fits_folded.ensures ∙ ap (λ (m : Bool). regex_of (folded c.args.s_mark c.args.s.now) (folded m c.args.p.now)) (sym c.if-p_mark.true)

pub returns : goal.returns
returns c =
    c.fits_plain.ensures ∙ ap (regex_of (folded c.args.s_mark c.args.s.now)) (sym (not_folded c.args.p.now)) ∙ ap (λ (m : Bool). regex_of (folded c.args.s_mark c.args.s.now) (folded m c.args.p.now)) (sym c.if-p_mark.false)
