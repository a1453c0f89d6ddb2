use mathlib.Core.Path.{sym, ◌∙◌}
use Rattle.octets.proofs.Theorems.{not_folded}
use Rattle.regexp.proofs.Parts.{set_found, set_missing}
use Rattle.regexp.proofs.set_word.Goals as goal

pub returns-in-Some : goal.returns-in-Some
returns-in-Some c =
    let a = c.args in
    let f = not_folded a.text.now in
    let g = (rw f at c.set_test.ensures) in
    set_found a.text.now a.i c.begins-out.result c.from.result c.from.ensures (sym c.begins-out.ensures) c.from-in-Some.result c.from-in-Some.ensures c.in-Some.set (sym c.in-Some.is ∙ g)

pub returns-in-None : goal.returns-in-None
returns-in-None c =
    let a = c.args in
    let f = not_folded a.text.now in
    let g = (rw f at c.set_test.ensures) in
    set_missing a.text.now a.i c.begins-out.result c.from.result c.from.ensures (sym c.begins-out.ensures) (sym c.in-None.is ∙ g)
