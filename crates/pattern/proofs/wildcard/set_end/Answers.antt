use Rattle.pattern.proofs.Items.{set_end_of, set_ends}
use Rattle.octets.proofs.Theorems.{not_folded}
use mathlib.Core.Path.{sym, ap, ◌∙◌}
use Rattle.pattern.proofs.wildcard.set_end.Goals as goal

pub returns-in_err-set : goal.returns-in_err-set
returns-in_err-set c =
    let a = c.args in
    let f = not_folded a.p.now in
    let e = (rw f at c.set_test.ensures) in
    c.from_residual.ensures ∙ ap set_end_of (sym c.in_err-set.was ∙ e) ∙ set_ends a.p.now a.i 0 c.begins-out.result c.from.result c.from.ensures (sym c.begins-out.ensures)

pub returns : goal.returns
returns c =
    let a = c.args in
    let f = not_folded a.p.now in
    let e = (rw f at c.set_test.ensures) in
    ap set_end_of (sym c.in_ok-set.was ∙ e) ∙ set_ends a.p.now a.i 0 c.begins-out.result c.from.result c.from.ensures (sym c.begins-out.ensures)
