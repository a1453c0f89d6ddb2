use Rattle.pattern.proofs.Items.{set_taken_of, set_takes, turned_test}
use Rattle.pattern.proofs.Texts.{mark_sign, sign_same}
use Rattle.octets.specs.Octets.{folded}
use mathlib.Core.Path.{sym, ap, ◌∙◌}
use Rattle.pattern.proofs.wildcard.set_takes.Goals as goal

pub returns-in_err-set : goal.returns-in_err-set
returns-in_err-set c =
    let a = c.args in
    let g = sign_same a.mark a.p.now a.i 33 mark_sign in
    c.from_residual.ensures ∙ ap (set_taken_of c.begins-out.result) (sym c.in_err-set.was ∙ c.set_test.ensures) ∙ set_takes (folded a.mark a.p.now) a.i a.c c.begins-out.result c.from.result c.from.ensures (g ∙ sym c.begins-out.ensures)

pub returns-then-set-out : goal.returns-then-set-out
returns-then-set-out c =
    let a = c.args in
    let g = sign_same a.mark a.p.now a.i 33 mark_sign in
    let h = sym (turned_test c.begins-out.result c.in_ok-set.set.hit) ∙ c.if-set-out.true in
    sym (rw h) ∙ ap (set_taken_of c.begins-out.result) (sym c.in_ok-set.was ∙ c.set_test.ensures) ∙ set_takes (folded a.mark a.p.now) a.i a.c c.begins-out.result c.from.result c.from.ensures (g ∙ sym c.begins-out.ensures)

pub returns-else-set-out : goal.returns-else-set-out
returns-else-set-out c =
    let a = c.args in
    let g = sign_same a.mark a.p.now a.i 33 mark_sign in
    let h = sym (turned_test c.begins-out.result c.in_ok-set.set.hit) ∙ c.if-set-out.false in
    sym (rw h) ∙ ap (set_taken_of c.begins-out.result) (sym c.in_ok-set.was ∙ c.set_test.ensures) ∙ set_takes (folded a.mark a.p.now) a.i a.c c.begins-out.result c.from.result c.from.ensures (g ∙ sym c.begins-out.ensures)
