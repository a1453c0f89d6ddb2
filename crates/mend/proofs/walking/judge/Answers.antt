-- `judge` meets its contract: a name after all others is kept. Assumes nothing.
use mathlib.Core.Path.{◌≡◌, sym, ◌∙◌}
use native.Mathlib.Omega.{arith}
use borrow.Author.Tests.{eqb-true}
use Rattle.notice.specs.Layout.{name_at}
use Rattle.mend.specs.Mend.{code_among}
use Rattle.mend.specs.Order.{fields_in}
use Rattle.mend.proofs.Orders.{kept_place}
use Rattle.mend.proofs.Walks.{is_among}
use Rattle.mend.proofs.Admitted.{kept_at}
use Rattle.mend.proofs.walking.judge.Goals as goal

pub returns-then-comes_last : goal.returns-then-comes_last
returns-then-comes_last c =
    let a = c.args in
    let fs = fields_in a.bytes.now a.order.now a.n in
    let name = name_at a.bytes.now a.at in
    let z : 0 ≡ code_among fs name = sym (eqb-true (code_among fs name) 0 (sym c.comes_last.ensures ∙ c.if-comes_last.true)) in
    kept_at (z ∙ is_among a.bytes.now fs a.at (omega (arith, c.if-bytes-end.false, c.requires.1)) (sym c.right.ensures ∙ c.if-not-right.false)) (kept_place a.bytes.now a.order.now a.n c.requires.2 name z)
