-- `comes_last` meets its contract: the last name is the greatest. Assumes nothing.
use mathlib.Core.Path.{◌∙◌}
use Prim.Native.Nat.{◌-◌}
use native.Mathlib.Omega.{arith}
use Rattle.notice.specs.Layout.{name_at}
use Rattle.mend.proofs.Orders.{right_at_lem, by_last}
use Rattle.mend.proofs.ordering.comes_last.Goals as goal

pub name_before-requires : goal.name_before-requires
name_before-requires c =
    let a = c.args in
    (right_at_lem a.bytes.now a.order.now a.n c.requires.1 (a.n - 1) (omega (arith, c.if-n-eq0.false)), c.requires.0)

pub returns : goal.returns
returns c =
    let a = c.args in
    c.name_before.ensures ∙ by_last a.bytes.now a.order.now a.n c.requires.1 (name_at a.bytes.now a.at) (omega (arith, c.if-n-eq0.false))
