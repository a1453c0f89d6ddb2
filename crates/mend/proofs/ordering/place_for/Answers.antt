-- `place_for` meets its contract: the place lies between `low` and `high`. Assumes nothing.
use mathlib.Core.Path.{sym, ◌∙◌}
use Prim.Native.Nat.{◌+◌, ◌-◌, ◌/◌}
use native.Mathlib.Omega.{arith}
use Rattle.notice.specs.Layout.{name_at}
use Rattle.mend.proofs.Orders.{right_at_lem, place_within, not_after, after}
use Rattle.mend.proofs.ordering.place_for.Goals as goal

pub loop-low-init : goal.loop-low-init
loop-low-init c =
    let a = c.args in
    (omega arith, place_within a.bytes.now a.order.now a.n c.requires.1 (name_at a.bytes.now a.at), omega arith)

pub name_before-requires : goal.name_before-requires
name_before-requires c = (c.requires.0, (right_at_lem c.args.bytes.now c.args.order.now c.args.n c.requires.1 (c.loop-low.low + (c.loop-low.high - c.loop-low.low) / 2) (omega (arith, c.loop-low-test.true, c.loop-low.invariant))))

pub loop-low-preserved-then-name_before : goal.loop-low-preserved-then-name_before
loop-low-preserved-then-name_before c =
    let a = c.args in
    let l = c.loop-low in
    let n = not_after a.bytes.now a.order.now a.n c.requires.1 (name_at a.bytes.now a.at) (l.low + (l.high - l.low) / 2) (omega (arith, c.loop-low-test.true, l.invariant)) (sym c.name_before.ensures ∙ c.if-name_before.true) in
    (l.invariant.0, n, omega (arith, c.loop-low-test.true, l.invariant))

pub loop-low-preserved : goal.loop-low-preserved
loop-low-preserved c =
    let a = c.args in
    let l = c.loop-low in
    let n = after a.bytes.now a.order.now a.n c.requires.1 (name_at a.bytes.now a.at) (l.low + (l.high - l.low) / 2) (omega (arith, c.loop-low-test.true, l.invariant)) (sym c.name_before.ensures ∙ c.if-name_before.false) in
    (omega arith, l.invariant.1, l.invariant.2)
