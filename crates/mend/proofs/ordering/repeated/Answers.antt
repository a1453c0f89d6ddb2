-- `repeated` meets its contract: where names rise, only the one before the place may be the same. Assumes nothing.
use mathlib.Core.Path.{sym, ◌∙◌}
use Prim.Native.Nat.{◌-◌}
use native.Mathlib.Omega.{arith}
use Rattle.notice.specs.Layout.{name_at}
use Rattle.mend.proofs.Orders.{right_at_lem, place_within, first_new, by_before}
use Rattle.mend.proofs.ordering.repeated.Goals as goal

pub returns-then-place-eq0 : goal.returns-then-place-eq0
returns-then-place-eq0 c =
    let a = c.args in
    sym (first_new a.bytes.now a.order.now a.n c.requires.1 (name_at a.bytes.now a.at) a.place c.requires.2 (omega (arith, c.if-place-eq0.true)))

pub offset_bounds-order-place : goal.offset_bounds-order-place
offset_bounds-order-place c = omega (arith, place_within c.args.bytes.now c.args.order.now c.args.n c.requires.1 (name_at c.args.bytes.now c.args.at), c.requires.2, c.requires.1.few)

pub bounds-order-place : goal.bounds-order-place
bounds-order-place c =
    omega (arith, place_within c.args.bytes.now c.args.order.now c.args.n c.requires.1 (name_at c.args.bytes.now c.args.at), c.requires.2, c.if-place-eq0.false, c.requires.1.few, c.requires.1.long)

pub same_name-requires : goal.same_name-requires
same_name-requires c = ((right_at_lem c.args.bytes.now c.args.order.now c.args.n c.requires.1 (c.args.place - 1) (omega (arith, place_within c.args.bytes.now c.args.order.now c.args.n c.requires.1 (name_at c.args.bytes.now c.args.at), c.requires.2, c.if-place-eq0.false))), c.requires.0)

pub returns : goal.returns
returns c =
    let a = c.args in
    c.same_name.ensures ∙ by_before a.bytes.now a.order.now a.n c.requires.1 (name_at a.bytes.now a.at) a.place c.requires.2 (omega (arith, c.if-place-eq0.false))
