-- `place_for` meets its contract: the place lies between `low` and `high`. Assumes nothing.
use mathlib.Core.Path.{sym, subst, ◌∙◌}
use Prim.Native.Nat.{◌+◌, ◌-◌, ◌/◌}
use native.Mathlib.Omega.{arith}
use Rattle.ubf.specs.Span.{name_in, SpanIn}
use Rattle.ubf.proofs.Arranged.{RowAt, row_at, not_after, after, place_within}
use Rattle.ubf.proofs.ordering.place_for.Lts as lts
use Rattle.ubf.proofs.ordering.place_for.Tie as tie
use Rattle.ubf.proofs.ordering.place_for.Reads as reads
use Rattle.ubf.proofs.ordering.place_for.Goals as goal

-- the row at the first place of the order, and the one in the middle
front : (c : lts.Then1 tie.the-claims reads.Pre reads.Post goal.the-invariant-loop-low goal.the-decreases-loop-low) → RowAt c.args.text.now c.args.rows.now c.args.order.now c.args.first c.args.first
front c = let a = c.args in row_at a.text.now a.rows.now a.order.now a.first c.requires.1 a.first (omega arith) (omega (arith, c.if-first-lt64.true))

middle : (c : lts.In-loop tie.the-claims reads.Pre reads.Post goal.the-invariant-loop-low goal.the-decreases-loop-low)
    → RowAt c.args.text.now c.args.rows.now c.args.order.now c.args.first (c.loop-low.low + (c.loop-low.high - c.loop-low.low) / 2)
middle c =
    let a = c.args in
    let l = c.loop-low in
    row_at a.text.now a.rows.now a.order.now a.first c.requires.1 (l.low + (l.high - l.low) / 2) (omega (arith, l.invariant)) (omega (arith, l.invariant, c.loop-low-test.true))

pub bounds-order-first : goal.bounds-order-first
bounds-order-first c = omega (arith, c.requires.1.order_long)

pub overflow_cast-order : goal.overflow_cast-order
overflow_cast-order c = omega (arith, (front c.before.before).small)

pub span_at-requires : goal.span_at-requires
span_at-requires c = (front c.before.before).near

pub name_before-requires : goal.name_before-requires
name_before-requires c =
    (c.requires.0, subst (SpanIn c.args.text.now) (sym c.span_at.ensures) (front c.before.before.before).lies)

pub returns-then-name_before : goal.returns-then-name_before
returns-then-name_before c =
    let a = c.args in
    let n = not_after a.text.now a.rows.now a.order.now a.first c.requires.1 a.first (omega arith) (omega (arith, c.if-first-lt64.true)) (name_in a.text.now a.s) c.span_at.result c.span_at.ensures
    (sym c.name_before.ensures ∙ c.if-name_before.true) in
    omega arith

pub loop-low-init : goal.loop-low-init
loop-low-init c =
    let a = c.args in
    let w = place_within a.text.now a.rows.now a.order.now a.first c.requires.1 (name_in a.text.now a.s) in
    (omega arith, omega arith, w, omega arith)

pub overflow_sub-middle : goal.overflow_sub-middle
overflow_sub-middle c = omega (arith, c.loop-low.invariant)

pub overflow_add-middle : goal.overflow_add-middle
overflow_add-middle c = omega (arith, c.loop-low.invariant)

pub bounds-order-middle : goal.bounds-order-middle
bounds-order-middle c = omega (arith, c.requires.1.order_long, c.loop-low.invariant)

pub overflow_cast-order-in-loop-low : goal.overflow_cast-order-in-loop-low
overflow_cast-order-in-loop-low c = omega (arith, (middle c.before.before).small)

pub span_at-requires-in-loop-low : goal.span_at-requires-in-loop-low
span_at-requires-in-loop-low c = (middle c.before.before).near

pub name_before-requires-in-loop-low : goal.name_before-requires-in-loop-low
name_before-requires-in-loop-low c =
    (c.requires.0, subst (SpanIn c.args.text.now) (sym c.span_at-in-loop-low.ensures) (middle c.before.before.before).lies)

pub loop-low-smaller-then-name_before-2 : goal.loop-low-smaller-then-name_before-2
loop-low-smaller-then-name_before-2 c = omega (arith, c.loop-low.invariant, c.loop-low-test.true)

pub loop-low-preserved-then-name_before-2 : goal.loop-low-preserved-then-name_before-2
loop-low-preserved-then-name_before-2 c =
    let a = c.args in
    let l = c.loop-low in
    let i = l.low + (l.high - l.low) / 2 in
    let n = not_after a.text.now a.rows.now a.order.now a.first c.requires.1 i (omega (arith, l.invariant)) (omega (arith, l.invariant, c.loop-low-test.true)) (name_in a.text.now a.s) c.span_at-in-loop-low.result c.span_at-in-loop-low.ensures
    (sym c.name_before-in-loop-low.ensures ∙ c.if-name_before-2.true) in
    (l.invariant.0, l.invariant.1, n, omega (arith, l.invariant, c.loop-low-test.true))

pub overflow_add-low : goal.overflow_add-low
overflow_add-low c = omega (arith, c.loop-low.invariant, c.loop-low-test.true)

pub loop-low-smaller : goal.loop-low-smaller
loop-low-smaller c = omega (arith, c.loop-low.invariant, c.loop-low-test.true)

pub loop-low-preserved : goal.loop-low-preserved
loop-low-preserved c =
    let a = c.args in
    let l = c.loop-low in
    let i = l.low + (l.high - l.low) / 2 in
    let n = after a.text.now a.rows.now a.order.now a.first c.requires.1 i (omega (arith, l.invariant)) (omega (arith, l.invariant, c.loop-low-test.true)) (name_in a.text.now a.s) c.span_at-in-loop-low.result c.span_at-in-loop-low.ensures
    (sym c.name_before-in-loop-low.ensures ∙ c.if-name_before-2.false) in
    (omega (arith, l.invariant), n, l.invariant.2, l.invariant.3)

pub returns : goal.returns
returns c = omega (arith, c.loop-low.invariant, c.loop-low-test.false)
