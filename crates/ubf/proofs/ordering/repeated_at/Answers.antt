-- `repeated_at` meets its contract: of the names in order only the one before the place can be the same. Assumes nothing.
use mathlib.Core.Path.{sym, subst, ◌∙◌}
use Prim.Native.Nat.{◌-◌, ◌≤◌, ◌<◌}
use native.Mathlib.Omega.{arith}
use Rattle.ubf.specs.Span.{name_in, SpanIn}
use Rattle.ubf.proofs.Arranged.{RowAt, row_at, place_within, there, there_before}
use Rattle.ubf.proofs.ordering.repeated_at.Lts as lts
use Rattle.ubf.proofs.ordering.repeated_at.Tie as tie
use Rattle.ubf.proofs.ordering.repeated_at.Reads as reads
use Rattle.ubf.proofs.ordering.repeated_at.Goals as goal

near : (c : lts.Else1 tie.the-claims reads.Pre reads.Post) → (c.args.first < c.args.at) × (c.args.at ≤ 64)
near c =
    let a = c.args in
    let w = place_within a.text.now a.rows.now a.order.now a.first c.requires.1 (name_in a.text.now a.s) in
    omega (arith, c.if-at-first.false, c.requires.2)

-- the row before place `at`
last : (c : lts.Else1 tie.the-claims reads.Pre reads.Post) → RowAt c.args.text.now c.args.rows.now c.args.order.now c.args.first (c.args.at - 1)
last c =
    let a = c.args in
    row_at a.text.now a.rows.now a.order.now a.first c.requires.1 (a.at - 1) (omega (arith, near c)) (omega (arith, near c))

pub returns-then-at-first : goal.returns-then-at-first
returns-then-at-first c =
    let a = c.args in
    there a.text.now a.rows.now a.order.now a.first c.requires.1 (name_in a.text.now a.s) a.at c.requires.2 (omega (arith, c.if-at-first.true))

pub bounds-order-at : goal.bounds-order-at
bounds-order-at c = omega (arith, near c.before.before, c.requires.1.order_long)

pub overflow_cast-order : goal.overflow_cast-order
overflow_cast-order c = omega (arith, (last c.before.before).small)

pub span_at-requires : goal.span_at-requires
span_at-requires c = (last c.before.before).near

pub name_same-requires : goal.name_same-requires
name_same-requires c =
    (subst (SpanIn c.args.text.now) (sym c.span_at.ensures) (last c.before.before.before).lies, c.requires.0)

pub returns : goal.returns
returns c =
    let a = c.args in
    c.name_same.ensures
    ∙ there_before a.text.now a.rows.now a.order.now a.first c.requires.1 (name_in a.text.now a.s) a.at c.span_at.result c.requires.2 (omega (arith, c.if-at-first.false)) c.span_at.ensures
