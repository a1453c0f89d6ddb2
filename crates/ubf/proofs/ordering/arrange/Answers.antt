-- `arrange` meets its contract: the rows from `left` on are in order, and none of their names is repeated. Assumes nothing.
use mathlib.Core.Path.{◌≡◌, sym, ap, subst, ◌∙◌}
use mathlib.Core.List.{List}
use Prim.Native.Nat.{ℕ, ◌+◌, ◌-◌, ◌≤◌}
use native.Mathlib.Omega.{arith}
use lib.ListN.{drop, set, length-set}
use Rattle.notice.specs.Write.{has_name}
use Rattle.notice.specs.Write.{place_among}
use Rattle.ubf.specs.Span.{name_in, SpanIn, row_in, row_fields}
use Rattle.ubf.specs.declared.spans.Span.{Span}
use Rattle.ubf.proofs.Arranged.{place_within, Sofar, row_lies, rising_rows, repeated_here, sofar_start, sofar_more, arranged, not_arranged}
use Rattle.ubf.proofs.ordering.arrange.Goals as goal

pub loop-left-init : goal.loop-left-init
loop-left-init c =
    let a = c.args in
    let p = c.requires in
    (omega arith, p.2, sofar_start a.text.now a.rows.now a.count p.0 p.1 p.3 a.order.now p.2)

pub overflow_sub-first : goal.overflow_sub-first
overflow_sub-first c = omega (arith, c.requires.0)

pub overflow_add-first : goal.overflow_add-first
overflow_add-first c = omega (arith, c.requires.0, c.loop-left.invariant.0)

pub overflow_sub-left : goal.overflow_sub-left
overflow_sub-left c = omega (arith, c.loop-left-test.true)

pub span_at-s-requires : goal.span_at-s-requires
span_at-s-requires c = omega (arith, c.requires.0, c.requires.1, c.loop-left.invariant.0, c.loop-left-test.true)

pub place_for-at-requires : goal.place_for-at-requires
place_for-at-requires c = ((subst (SpanIn c.args.text.now) (sym c.span_at-s.ensures) (row_lies c.args.text.now c.args.rows.now c.args.count c.requires.0 c.requires.1 c.requires.3 (c.loop-left.left - 1) (omega (arith, c.loop-left.invariant.0, c.loop-left-test.true)))), (rising_rows c.args.text.now c.args.rows.now c.args.count c.requires.0 c.requires.1 c.requires.3 c.loop-left.order c.loop-left.invariant.1 c.loop-left.left c.loop-left.invariant.2 (omega (arith, c.loop-left-test.true)) c.loop-left.invariant.0))

pub repeated_at-requires : goal.repeated_at-requires
repeated_at-requires c =
    ((subst (SpanIn c.args.text.now) (sym c.span_at-s.ensures) (row_lies c.args.text.now c.args.rows.now c.args.count c.requires.0 c.requires.1 c.requires.3 (c.loop-left.left - 1) (omega (arith, c.loop-left.invariant.0, c.loop-left-test.true)))), (rising_rows c.args.text.now c.args.rows.now c.args.count c.requires.0 c.requires.1 c.requires.3 c.loop-left.order c.loop-left.invariant.1 c.loop-left.left c.loop-left.invariant.2 (omega (arith, c.loop-left-test.true)) c.loop-left.invariant.0), c.place_for-at.ensures)

pub shape_of-order-then-repeated_at : goal.shape_of-order-then-repeated_at
shape_of-order-then-repeated_at c = c.loop-left.invariant.1 ∙ sym c.requires.2

pub returns-then-repeated_at : goal.returns-then-repeated_at
returns-then-repeated_at c =
    let a = c.args in
    let p = c.requires in
    let l = c.loop-left in
    not_arranged a.text.now a.rows.now a.count p.0 p.1 p.3 l.order
    (repeated_here a.text.now a.rows.now a.count p.0 p.1 p.3 l.order l.invariant.1 l.left l.invariant.2 (omega (arith, c.loop-left-test.true)) l.invariant.0 (sym c.if-repeated_at.true ∙ (c.repeated_at.ensures ∙ ap (λ (s : Span). has_name (name_in c.args.text.now s) (row_fields c.args.text.now c.args.rows.now (drop (64 - c.args.count + c.loop-left.left) c.loop-left.order))) c.span_at-s.ensures)))

pub overflow_sub-first-in-loop-left : goal.overflow_sub-first-in-loop-left
overflow_sub-first-in-loop-left c = omega (arith, c.loop-left-test.true)

pub move_down-requires : goal.move_down-requires
move_down-requires c =
    let v = place_within c.args.text.now c.args.rows.now c.loop-left.order (64 - c.args.count + c.loop-left.left) (rising_rows c.args.text.now c.args.rows.now c.args.count c.requires.0 c.requires.1 c.requires.3 c.loop-left.order c.loop-left.invariant.1 c.loop-left.left c.loop-left.invariant.2 (omega (arith, c.loop-left-test.true)) c.loop-left.invariant.0) (name_in c.args.text.now (row_in c.args.rows.now (c.loop-left.left - 1))) in
    let q : c.place_for-at.result ≡ 64 - c.args.count + c.loop-left.left + place_among (name_in c.args.text.now (row_in c.args.rows.now (c.loop-left.left - 1))) (row_fields c.args.text.now c.args.rows.now (drop (64 - c.args.count + c.loop-left.left) c.loop-left.order)) = c.place_for-at.ensures ∙ ap (λ (s : Span). 64 - c.args.count + c.loop-left.left + place_among (name_in c.args.text.now s) (row_fields c.args.text.now c.args.rows.now (drop (64 - c.args.count + c.loop-left.left) c.loop-left.order))) c.span_at-s.ensures in
    let w : (64 - c.args.count + c.loop-left.left ≤ c.place_for-at.result) × (c.place_for-at.result ≤ 64) = omega (arith, v, q) in (omega arith, omega (arith, w), omega (arith, w, c.loop-left.invariant.1))

pub overflow_sub-order : goal.overflow_sub-order
overflow_sub-order c = omega (arith, c.loop-left-test.true)

pub overflow_cast-order : goal.overflow_cast-order
overflow_cast-order c = omega (arith, c.requires.0, c.loop-left.invariant.0)

pub overflow_sub-order-in-loop-left : goal.overflow_sub-order-in-loop-left
overflow_sub-order-in-loop-left c =
    let v = place_within c.args.text.now c.args.rows.now c.loop-left.order (64 - c.args.count + c.loop-left.left) (rising_rows c.args.text.now c.args.rows.now c.args.count c.requires.0 c.requires.1 c.requires.3 c.loop-left.order c.loop-left.invariant.1 c.loop-left.left c.loop-left.invariant.2 (omega (arith, c.loop-left-test.true)) c.loop-left.invariant.0) (name_in c.args.text.now (row_in c.args.rows.now (c.loop-left.left - 1))) in
    let q : c.place_for-at.result ≡ 64 - c.args.count + c.loop-left.left + place_among (name_in c.args.text.now (row_in c.args.rows.now (c.loop-left.left - 1))) (row_fields c.args.text.now c.args.rows.now (drop (64 - c.args.count + c.loop-left.left) c.loop-left.order)) = c.place_for-at.ensures ∙ ap (λ (s : Span). 64 - c.args.count + c.loop-left.left + place_among (name_in c.args.text.now s) (row_fields c.args.text.now c.args.rows.now (drop (64 - c.args.count + c.loop-left.left) c.loop-left.order))) c.span_at-s.ensures in
    omega (arith, c.loop-left-test.true, v, q)

pub bounds-order-at : goal.bounds-order-at
bounds-order-at c =
    let v = place_within c.args.text.now c.args.rows.now c.loop-left.order (64 - c.args.count + c.loop-left.left) (rising_rows c.args.text.now c.args.rows.now c.args.count c.requires.0 c.requires.1 c.requires.3 c.loop-left.order c.loop-left.invariant.1 c.loop-left.left c.loop-left.invariant.2 (omega (arith, c.loop-left-test.true)) c.loop-left.invariant.0) (name_in c.args.text.now (row_in c.args.rows.now (c.loop-left.left - 1))) in
    let q : c.place_for-at.result ≡ 64 - c.args.count + c.loop-left.left + place_among (name_in c.args.text.now (row_in c.args.rows.now (c.loop-left.left - 1))) (row_fields c.args.text.now c.args.rows.now (drop (64 - c.args.count + c.loop-left.left) c.loop-left.order)) = c.place_for-at.ensures ∙ ap (λ (s : Span). 64 - c.args.count + c.loop-left.left + place_among (name_in c.args.text.now s) (row_fields c.args.text.now c.args.rows.now (drop (64 - c.args.count + c.loop-left.left) c.loop-left.order))) c.span_at-s.ensures in
    omega (arith, c.loop-left-test.true, v, q, c.move_down.auto.buffer, c.loop-left.invariant.1)

pub overflow_sub-left-in-loop-left : goal.overflow_sub-left-in-loop-left
overflow_sub-left-in-loop-left c = omega (arith, c.loop-left-test.true)

pub loop-left-smaller : goal.loop-left-smaller
loop-left-smaller c = omega (arith, c.loop-left-test.true)

pub loop-left-preserved : goal.loop-left-preserved
loop-left-preserved c =
    let a = c.args in
    let p = c.requires in
    let l = c.loop-left in
    let at = c.place_for-at.result in
    let t = sofar_more a.text.now a.rows.now a.count p.0 p.1 p.3 l.order l.invariant.1 l.left l.invariant.2 (omega (arith, c.loop-left-test.true)) l.invariant.0 at (c.place_for-at.ensures ∙ ap (λ (s : Span). 64 - c.args.count + c.loop-left.left + place_among (name_in c.args.text.now s) (row_fields c.args.text.now c.args.rows.now (drop (64 - c.args.count + c.loop-left.left) c.loop-left.order))) c.span_at-s.ensures) (sym c.if-repeated_at.false ∙ (c.repeated_at.ensures ∙ ap (λ (s : Span). has_name (name_in c.args.text.now s) (row_fields c.args.text.now c.args.rows.now (drop (64 - c.args.count + c.loop-left.left) c.loop-left.order))) c.span_at-s.ensures)) in
    (omega (arith, l.invariant.0), simp length-set (omega (arith, c.move_down.auto.buffer, l.invariant.1)), subst (λ (o : List ℕ). Sofar a.text.now a.rows.now a.count (set o (at - 1) (l.left - 1)) (l.left - 1)) (sym c.move_down.ensures) t)

pub shape_of-order : goal.shape_of-order
shape_of-order c = c.loop-left.invariant.1 ∙ sym c.requires.2

pub returns : goal.returns
returns c =
    let a = c.args in
    let p = c.requires in
    let l = c.loop-left in
    arranged a.text.now a.rows.now a.count p.0 p.1 p.3 l.order l.left (omega (arith, c.loop-left-test.false)) l.invariant.2
