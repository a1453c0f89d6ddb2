-- `put_spans` meets its contract: storing the fields from place k of the order on makes the same of the buffer. Assumes nothing.
use mathlib.Core.Path.{◌≡◌, refl, sym, ap, subst, ◌∙◌}
use Prim.Native.Nat.{◌+◌, ◌≤◌}
use native.Mathlib.Omega.{arith}
use lib.ListN.{length, get_or}
use lib.Seq.{sets}
use Rattle.notice.specs.Render.{field_bytes}
use Rattle.ubf.specs.Span.{field_in, SpanIn, row_in}
use Rattle.ubf.specs.declared.spans.Span.{Span}
use Rattle.ubf.proofs.Placed.{span_length, row_short, rest_length, rest_stored, rest_none}
use Rattle.ubf.proofs.placing.put_spans.Goals as goal

pub overflow_sub-k : goal.overflow_sub-k
overflow_sub-k c = omega (arith, c.requires.few)

pub loop-k-init : goal.loop-k-init
loop-k-init c = let p = c.requires in (omega arith, refl, p.lie, p.fits, refl)

pub bounds-order-k : goal.bounds-order-k
bounds-order-k c = omega (arith, c.loop-k-test.true, c.requires.order_long)

pub overflow_cast-order : goal.overflow_cast-order
overflow_cast-order c = omega (arith, (row_short c.args.text.now c.args.rows.now c.args.order.now c.requires.order_long c.loop-k.k c.loop-k-test.true c.loop-k.invariant.2).near)

pub span_at-requires : goal.span_at-requires
span_at-requires c = omega (arith, (row_short c.args.text.now c.args.rows.now c.args.order.now c.requires.order_long c.loop-k.k c.loop-k-test.true c.loop-k.invariant.2).near, c.requires.rows_long)

pub put_span-at-requires : goal.put_span-at-requires
put_span-at-requires c =
    let a = c.args in
    let l = c.loop-k in
    let r = (row_short c.args.text.now c.args.rows.now c.args.order.now c.requires.order_long c.loop-k.k c.loop-k-test.true c.loop-k.invariant.2) in
    let n = rest_length a.text.now a.rows.now a.order.now c.requires.order_long l.k c.loop-k-test.true in
    let m = span_length a.text.now (row_in a.rows.now (get_or a.order.now l.k 0)) r.lies in
    subst (λ (s : Span). SpanIn a.text.now s × (s.namelen ≤ 64) × (s.len ≤ 1024) × (l.at + 5 + s.namelen + s.len ≤ length l.buffer)) (sym c.span_at.ensures)
    (r.lies, r.name_short, r.value_short, omega (arith, n, m, l.invariant.3))

pub overflow_add-k : goal.overflow_add-k
overflow_add-k c = omega (arith, c.loop-k-test.true)

pub loop-k-smaller : goal.loop-k-smaller
loop-k-smaller c = omega (arith, c.loop-k-test.true)

pub loop-k-preserved : goal.loop-k-preserved
loop-k-preserved c =
    let a = c.args in
    let l = c.loop-k in
    let h = c.loop-k-test.true in
    let s = c.span_at.result in
    let p = c.put_span-at.ensures in
    let r = (row_short c.args.text.now c.args.rows.now c.args.order.now c.requires.order_long c.loop-k.k c.loop-k-test.true c.loop-k.invariant.2) in
    let n = rest_length a.text.now a.rows.now a.order.now c.requires.order_long l.k h in
    let m : length (field_bytes (field_in a.text.now s)) ≡ length (field_bytes (field_in a.text.now (row_in a.rows.now (get_or a.order.now l.k 0)))) = ap (λ (t : Span). length (field_bytes (field_in a.text.now t))) c.span_at.ensures in (
      omega arith,
      omega (arith, c.put_span-at.auto.buffer, l.invariant.1),
      r.others,
      omega (arith, n, m, p.next, c.put_span-at.auto.buffer, l.invariant.3),
      rest_stored a.text.now a.rows.now a.order.now c.requires.order_long l.buffer c.put_span-at.new.buffer l.at c.put_span-at.result l.k s h c.span_at.ensures p ∙ l.invariant.4,
    )

pub shape_of-buffer : goal.shape_of-buffer
shape_of-buffer c = c.loop-k.invariant.1

pub returns : goal.returns
returns c =
    let a = c.args in
    let l = c.loop-k in
    sym (ap (sets l.buffer l.at) (rest_none a.text.now a.rows.now a.order.now c.requires.order_long l.k (omega (arith, c.loop-k-test.false)))) ∙ l.invariant.4
