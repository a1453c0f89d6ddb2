use mathlib.Core.Path.{◌≡◌, sym, ap, ◌∙◌}
use mathlib.Core.List.{List}
use Prim.Native.Nat.{ℕ, ◌+◌, ◌-◌, ◌/◌, ◌≤◌}
use native.Mathlib.Omega.{arith}
use lib.ListN.{length, take, drop, length-drop}
use Rattle.record.specs.declared.Record.{Record}
use Rattle.record.specs.declared.Record.TheVariants.{Whole}
use Rattle.record.specs.Record.{record_of, waits_of}
use Rattle.record.proofs.Theorems.{whole_lies}
use Rattle.record.specs.Line.{line_room}
use Rattle.session.proofs.Laws.{to_end, between, between_length, along_first, along_more, along_full, along_waits, along_error}
use Rattle.session.proofs.serve.Goals as goal

-- the record reader's finding at the stretch's own bytes
found_at : (s : List ℕ) (at : ℕ) (r : Record) → r ≡ record_of (take (length s - at) (drop at s)) → r ≡ record_of (drop at s)
found_at s at r e = e ∙ ap record_of (to_end s at)

-- the whole record that was taken
whole_at : (s : List ℕ) (at : ℕ) (r : Record) (kind size : ℕ) → r ≡ record_of (take (length s - at) (drop at s)) → r ≡ Whole kind size → record_of (drop at s) ≡ Whole kind size
whole_at s at r kind size e w = sym (found_at s at r e) ∙ w

lies_at : (s : List ℕ) (at : ℕ) (r : Record) (kind size : ℕ) → at ≤ length s → r ≡ record_of (take (length s - at) (drop at s)) → r ≡ Whole kind size → (6 ≤ size) × (at + size ≤ length s)
lies_at s at r kind size h e w =
    let l = whole_lies (drop at s) kind size (whole_at s at r kind size e w) in
    let d = length-drop at s in
    (l.0, omega (arith, l.2))

pub loop-i-init : goal.loop-i-init
loop-i-init c =
    let a = c.args in
    let turns = length a.out.now / line_room in
    (turns, omega arith, along_first a.input.now a.last a.table.now a.held a.out.now turns c.requires.0 c.requires.1 (omega arith))

pub slice_bounds-next_record-count : goal.slice_bounds-next_record-count
slice_bounds-next_record-count c = omega (arith, c.loop-i.invariant.2.placed)

pub slice_bounds-next_record-start : goal.slice_bounds-next_record-start
slice_bounds-next_record-start c = omega (arith, c.loop-i.invariant.2.placed)

pub slice_bounds-next_record-end : goal.slice_bounds-next_record-end
slice_bounds-next_record-end c = omega (arith, c.loop-i.invariant.2.placed)

pub shape_of-table-then-waits : goal.shape_of-table-then-waits
shape_of-table-then-waits c = c.loop-i.invariant.2.same_buffer

pub shape_of-out-then-waits : goal.shape_of-out-then-waits
shape_of-out-then-waits c = c.loop-i.invariant.2.same_out

pub returns-then-waits : goal.returns-then-waits
returns-then-waits c =
    along_waits c.loop-i.invariant.2 (omega arith)
    (ap (λ (r : Record). waits_of r c.args.last) (sym (found_at c.args.input.now c.loop-i.at c.next_record-found.result c.next_record-found.ensures)) ∙ sym c.waits.ensures ∙ c.if-waits.true)

pub put_error_line-end-requires : goal.put_error_line-end-requires
put_error_line-end-requires c = omega (arith, c.loop-i.invariant.2.room)

pub shape_of-table-in_default : goal.shape_of-table-in_default
shape_of-table-in_default c = c.loop-i.invariant.2.same_buffer

pub shape_of-out-in_default : goal.shape_of-out-in_default
shape_of-out-in_default c = c.put_error_line-end.auto.out ∙ c.loop-i.invariant.2.same_out

pub returns-in_default : goal.returns-in_default
returns-in_default c =
    along_error c.loop-i.invariant.2 _ c.put_error_line-end.result (omega arith)
    (ap (λ (r : Record). waits_of r c.args.last) (sym (found_at c.args.input.now c.loop-i.at c.next_record-found.result c.next_record-found.ensures)) ∙ sym c.waits.ensures ∙ c.if-waits.false)
    (λ k n w. c.in_default.not-Whole k n (found_at c.args.input.now c.loop-i.at c.next_record-found.result c.next_record-found.ensures ∙ w))
    c.put_error_line-end.auto.out c.put_error_line-end.ensures.1 c.put_error_line-end.ensures.0

pub overflow_add-next : goal.overflow_add-next
overflow_add-next c = omega (arith, lies_at c.args.input.now c.loop-i.at c.next_record-found.result c.in-Whole.kind c.in-Whole.size c.loop-i.invariant.2.placed c.next_record-found.ensures c.in-Whole.is, c.well_formed)

pub slice_bounds-answer-count : goal.slice_bounds-answer-count
slice_bounds-answer-count c = omega arith

pub slice_bounds-answer-start : goal.slice_bounds-answer-start
slice_bounds-answer-start c = omega arith

pub slice_bounds-answer-end : goal.slice_bounds-answer-end
slice_bounds-answer-end c = omega (arith, lies_at c.args.input.now c.loop-i.at c.next_record-found.result c.in-Whole.kind c.in-Whole.size c.loop-i.invariant.2.placed c.next_record-found.ensures c.in-Whole.is)

pub answer-done-requires : goal.answer-done-requires
answer-done-requires c =
    let l = lies_at c.args.input.now c.loop-i.at c.next_record-found.result c.in-Whole.kind c.in-Whole.size c.loop-i.invariant.2.placed c.next_record-found.ensures c.in-Whole.is in
    let n = between_length c.args.input.now c.loop-i.at c.in-Whole.size l.1 in
    (omega (arith, l, n), c.loop-i.invariant.2.within, c.loop-i.invariant.2.sound, omega (arith, c.loop-i.invariant.2.room))

pub loop-i-preserved : goal.loop-i-preserved
loop-i-preserved c =
    let a = c.answer-done in
    let at = c.loop-i.at in
    let size = c.in-Whole.size in (
      c.loop-i.invariant.0 - 1,
      omega arith,
      along_more _ _ _ c.in-Whole.kind size a.result c.loop-i.invariant.2 (omega arith) (whole_at c.args.input.now c.loop-i.at c.next_record-found.result c.in-Whole.kind c.in-Whole.size c.next_record-found.ensures c.in-Whole.is) (lies_at c.args.input.now c.loop-i.at c.next_record-found.result c.in-Whole.kind c.in-Whole.size c.loop-i.invariant.2.placed c.next_record-found.ensures c.in-Whole.is).1
          (between c.args.input.now at size) a.auto.table a.auto.out a.ensures,
    )

pub shape_of-table : goal.shape_of-table
shape_of-table c = c.loop-i.invariant.2.same_buffer

pub shape_of-out : goal.shape_of-out
shape_of-out c = c.loop-i.invariant.2.same_out

pub returns : goal.returns
returns c = along_full c.loop-i.invariant.2 (omega arith)
