use mathlib.Core.List.{List}
use mathlib.Core.Path.{ap, ap₂, ◌∙◌}
use Prim.Native.Nat.{ℕ, ◌+◌}
use native.Mathlib.Omega.{arith}
use lib.ListN.{length}
use Rattle.ubf.specs.Escape.{escapes}
use Rattle.ubf.specs.Text.{value_text}
use Rattle.notice.specs.Layout.{field_at}
use Rattle.notice.specs.Field.{size_right}
use Rattle.ubf.proofs.Values.{parts, name_part, value_part, length_field}
use Rattle.ubf.proofs.writing.field_length.Goals as goal

pub overflow_add-name : goal.overflow_add-name
overflow_add-name c = let p = parts c.args.notice.now c.args.at c.requires in omega arith

pub name_size-requires : goal.name_size-requires
name_size-requires c = let p = parts c.args.notice.now c.args.at c.requires in omega arith

pub overflow_add-value : goal.overflow_add-value
overflow_add-value c = let p = parts c.args.notice.now c.args.at c.requires in omega arith

pub overflow_add-end : goal.overflow_add-end
overflow_add-end c = let p = parts c.args.notice.now c.args.at c.requires in omega arith

pub field_size-requires : goal.field_size-requires
field_size-requires c = let p = parts c.args.notice.now c.args.at c.requires in omega arith

pub overflow_add-end-2 : goal.overflow_add-end-2
overflow_add-end-2 c = let p = parts c.args.notice.now c.args.at c.requires in omega arith

pub slice_bounds-escaped_length-count : goal.slice_bounds-escaped_length-count
slice_bounds-escaped_length-count c = let p = parts c.args.notice.now c.args.at c.requires in omega arith

pub slice_bounds-escaped_length-start : goal.slice_bounds-escaped_length-start
slice_bounds-escaped_length-start c = let p = parts c.args.notice.now c.args.at c.requires in omega arith

pub slice_bounds-escaped_length-end : goal.slice_bounds-escaped_length-end
slice_bounds-escaped_length-end c = let p = parts c.args.notice.now c.args.at c.requires in omega arith

pub escaped_length-n-requires : goal.escaped_length-n-requires
escaped_length-n-requires c =
    let p = parts c.args.notice.now c.args.at c.requires in let e = name_part c.args.notice.now c.args.at (c.args.at + 5 + c.name_size.result) (omega arith) in omega (arith, ap length e)

pub overflow_add-result : goal.overflow_add-result
overflow_add-result c =
    let p = parts c.args.notice.now c.args.at c.requires in let e = name_part c.args.notice.now c.args.at (c.args.at + 5 + c.name_size.result) (omega arith) in omega (arith, ap length e)

pub overflow_add-at : goal.overflow_add-at
overflow_add-at c = let p = parts c.args.notice.now c.args.at c.requires in omega arith

pub read_u16-requires : goal.read_u16-requires
read_u16-requires c = let p = parts c.args.notice.now c.args.at c.requires in omega arith

pub slice_bounds-value_length-count : goal.slice_bounds-value_length-count
slice_bounds-value_length-count c = let p = parts c.args.notice.now c.args.at c.requires in omega arith

pub slice_bounds-value_length-start : goal.slice_bounds-value_length-start
slice_bounds-value_length-start c = let p = parts c.args.notice.now c.args.at c.requires in omega arith

pub slice_bounds-value_length-end : goal.slice_bounds-value_length-end
slice_bounds-value_length-end c = let p = parts c.args.notice.now c.args.at c.requires in omega arith

pub value_length-requires : goal.value_length-requires
value_length-requires c =
    let p = parts c.args.notice.now c.args.at c.requires in let e = value_part c.args.notice.now c.args.at (c.args.at + 5 + c.name_size.result) (c.args.at + 2 + c.field_size.result) (omega arith) (omega arith) in ap₂ (λ (k : ℕ) (v : List ℕ). size_right k (length v)) c.read_u16.ensures e ∙ p.size_right_lem

pub overflow_add-result-2 : goal.overflow_add-result-2
overflow_add-result-2 c =
    let p = parts c.args.notice.now c.args.at c.requires in let e = name_part c.args.notice.now c.args.at (c.args.at + 5 + c.name_size.result) (omega arith) in omega (arith, ap length e)

pub returns : goal.returns
returns c =
    let p = parts c.args.notice.now c.args.at c.requires in let s = c.args.notice.now in let i = c.args.at in let e = name_part s i (i + 5 + c.name_size.result) (omega arith) in let f = value_part s i (i + 5 + c.name_size.result) (i + 2 + c.field_size.result) (omega arith) (omega arith) in let a = c.escaped_length-n.ensures.0 ∙ ap (λ (l : List ℕ). length (escapes 34 l)) e in let b = c.value_length.ensures.0 ∙ ap₂ (λ (k : ℕ) (v : List ℕ). length (value_text k v)) c.read_u16.ensures f in (omega (arith, length_field (field_at s i)), omega (arith, ap length e))
