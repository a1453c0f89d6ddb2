use mathlib.Core.Path.{ap, ap₂, ◌∙◌}
use Prim.Native.Nat.{ℕ, ◌+◌}
use native.Mathlib.Omega.{arith}
use mathlib.Core.List.{List}
use lib.ListN.{length}
use Rattle.decimal.proofs.Laws.{joined, renamed}
use Rattle.ubf.specs.Text.{string_text, value_text}
use Rattle.notice.specs.Layout.{kind_at, name_at, value_at, field_at}
use Rattle.notice.specs.Field.{size_right}
use Rattle.ubf.proofs.Laws.{length_string}
use Rattle.ubf.proofs.Values.{parts, name_part, value_part, length_field}
use Rattle.ubf.proofs.writing.put_field.Goals as goal

pub overflow_add-name : goal.overflow_add-name
overflow_add-name c = let p = parts c.args.notice.now c.args.at c.requires.0 in omega arith

pub name_size-requires : goal.name_size-requires
name_size-requires c = let p = parts c.args.notice.now c.args.at c.requires.0 in omega arith

pub overflow_add-value : goal.overflow_add-value
overflow_add-value c = let p = parts c.args.notice.now c.args.at c.requires.0 in omega arith

pub overflow_add-end : goal.overflow_add-end
overflow_add-end c = let p = parts c.args.notice.now c.args.at c.requires.0 in omega arith

pub field_size-requires : goal.field_size-requires
field_size-requires c = let p = parts c.args.notice.now c.args.at c.requires.0 in omega arith

pub overflow_add-end-2 : goal.overflow_add-end-2
overflow_add-end-2 c = let p = parts c.args.notice.now c.args.at c.requires.0 in omega arith

pub slice_bounds-put_string-end : goal.slice_bounds-put_string-end
slice_bounds-put_string-end c = let p = parts c.args.notice.now c.args.at c.requires.0 in omega arith

pub put_string-next-requires : goal.put_string-next-requires
put_string-next-requires c =
    let p = parts c.args.notice.now c.args.at c.requires.0 in let e = name_part c.args.notice.now c.args.at (c.args.at + 5 + c.name_size.result) (omega arith) in omega (arith, length_field (field_at c.args.notice.now c.args.at), length_string (name_at c.args.notice.now c.args.at), ap (λ (l : List ℕ). length (string_text l)) e)

pub overflow_add-at : goal.overflow_add-at
overflow_add-at c = let p = parts c.args.notice.now c.args.at c.requires.0 in omega arith

pub read_u16-requires : goal.read_u16-requires
read_u16-requires c = let p = parts c.args.notice.now c.args.at c.requires.0 in omega arith

pub slice_bounds-put_value-count : goal.slice_bounds-put_value-count
slice_bounds-put_value-count c = let p = parts c.args.notice.now c.args.at c.requires.0 in omega arith

pub slice_bounds-put_value-start : goal.slice_bounds-put_value-start
slice_bounds-put_value-start c = let p = parts c.args.notice.now c.args.at c.requires.0 in omega arith

pub slice_bounds-put_value-end : goal.slice_bounds-put_value-end
slice_bounds-put_value-end c = let p = parts c.args.notice.now c.args.at c.requires.0 in omega arith

pub put_value-requires : goal.put_value-requires
put_value-requires c =
    let p = parts c.args.notice.now c.args.at c.requires.0 in let e = name_part c.args.notice.now c.args.at (c.args.at + 5 + c.name_size.result) (omega arith) in let f = value_part c.args.notice.now c.args.at (c.args.at + 5 + c.name_size.result) (c.args.at + 2 + c.field_size.result) (omega arith) (omega arith) in let s = c.args.notice.now in let i = c.args.at in let z = c.put_string-next.ensures.next ∙ ap (λ (l : List ℕ). c.args.p + length (string_text l)) e in let k = c.read_u16.ensures in (ap₂ (λ (k : ℕ) (v : List ℕ). size_right k (length v)) k f ∙ p.size_right_lem, omega (arith, length_field (field_at s i), length_string (name_at s i), z, ap₂ (λ (k : ℕ) (v : List ℕ). length (value_text k v)) k f))

pub returns : goal.returns
returns c =
    let p = parts c.args.notice.now c.args.at c.requires.0 in let e = name_part c.args.notice.now c.args.at (c.args.at + 5 + c.name_size.result) (omega arith) in let f = value_part c.args.notice.now c.args.at (c.args.at + 5 + c.name_size.result) (c.args.at + 2 + c.field_size.result) (omega arith) (omega arith) in let s = c.args.notice.now in let i = c.args.at in let t = ap₂ value_text c.read_u16.ensures f in joined (string_text (name_at s i)) (value_text (kind_at s i) (value_at s i)) (renamed (ap string_text e) c.put_string-next.ensures) (renamed t c.put_value.ensures)
