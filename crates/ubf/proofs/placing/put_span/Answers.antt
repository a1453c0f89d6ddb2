-- `put_span` meets its contract: the stores of its parts are the stores of the field's bytes. Assumes nothing.
use mathlib.Core.Path.{ap, ◌∙◌}
use mathlib.Core.List.{List}
use Prim.Native.Nat.{ℕ, ◌+◌}
use native.Mathlib.Omega.{arith}
use lib.Dec.{ltb}
use lib.ListN.{set, length-set}
use lib.Seq.{sets}
use Rattle.word.specs.Word.{word_bytes}
use Rattle.ubf.specs.Span.{field_in}
use Rattle.ubf.proofs.Placed.{kind_small, span_stored, span_put}
use Rattle.ubf.proofs.placing.put_span.Goals as goal

pub overflow_cast-s-2 : goal.overflow_cast-s-2
overflow_cast-s-2 c =
    let a = c.args in
    omega (arith, kind_small a.text.now a.s.kind a.s.value a.s.len (ltb 0 a.s.escapes) c.requires.0.valued)

pub put_part-requires : goal.put_part-requires
put_part-requires c =
    let a = c.args in
    let l = length-set c.write_u16-2.new.d (a.at + 4) a.s.namelen in
    (c.requires.0.named, omega (arith, l, c.write_u16-2.auto.d, c.write_u16.auto.d, c.requires.3))

pub put_data-requires : goal.put_data-requires
put_data-requires c =
    let a = c.args in
    let l = length-set c.write_u16-2.new.d (a.at + 4) a.s.namelen in
    (c.requires.0, omega (arith, l, c.put_part.auto.buffer, c.write_u16-2.auto.d, c.write_u16.auto.d, c.requires.3))

pub overflow_add-result : goal.overflow_add-result
overflow_add-result c = omega (arith, c.well_formed, c.requires.3)

pub overflow_add-result-2 : goal.overflow_add-result-2
overflow_add-result-2 c = omega (arith, c.well_formed, c.requires.3)

pub overflow_add-result-3 : goal.overflow_add-result-3
overflow_add-result-3 c = omega (arith, c.well_formed, c.requires.3)

pub shape_of-buffer : goal.shape_of-buffer
shape_of-buffer c =
    let a = c.args in
    let l = length-set c.write_u16-2.new.d (a.at + 4) a.s.namelen in
    omega (arith, l, c.put_data.auto.buffer, c.put_part.auto.buffer, c.write_u16-2.auto.d, c.write_u16.auto.d)

pub returns : goal.returns
returns c =
    let a = c.args in
    let s = a.s in
    let f = field_in a.text.now s in
    span_put a.text.now s c.requires.0 a.buffer.now c.put_data.new.buffer a.at
    (c.put_data.ensures
    ∙ (ap (λ (t : List ℕ). sets t (a.at + 5 + s.namelen) f.value) (c.put_part.ensures
    ∙ ap (λ (t : List ℕ). sets (set t (a.at + 4) s.namelen) (a.at + 5) f.name) (c.write_u16-2.ensures
    ∙ ap (λ (t : List ℕ). sets t (a.at + 2) (word_bytes 2 s.kind)) c.write_u16.ensures))
    ∙ span_stored a.text.now s c.requires.0 a.buffer.now a.at))
