use mathlib.Core.Path.{ap, ◌∙◌}
use native.Mathlib.Omega.{arith}
use lib.ListN.{length, length-append}
use Rattle.ubf.specs.Text.{signed_of, signed_text, tag_text}
use Rattle.word.specs.Word.{word_at}
use Rattle.ubf.proofs.Laws.{length_string}
use Rattle.ubf.proofs.Values.{size_4, size_8, size_most, text_1, text_2, text_4, text_other}
use Rattle.ubf.proofs.writing.value_length.Goals as goal

pub read_u32-requires : goal.read_u32-requires
read_u32-requires c = omega (arith, size_4 c.args.kind (length c.args.value.now) c.if-kind-eq1.true c.requires)

pub returns-then-kind-eq1 : goal.returns-then-kind-eq1
returns-then-kind-eq1 c =
    let a = c.args in let e = c.signed4.ensures ∙ ap (signed_of 4) c.read_u32.ensures in let t = text_1 a.kind a.value.now c.if-kind-eq1.true in (c.signed_length.ensures.0 ∙ ap (λ s. length (signed_text s)) e ∙ ap length t, omega arith)

pub read_u64-requires : goal.read_u64-requires
read_u64-requires c = omega (arith, size_8 c.args.kind (length c.args.value.now) c.if-kind-eq2.true c.requires)

pub returns-then-kind-eq2 : goal.returns-then-kind-eq2
returns-then-kind-eq2 c =
    let a = c.args in let e = c.signed8.ensures ∙ ap (signed_of 8) c.read_u64.ensures in let t = text_2 a.kind a.value.now c.if-kind-eq2.true in let n = length-append (signed_text (signed_of 8 (word_at 8 a.value.now 0))) tag_text in let m = c.signed_length-then-kind-eq2.ensures.0 ∙ ap (λ s. length (signed_text s)) e in (omega (arith, ap length t), omega arith)

pub escaped_length-requires : goal.escaped_length-requires
escaped_length-requires c = omega (arith, size_most c.args.kind (length c.args.value.now) c.if-kind-eq1.false c.requires)

pub overflow_add-result-then-kind-eq4 : goal.overflow_add-result-then-kind-eq4
overflow_add-result-then-kind-eq4 c = omega (arith, size_most c.args.kind (length c.args.value.now) c.if-kind-eq1.false c.requires)

pub returns-then-kind-eq4 : goal.returns-then-kind-eq4
returns-then-kind-eq4 c =
    let a = c.args in let z = size_most a.kind (length a.value.now) c.if-kind-eq1.false c.requires in let t = text_4 a.kind a.value.now c.if-kind-eq4.true in let n = length_string a.value.now in (omega (arith, ap length t), omega arith)

pub binary_length-requires : goal.binary_length-requires
binary_length-requires c = size_most c.args.kind (length c.args.value.now) c.if-kind-eq1.false c.requires

pub returns : goal.returns
returns c =
    let a = c.args in let t = text_other a.kind a.value.now c.if-kind-eq1.false c.if-kind-eq2.false c.if-kind-eq4.false in (c.binary_length.ensures.0 ∙ ap length t, omega arith)
