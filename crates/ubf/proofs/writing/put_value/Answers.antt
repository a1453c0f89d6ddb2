use mathlib.Core.Path.{ap, ◌∙◌}
use native.Mathlib.Omega.{arith}
use mathlib.Core.List.{◌++◌}
use lib.ListN.{length, length-append}
use Rattle.decimal.proofs.Laws.{joined, renamed}
use Rattle.ubf.specs.Text.{signed_of, signed_text, tag_text}
use Rattle.ubf.proofs.Values.{size_4, size_8, text_1, text_2, text_4, text_other}
use Rattle.ubf.proofs.writing.put_value.Goals as goal

pub read_u32-requires : goal.read_u32-requires
read_u32-requires c = omega (arith, size_4 c.args.kind (length c.args.value.now) c.if-kind-eq1.true c.requires.0)

pub put_signed-requires : goal.put_signed-requires
put_signed-requires c =
    let a = c.args in let e = c.signed4.ensures ∙ ap (signed_of 4) c.read_u32.ensures in let t = ap signed_text e ∙ text_1 a.kind a.value.now c.if-kind-eq1.true in omega (arith, ap length t)

pub returns-then-kind-eq1 : goal.returns-then-kind-eq1
returns-then-kind-eq1 c =
    let a = c.args in let e = c.signed4.ensures ∙ ap (signed_of 4) c.read_u32.ensures in let t = ap signed_text e ∙ text_1 a.kind a.value.now c.if-kind-eq1.true in renamed t c.put_signed.ensures

pub read_u64-requires : goal.read_u64-requires
read_u64-requires c = omega (arith, size_8 c.args.kind (length c.args.value.now) c.if-kind-eq2.true c.requires.0)

pub put_signed-next-requires : goal.put_signed-next-requires
put_signed-next-requires c =
    let a = c.args in let e = c.signed8.ensures ∙ ap (signed_of 8) c.read_u64.ensures in let t = ap (λ s. signed_text s ++ tag_text) e ∙ text_2 a.kind a.value.now c.if-kind-eq2.true in omega (arith, ap length t, length-append (signed_text c.signed8.result) tag_text)

pub put_tag-requires : goal.put_tag-requires
put_tag-requires c =
    let a = c.args in let e = c.signed8.ensures ∙ ap (signed_of 8) c.read_u64.ensures in let t = ap (λ s. signed_text s ++ tag_text) e ∙ text_2 a.kind a.value.now c.if-kind-eq2.true in omega (arith, ap length t, length-append (signed_text c.signed8.result) tag_text, c.put_signed-next.ensures.next)

pub returns-then-kind-eq2 : goal.returns-then-kind-eq2
returns-then-kind-eq2 c =
    let a = c.args in let e = c.signed8.ensures ∙ ap (signed_of 8) c.read_u64.ensures in let t = ap (λ s. signed_text s ++ tag_text) e ∙ text_2 a.kind a.value.now c.if-kind-eq2.true in renamed t (joined (signed_text c.signed8.result) tag_text c.put_signed-next.ensures c.put_tag.ensures)

pub put_string-requires : goal.put_string-requires
put_string-requires c = let a = c.args in let t = text_4 a.kind a.value.now c.if-kind-eq4.true in omega (arith, ap length t)

pub returns-then-kind-eq4 : goal.returns-then-kind-eq4
returns-then-kind-eq4 c =
    let a = c.args in let t = text_4 a.kind a.value.now c.if-kind-eq4.true in renamed t c.put_string.ensures

pub put_binary-requires : goal.put_binary-requires
put_binary-requires c =
    let a = c.args in let t = text_other a.kind a.value.now c.if-kind-eq1.false c.if-kind-eq2.false c.if-kind-eq4.false in omega (arith, ap length t)

pub returns : goal.returns
returns c =
    let a = c.args in let t = text_other a.kind a.value.now c.if-kind-eq1.false c.if-kind-eq2.false c.if-kind-eq4.false in renamed t c.put_binary.ensures
