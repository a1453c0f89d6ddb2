use native.Mathlib.Omega.{arith}
use Rattle.ubf.proofs.Advances.{field_unclosed, field_cut, field_after}
use Rattle.ubf.proofs.spans.field_at.Goals as goal

pub returns-then-name-text : goal.returns-then-name-text
returns-then-name-text c =
    let a = c.args in
    let q = c.quoted_at-name in
    field_unclosed a.text.now a.at q.result.end q.result.escapes c.requires.0 c.requires.1 q.ensures c.no_span.result c.if-name-text.true c.no_span.ensures

pub returns-then-from-text : goal.returns-then-from-text
returns-then-from-text c =
    let a = c.args in
    let q = c.quoted_at-name in
    field_cut a.text.now a.at q.result.end q.result.escapes c.requires.0 c.requires.1 q.ensures c.blanks-from.result (omega arith) c.blanks-from.ensures c.no_span-then-from-text.result c.if-from-text.true c.no_span-then-from-text.ensures

pub value_at-v-requires : goal.value_at-v-requires
value_at-v-requires c = (omega arith, c.blanks-from.ensures.item (omega arith))

pub overflow_sub-result : goal.overflow_sub-result
overflow_sub-result c = omega (arith, (c.quoted_at-name.ensures.closes (omega arith)).after)

pub overflow_sub-result-2 : goal.overflow_sub-result-2
overflow_sub-result-2 c =
    let q = c.quoted_at-name.ensures.closes (omega arith) in
    omega (arith, q.count_is)

pub returns : goal.returns
returns c =
    let a = c.args in
    let q = c.quoted_at-name in
    field_after a.text.now a.at q.result.end q.result.escapes c.requires.0 c.requires.1 q.ensures c.blanks-from.result (omega arith) c.blanks-from.ensures c.value_at-v.result c.value_at-v.ensures
