use native.Mathlib.Omega.{arith}
use Rattle.ubf.proofs.Advances.{string_none, string_found}
use Rattle.ubf.proofs.spans.string_value.Goals as goal

pub returns-then-s-text : goal.returns-then-s-text
returns-then-s-text c =
    let a = c.args in
    let q = c.string_at-s in
    string_none a.text.now a.at q.result.end q.result.escapes c.requires.0 c.requires.1 q.ensures c.no_value.result c.if-s-text.true c.no_value.ensures

pub overflow_sub-result : goal.overflow_sub-result
overflow_sub-result c = omega (arith, (c.string_at-s.ensures.closes (omega arith)).after)

pub overflow_sub-result-2 : goal.overflow_sub-result-2
overflow_sub-result-2 c = let q = c.string_at-s.ensures.closes (omega arith) in omega (arith, q.count_is)

pub returns : goal.returns
returns c =
    let a = c.args in
    let q = c.string_at-s in
    string_found a.text.now a.at q.result.end q.result.escapes c.requires.0 c.requires.1 q.ensures c.blanks.result (omega arith) c.blanks.ensures
