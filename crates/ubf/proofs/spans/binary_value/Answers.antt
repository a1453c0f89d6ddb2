use native.Mathlib.Omega.{arith}
use Rattle.ubf.proofs.Advances.{binary_negative, binary_none, binary_found}
use Rattle.ubf.proofs.spans.binary_value.Goals as goal

pub returns-then-negative-n : goal.returns-then-negative-n
returns-then-negative-n c =
    let a = c.args in
    binary_negative a.text.now a.at a.negative a.n c.requires.0 c.requires.1 c.no_value.result c.if-negative-n.true c.no_value.ensures

pub returns-then-end-text : goal.returns-then-end-text
returns-then-end-text c =
    let a = c.args in
    binary_none a.text.now a.at a.negative a.n c.requires.0 c.requires.1 c.binary_end-end.result c.if-negative-n.false c.binary_end-end.ensures c.no_value-then-end-text.result c.if-end-text.true c.no_value-then-end-text.ensures

pub returns : goal.returns
returns c =
    let a = c.args in
    binary_found a.text.now a.at a.negative a.n c.requires.0 c.requires.1 c.binary_end-end.result c.if-negative-n.false c.binary_end-end.ensures c.blanks.result (omega arith) c.blanks.ensures
