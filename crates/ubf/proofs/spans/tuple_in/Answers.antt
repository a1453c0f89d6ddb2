use native.Mathlib.Omega.{arith}
use Rattle.ubf.proofs.Advances.{not-true, not-false}
use Rattle.ubf.proofs.Tuples.{tuple_cut, tuple_other, tuple_none, tuple-found, tuple-open}
use Rattle.ubf.proofs.spans.tuple_in.Goals as goal

pub returns-then-start-text : goal.returns-then-start-text
returns-then-start-text c =
    let a = c.args in
    let b = c.blanks-start in
    tuple_cut a.text.now b.result b.ensures a.rows.now b.result c.tuple_at.result c.if-start-text.true c.tuple_at.ensures

pub returns-then-text-start-ne123 : goal.returns-then-text-start-ne123
returns-then-text-start-ne123 c =
    let a = c.args in
    let b = c.blanks-start in
    tuple_other a.text.now b.result b.ensures a.rows.now b.result c.tuple_at-then-text-start-ne123.result (omega arith) c.if-text-start-ne123.true c.tuple_at-then-text-start-ne123.ensures

pub returns-then-not-t : goal.returns-then-not-t
returns-then-not-t c =
    let a = c.args in
    let b = c.blanks-start in
    let t = c.collect-t in
    tuple_none a.text.now b.result b.ensures (omega arith) c.if-text-start-ne123.false c.blanks.result c.blanks.ensures t.new.rows t.result t.ensures (not-true _ c.if-not-t.true)

pub ends-requires : goal.ends-requires
ends-requires c = (c.collect-t.ensures.found (not-false _ c.if-not-t.false)).near

pub returns-then-ends : goal.returns-then-ends
returns-then-ends c =
    let a = c.args in
    let b = c.blanks-start in
    let t = c.collect-t in
    tuple-found a.text.now b.result b.ensures (omega arith) c.if-text-start-ne123.false c.blanks.result c.blanks.ensures t.new.rows t.result t.ensures (not-false _ c.if-not-t.false) c.ends.result c.ends.ensures c.if-ends.true

pub returns : goal.returns
returns c =
    let a = c.args in
    let b = c.blanks-start in
    let t = c.collect-t in
    tuple-open a.text.now b.result b.ensures (omega arith) c.if-text-start-ne123.false c.blanks.result c.blanks.ensures t.new.rows t.result t.ensures (not-false _ c.if-not-t.false) c.ends.result c.ends.ensures c.tuple_at-2.result b.result c.if-ends.false c.tuple_at-2.ensures
