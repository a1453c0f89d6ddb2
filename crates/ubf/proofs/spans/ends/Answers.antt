use native.Mathlib.Omega.{arith}
use Rattle.ubf.proofs.Advances.{ends_cut, ends_other, ends_open, ends_last}
use Rattle.ubf.proofs.spans.ends.Goals as goal

pub returns-then-at-text : goal.returns-then-at-text
returns-then-at-text c = ends_cut c.args.text.now c.args.at c.if-at-text.true

pub returns-then-text-at-ne125 : goal.returns-then-text-at-ne125
returns-then-text-at-ne125 c = ends_other c.args.text.now c.args.at (omega arith) c.if-text-at-ne125.true

pub returns-then-end-text : goal.returns-then-end-text
returns-then-end-text c =
    ends_open c.args.text.now c.args.at c.blanks-end.result (omega arith) c.if-text-at-ne125.false c.blanks-end.ensures c.if-end-text.true

pub returns : goal.returns
returns c =
    ends_last c.args.text.now c.args.at c.blanks-end.result (omega arith) c.if-text-at-ne125.false c.blanks-end.ensures (omega arith)
