use native.Mathlib.Omega.{arith}
use lib.ListN.{length-set}
use Rattle.ubf.proofs.Rows.{row_kept, row_left}
use Rattle.ubf.proofs.spans.keep.Goals as goal

pub returns-then-rows-k : goal.returns-then-rows-k
returns-then-rows-k c = row_left c.args.rows.now c.args.k c.args.s c.if-rows-k.true

pub bounds-rows-at-2 : goal.bounds-rows-at-2
bounds-rows-at-2 c = simp length-set (omega arith)

pub bounds-rows-at-3 : goal.bounds-rows-at-3
bounds-rows-at-3 c = simp length-set (omega arith)

pub bounds-rows-at-4 : goal.bounds-rows-at-4
bounds-rows-at-4 c = simp length-set (omega arith)

pub bounds-rows-at-5 : goal.bounds-rows-at-5
bounds-rows-at-5 c = simp length-set (omega arith)

pub bounds-rows-at-6 : goal.bounds-rows-at-6
bounds-rows-at-6 c = simp length-set (omega arith)

pub bounds-rows-at-7 : goal.bounds-rows-at-7
bounds-rows-at-7 c = simp length-set (omega arith)

pub returns : goal.returns
returns c = row_kept c.args.rows.now c.args.k c.args.s c.if-rows-k.false
