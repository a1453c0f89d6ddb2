-- `deliver` meets its contract: the numbers so far have their bytes. Assumes nothing.
use Rattle.std.proofs.Common.{arith}
use Rattle.many.proofs.Holding.{filling_first, filling_on, filled}
use Rattle.many.proofs.held.deliver.Goals as goal

pub loop-number-init : goal.loop-number-init
loop-number-init c = let a = c.args in filling_first a.records.now.store.now a.notice.now a.verdicts.now c.requires.2

pub loop-number-preserved : goal.loop-number-preserved
loop-number-preserved c =
    let a = c.args in
    let l = c.loop-number in
    filling_on a.records.now.store.now a.notice.now l.verdicts l.number l.invariant c.byte_of.result (omega arith) c.byte_of.ensures

pub returns : goal.returns
returns c =
    let a = c.args in
    let l = c.loop-number in
    filled a.records.now.store.now a.notice.now l.verdicts l.number l.invariant (omega arith)
