-- `deliver` meets its contract: the numbers so far have their bytes. Assumes nothing.
use Rattle.many.proofs.Holding.{Filling}
use Rattle.many.proofs.held.deliver.Given as goal

abbrev pub invariant-loop-number : goal.invariant-loop-number
invariant-loop-number l = Filling l.records.store.now l.notice l.verdicts l.number
