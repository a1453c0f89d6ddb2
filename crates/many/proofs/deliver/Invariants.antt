-- `deliver` meets its contract: the bytes written and those of the tables that are left are all. Assumes nothing.
use Rattle.many.proofs.Verdicts.{Delivering}
use Rattle.many.proofs.deliver.Given as goal

abbrev pub invariant-loop-byte : goal.invariant-loop-byte
invariant-loop-byte l = Delivering l.tables l.notice l.rest l.verdicts l.byte-index
