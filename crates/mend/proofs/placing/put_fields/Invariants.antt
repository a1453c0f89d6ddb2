-- `put_fields` meets its contract: what is left to store after i fields makes the same of the notice. Assumes nothing.
use Rattle.mend.proofs.Placed.{Placing}
use Rattle.mend.proofs.placing.put_fields.Given as goal

abbrev pub invariant-loop-start : goal.invariant-loop-start
invariant-loop-start l = Placing l.bytes l.order l.n l.initial.notice l.notice l.to l.from l.end l.start-index
