-- `survey` meets its contract: the fields kept so far, by their places, their bytes, and what each field is. Assumes nothing.
use Prim.Native.Nat.{◌-◌}
use lib.ListN.{length}
use Rattle.mend.proofs.Turns.{Counted}
use Rattle.mend.proofs.walking.survey.Given as goal

abbrev pub invariant-loop-end : goal.invariant-loop-end
invariant-loop-end l = Counted l.bytes l.order l.initial.codes l.codes l.kept l.at l.size l.count

abbrev pub decreases-loop-end : goal.decreases-loop-end
decreases-loop-end l = length l.bytes - l.at
