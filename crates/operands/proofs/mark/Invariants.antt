use Rattle.operands.proofs.Marks.{Marking}
use Rattle.operands.proofs.mark.Given as goal

abbrev pub invariant-loop-i : goal.invariant-loop-i
invariant-loop-i l = Marking l.text l.starts l.initial.kinds l.kinds l.asks l.i
