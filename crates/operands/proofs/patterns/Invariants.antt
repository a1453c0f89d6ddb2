use Rattle.operands.proofs.Passes.{Judging}
use Rattle.operands.proofs.patterns.Given as goal

abbrev pub invariant-loop-i : goal.invariant-loop-i
invariant-loop-i l = Judging l.text l.marks l.starts l.opens l.i
