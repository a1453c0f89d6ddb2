use Rattle.translator.proofs.Plain.{Few}
use Rattle.translator.proofs.operand.few_digits.Given as goal

abbrev pub invariant-loop-i : goal.invariant-loop-i
invariant-loop-i l = Few l.text l.place l.v l.i
