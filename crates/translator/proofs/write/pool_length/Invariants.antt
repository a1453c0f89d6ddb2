use Rattle.translator.proofs.Writing.{Summing}
use Rattle.translator.proofs.write.pool_length.Given as goal

abbrev pub invariant-loop-i : goal.invariant-loop-i
invariant-loop-i l = Summing l.sizes l.n l.sum l.i
