use Rattle.translator.proofs.Writing.{Writing}
use Rattle.translator.proofs.write.write.Given as goal

abbrev pub invariant-loop-i : goal.invariant-loop-i
invariant-loop-i l = Writing l.text l.places l.sizes l.codes l.initial.out l.out l.leaf l.pool l.i
