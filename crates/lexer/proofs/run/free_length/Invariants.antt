use Rattle.lexer.specs.Run.{Free}
use Rattle.lexer.proofs.run.free_length.Given as goal

abbrev pub invariant-loop-i : goal.invariant-loop-i
invariant-loop-i l = Free l.quote l.s l.i
