use mathlib.Core.Path.{◌≡◌}
use lib.ListN.{length, take}
use lib.Seq.{sets}
use Rattle.lexer.specs.Run.{GoesOn}
use Rattle.lexer.proofs.run.copy_common.Given as goal

abbrev pub invariant-loop-i : goal.invariant-loop-i
invariant-loop-i l = (length l.part ≡ length l.initial.part) × GoesOn l.s l.i × (l.part ≡ sets l.initial.part 0 (take l.i l.s))
