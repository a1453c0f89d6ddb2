use Prim.Native.Nat.{max, ◌≤◌}
use lib.ListN.{length}
use Rattle.lexer.proofs.Wholes.{Same}
use Rattle.lexer.proofs.digits.digits.Given as goal

abbrev pub invariant-loop-i : goal.invariant-loop-i
invariant-loop-i l = (l.value ≤ 9223372036854775809) × (l.i ≤ max l.at (length l.s)) × Same l.base l.s l.at l.high l.i l.value
