use Prim.Native.Nat.{max, ◌≤◌, ◌-◌}
use lib.ListN.{length, drop}
use Rattle.lexer.specs.Run.{Passes}
use Rattle.lexer.proofs.run.unquoted_end.Given as goal

abbrev pub invariant-loop-i : goal.invariant-loop-i
invariant-loop-i l = (l.at ≤ l.i) × (l.i ≤ max l.at (length l.s)) × Passes l.quote (drop l.at l.s) (l.i - l.at)
