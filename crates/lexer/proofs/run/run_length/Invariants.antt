use Prim.Native.Nat.{◌≤◌, ◌+◌}
use mathlib.Core.Path.{◌≡◌}
use lib.ListN.{length, drop}
use Rattle.lexer.specs.Run.{run_from, run_of}
use Rattle.lexer.proofs.run.run_length.Given as goal

abbrev pub invariant-loop-i : goal.invariant-loop-i
invariant-loop-i l = (l.i ≤ length l.s) × (l.i + length (run_from l.quote l.taken (drop l.i l.s)) ≡ length (run_of l.quote l.s))
