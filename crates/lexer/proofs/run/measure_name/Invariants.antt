use Prim.Native.Nat.{◌≤◌, ◌+◌}
use mathlib.Core.Path.{◌≡◌}
use mathlib.Core.Bool.{false, ◌&&◌}
use lib.ListN.{length, drop}
use Rattle.lexer.specs.Run.{run_from, run_of, unescaped, legal_name}
use Rattle.lexer.proofs.run.measure_name.Given as goal

abbrev pub invariant-loop-i : goal.invariant-loop-i
invariant-loop-i l =
    (l.i ≤ length l.s)
    × (l.n ≤ l.i)
    × (l.i + length (run_from 0 l.taken (drop l.i l.s)) ≡ length (run_of 0 l.s))
    × (l.n + length (unescaped l.taken (run_from 0 l.taken (drop l.i l.s))) ≡ length (unescaped false (run_of 0 l.s)))
    × (l.legal && legal_name l.taken (run_from 0 l.taken (drop l.i l.s)) ≡ legal_name false (run_of 0 l.s))
