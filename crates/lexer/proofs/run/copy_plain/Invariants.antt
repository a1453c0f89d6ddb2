use Prim.Native.Nat.{◌≤◌, ◌+◌}
use mathlib.Core.Path.{◌≡◌}
use mathlib.Core.Bool.{false}
use lib.ListN.{length, drop}
use lib.Seq.{sets}
use Rattle.lexer.specs.Run.{run_from, run_of, unescaped}
use Rattle.lexer.proofs.run.copy_plain.Given as goal

abbrev pub invariant-loop-b : goal.invariant-loop-b
invariant-loop-b l =
    (l.b-index ≤ length l.s)
    × (l.n ≤ l.b-index)
    × (length l.part ≡ length l.initial.part)
    × (l.n + length (unescaped l.taken (run_from l.quote l.taken (drop l.b-index l.s))) ≡ length (unescaped false (run_of l.quote l.s)))
    × (sets l.part l.n (unescaped l.taken (run_from l.quote l.taken (drop l.b-index l.s))) ≡ sets l.initial.part 0 (unescaped false (run_of l.quote l.s)))
