use mathlib.Core.Path.{◌≡◌}
use Prim.Native.Nat.{◌+◌, ◌*◌, ◌≤◌}
use lib.ListN.{length, drop}
use Rattle.ubf.specs.Escape.{escapes}
use Rattle.ubf.proofs.put.escaped_length.Given as goal

abbrev pub invariant-loop-b : goal.invariant-loop-b
invariant-loop-b l = (l.b-index ≤ length l.s) × (l.n ≤ 2 * l.b-index) × (l.n + length (escapes 34 (drop l.b-index l.s)) ≡ length (escapes 34 l.s))
