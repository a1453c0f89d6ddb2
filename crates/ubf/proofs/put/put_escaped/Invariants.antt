use mathlib.Core.Path.{◌≡◌}
use Prim.Native.Nat.{◌+◌, ◌≤◌}
use lib.ListN.{length, drop}
use lib.Seq.{sets}
use Rattle.ubf.specs.Escape.{escapes}
use Rattle.ubf.proofs.put.put_escaped.Given as goal

abbrev pub invariant-loop-b : goal.invariant-loop-b
invariant-loop-b l = (l.b-index ≤ length l.s) × (length l.out ≡ length l.initial.out) × (l.p + length (escapes 34 (drop l.b-index l.s)) ≡ l.at + length (escapes 34 l.s)) × (sets l.out l.p (escapes 34 (drop l.b-index l.s)) ≡ sets l.initial.out l.at (escapes 34 l.s))
