-- `put_runs` meets its contract: the escapes of what is left of s make the same of the buffer. Assumes nothing.
use mathlib.Core.Path.{◌≡◌}
use Prim.Native.Nat.{◌+◌, ◌-◌, ◌≤◌}
use lib.ListN.{length, drop}
use lib.Seq.{sets}
use Rattle.ubf.specs.Escape.{escapes}
use Rattle.ubf.proofs.put.put_runs.Given as goal

abbrev pub invariant-loop-i : goal.invariant-loop-i
invariant-loop-i l = (l.i ≤ length l.s) × (length l.out ≡ length l.initial.out) × (l.p + length (escapes 34 (drop l.i l.s)) ≡ l.at + length (escapes 34 l.s)) × (sets l.out l.p (escapes 34 (drop l.i l.s)) ≡ sets l.initial.out l.at (escapes 34 l.s))

abbrev pub decreases-loop-i : goal.decreases-loop-i
decreases-loop-i l = length l.s - l.i
