-- `copy_to` meets its contract: what is left to store after i bytes makes the same of the buffer. Assumes nothing.
use mathlib.Core.Path.{◌≡◌}
use Prim.Native.Nat.{◌+◌, ◌-◌, ◌≤◌}
use lib.ListN.{length, drop}
use lib.Seq.{sets}
use Rattle.common.proofs.copy_to.Given as goal

abbrev pub invariant-loop-i : goal.invariant-loop-i
invariant-loop-i l = (length l.buffer ≡ length l.initial.buffer) × (sets l.buffer (l.at + l.i) (drop l.i l.s) ≡ sets l.initial.buffer l.at l.s)
