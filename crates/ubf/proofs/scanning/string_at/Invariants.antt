-- `string_at` meets its contract: the string is open where a run starts. Assumes nothing.
use Prim.Native.Nat.{◌-◌}
use lib.ListN.{length}
use Rattle.ubf.proofs.Scans.{Opens}
use Rattle.ubf.proofs.scanning.string_at.Given as goal

abbrev pub invariant-loop-i : goal.invariant-loop-i
invariant-loop-i l = Opens l.text l.at 34 l.i l.escapes

abbrev pub decreases-loop-i : goal.decreases-loop-i
decreases-loop-i l = length l.text - l.i
