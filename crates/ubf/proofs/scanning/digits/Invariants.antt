use Prim.Native.Nat.{◌-◌}
use lib.ListN.{length}
use Rattle.ubf.proofs.Scans.{Counts}
use Rattle.ubf.proofs.scanning.digits.Given as goal

abbrev pub invariant-loop-i : goal.invariant-loop-i
invariant-loop-i l = Counts l.text l.first l.i l.size

abbrev pub decreases-loop-i : goal.decreases-loop-i
decreases-loop-i l = length l.text - l.i
