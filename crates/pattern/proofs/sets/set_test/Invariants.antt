use Rattle.pattern.proofs.Ranges.{SetRead}
use Rattle.octets.specs.Octets.{folded}
use lib.ListN.{length}
use Prim.Native.Nat.{◌-◌}
use Rattle.pattern.proofs.sets.set_test.Given as goal

abbrev pub invariant-loop-i : goal.invariant-loop-i
invariant-loop-i l = SetRead (folded l.mark l.p) l.at l.c l.hit l.i

abbrev pub decreases-loop-i : goal.decreases-loop-i
decreases-loop-i l = length l.p - l.i
