-- `repeats` meets its contract: no name of the fields before i is repeated. Assumes nothing.
use Prim.Native.Nat.{◌-◌}
use lib.ListN.{length}
use Rattle.ubf.proofs.Within.{Passed}
use Rattle.ubf.proofs.repeats.repeats.Given as goal

abbrev pub invariant-loop-s : goal.invariant-loop-s
invariant-loop-s l = Passed l.text l.i

abbrev pub decreases-loop-s : goal.decreases-loop-s
decreases-loop-s l = length l.text - l.i
