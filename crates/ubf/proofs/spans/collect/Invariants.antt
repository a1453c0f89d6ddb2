use Prim.Native.Nat.{◌-◌}
use lib.ListN.{length}
use Rattle.ubf.proofs.Tuples.{Collecting}
use Rattle.ubf.proofs.spans.collect.Given as goal

abbrev pub invariant-loop-t : goal.invariant-loop-t
invariant-loop-t l = Collecting l.text l.at l.initial.rows l.rows l.t

abbrev pub decreases-loop-t : goal.decreases-loop-t
decreases-loop-t l = length l.text - l.t.at
