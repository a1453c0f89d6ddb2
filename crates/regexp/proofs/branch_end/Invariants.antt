use Prim.Native.Nat.{◌≤◌, ◌-◌}
use lib.ListN.{length}
use Rattle.regexp.proofs.Walks.{Walks}
use Rattle.regexp.proofs.branch_end.Given as goal

abbrev pub invariant-loop-some : goal.invariant-loop-some
invariant-loop-some l = (l.from ≤ l.i) × (l.i ≤ length l.text) × (l.room ≤ 8) × Walks l.text l.from l.room l.some l.i

abbrev pub decreases-loop-some : goal.decreases-loop-some
decreases-loop-some l = length l.text - l.i
