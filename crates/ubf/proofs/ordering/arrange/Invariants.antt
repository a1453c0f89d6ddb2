-- `arrange` meets its contract: the rows from `left` on are in order, and none of their names is repeated. Assumes nothing.
use mathlib.Core.Path.{◌≡◌}
use Prim.Native.Nat.{◌≤◌}
use lib.ListN.{length}
use Rattle.ubf.proofs.Arranged.{Sofar}
use Rattle.ubf.proofs.ordering.arrange.Given as goal

abbrev pub invariant-loop-left : goal.invariant-loop-left
invariant-loop-left l = (l.left ≤ l.count) × (length l.order ≡ 64) × Sofar l.text l.rows l.count l.order l.left

abbrev pub decreases-loop-left : goal.decreases-loop-left
decreases-loop-left l = l.left
