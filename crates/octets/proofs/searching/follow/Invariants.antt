use Prim.Native.Nat.{◌+◌, ◌-◌, ◌*◌, ◌≤◌, ◌<◌}
use lib.ListN.{length}
use Rattle.octets.specs.Octets.{folded}
use Rattle.octets.specs.Borders.{Longest}
use Rattle.octets.proofs.searching.follow.Given as goal

abbrev pub invariant-loop-i : goal.invariant-loop-i
invariant-loop-i l = (l.i ≤ length l.s) × (l.k < length l.p) × Longest 0 (folded l.s_mark l.s) (folded l.p_mark l.p) (l.i + 1) l.i l.k

abbrev pub decreases-loop-i : goal.decreases-loop-i
decreases-loop-i l = 2 * (length l.s - l.i) + l.k
