use Prim.Native.Nat.{◌+◌, ◌-◌, ◌*◌, ◌≤◌}
use mathlib.Core.Path.{◌≡◌}
use lib.ListN.{length}
use Rattle.octets.specs.Octets.{folded}
use Rattle.octets.specs.Borders.{Longest, Borders}
use Rattle.octets.proofs.searching.set_borders.Given as goal

abbrev pub invariant-loop-i : goal.invariant-loop-i
invariant-loop-i l = (l.i ≤ length l.p) × (length l.out ≡ length l.initial.out) × Borders (folded l.p_mark l.p) l.out l.i × Longest 1 (folded l.p_mark l.p) (folded l.p_mark l.p) (l.i + 1) l.i l.k

abbrev pub decreases-loop-i : goal.decreases-loop-i
decreases-loop-i l = 2 * (length l.p - l.i) + l.k
