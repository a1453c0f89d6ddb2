use mathlib.Core.Path.{◌≡◌}
use Prim.Native.Nat.{◌≤◌, ◌-◌}
use lib.ListN.{length, drop}
use Rattle.octets.specs.Octets.{folded}
use Rattle.regexp.specs.Regex.{branches, branches_of, held_in}
use Rattle.regexp.proofs.search.Given as goal

abbrev pub invariant-loop-n : goal.invariant-loop-n
invariant-loop-n l = (l.i ≤ length l.p) × (length l.kinds ≡ length l.initial.kinds) × (length l.args ≡ length l.initial.args) × (length l.marks ≡ length l.initial.marks) × (held_in (branches l.first (drop l.i l.p)) (folded l.s_mark l.s) ≡ held_in (branches_of l.p) (folded l.s_mark l.s))

abbrev pub decreases-loop-n : goal.decreases-loop-n
decreases-loop-n l = length l.p - l.i
