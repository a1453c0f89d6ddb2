use mathlib.Core.Path.{◌≡◌}
use Prim.Native.Nat.{◌≤◌, ◌-◌}
use lib.ListN.{length, drop}
use Rattle.regexp.specs.Regex.{branches, is_some}
use Rattle.regexp.proofs.all_branches.Given as goal

abbrev pub invariant-loop-j : goal.invariant-loop-j
invariant-loop-j l = (l.i ≤ length l.p) × (is_some (branches l.first (drop l.i l.p)) ≡ is_some (branches l.start (drop l.from l.p)))

abbrev pub decreases-loop-j : goal.decreases-loop-j
decreases-loop-j l = length l.p - l.i
