use mathlib.Core.Path.{◌≡◌}
use Prim.Native.Nat.{◌≤◌, ◌-◌, ◌+◌}
use lib.ListN.{length}
use Rattle.regexp.proofs.Turns.{Stands}
use Rattle.regexp.proofs.branch.Given as goal

abbrev pub invariant-loop-last : goal.invariant-loop-last
invariant-loop-last l = (l.from + l.n ≤ l.i) × (l.i ≤ length l.text) × (length l.kinds ≡ length l.initial.kinds) × (length l.args ≡ length l.initial.args) × (length l.opens ≡ 8) × (l.room ≤ 8) × Stands l.text l.kinds l.args l.from l.opens l.room l.last l.some l.n l.i

abbrev pub decreases-loop-last : goal.decreases-loop-last
decreases-loop-last l = length l.text - l.i
