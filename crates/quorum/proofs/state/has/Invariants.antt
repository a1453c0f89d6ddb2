-- `state::has` meets its contract: v is among the values from i on exactly if among all. Assumes nothing.
use mathlib.Core.Path.{◌≡◌}
use Prim.Native.Nat.{◌≤◌, ◌-◌}
use Rattle.quorum.specs.Decision.{has, values_from}
use Rattle.quorum.proofs.state.has.Given as goal

abbrev pub invariant-loop-i : goal.invariant-loop-i
invariant-loop-i l = (l.from ≤ l.i) × (l.i ≤ l.n) × (has l.v (values_from l.buffer l.i (l.n - l.i)) ≡ has l.v (values_from l.buffer l.from (l.n - l.from)))
