-- `state::differ` meets its contract: the values from i on are all different exactly if all are. Assumes nothing.
use mathlib.Core.Path.{◌≡◌}
use Prim.Native.Nat.{◌-◌, ◌≤◌}
use Rattle.quorum.specs.Decision.{different, values_from}
use Rattle.quorum.proofs.state.differ.Given as goal

abbrev pub invariant-loop-i : goal.invariant-loop-i
invariant-loop-i l = (l.i ≤ l.n) × (different (values_from l.buffer l.i (l.n - l.i)) ≡ different (values_from l.buffer 0 l.n))
