-- `state::sizes_right` meets its contract: the sizes from i on are right exactly if all are. Assumes nothing.
use mathlib.Core.Path.{◌≡◌}
use Prim.Native.Nat.{◌≤◌, ◌-◌}
use Rattle.quorum.specs.Decision.{sizes_right}
use Rattle.quorum.proofs.state.sizes_right.Given as goal

abbrev pub invariant-loop-i : goal.invariant-loop-i
invariant-loop-i l = (l.i ≤ l.n) × (sizes_right l.buffer l.i (l.n - l.i) ≡ sizes_right l.buffer 0 l.n)
