-- `repeat::sum` meets its contract. The loop's invariant: the sum is i times what one run adds, and at most 268433410 for each. Assumes nothing.
use mathlib.Core.Path.{◌≡◌}
use Prim.Native.Nat.{◌*◌, ◌≤◌}
use Rattle.table.specs.Table.{decode}
use Rattle.interpreter.specs.Running.{answer_of}
use Rattle.repeat.specs.Repeat.{weight_of}
use Rattle.repeat.proofs.sum.Given as goal

abbrev pub invariant-loop-i : goal.invariant-loop-i
invariant-loop-i l = (l.total ≡ l.i * weight_of (answer_of (decode l.table) l.notice)) × (l.total ≤ 268433410 * l.i)
