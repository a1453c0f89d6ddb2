use mathlib.Core.Path.{◌≡◌}
use mathlib.Core.Bool.{Bool}
use mathlib.Core.List.{List}
use mathlib.Core.Option.{some}
use Prim.Native.Nat.{ℕ, ◌-◌, ◌≤◌}
use Rattle.opcode.specs.Opcode.{op_of}
use Rattle.table.specs.Table.{entries_of}
use Rattle.table.specs.Check.{pattern_test, operands_right}
use Rattle.table.proofs.operands_right.Given as goal

abbrev pub invariant-loop-k : goal.invariant-loop-k
invariant-loop-k l =
    (l.k ≤ l.i)
    × ((test : List ℕ → Bool) → pattern_test (op_of l.number) ≡ some test → operands_right test l.pool (entries_of l.table) (l.i - l.k) (l.a - l.k) ≡ operands_right test l.pool (entries_of l.table) l.i l.a)
