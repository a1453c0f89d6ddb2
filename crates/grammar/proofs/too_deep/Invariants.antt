use mathlib.Core.Path.{◌≡◌}
use Prim.Native.Nat.{◌≤◌}
use lib.ListN.{length, drop}
use Rattle.grammar.specs.Nesting.{too_deep, deep_from}
use Rattle.grammar.proofs.too_deep.Given as goal

abbrev pub invariant-loop-k : goal.invariant-loop-k
invariant-loop-k l = (l.k-index ≤ length l.kinds) × (l.opened ≤ 24) × (l.row ≤ 24) × (deep_from l.opened l.row (drop l.k-index l.kinds) ≡ too_deep l.kinds)
