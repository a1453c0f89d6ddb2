use Rattle.automaton.proofs.Step.{going}
use Rattle.automaton.specs.Table.{tokens_of}
use Rattle.automaton.specs.Pass.{started, pass}
use lib.ListN.{length}
use mathlib.Core.List.{[]}
use mathlib.Core.Path.{◌≡◌}
use Prim.Native.Nat.{◌≤◌}
use Rattle.automaton.proofs.shift.Given as goal

abbrev pub invariant-loop-i : goal.invariant-loop-i
invariant-loop-i l = (l.i ≤ length l.kinds) × (l.depth ≤ 8) × (length l.marks ≡ length l.kinds) × (length l.stack ≡ 9) × (going l.text l.kinds l.args l.marks l.c l.l l.stack l.depth l.i ≡ pass (tokens_of l.text l.kinds l.args) l.initial.marks l.c (started l.k) [])
