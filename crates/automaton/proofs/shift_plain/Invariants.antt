use Prim.Native.Nat.{◌≤◌}
use mathlib.Core.Path.{◌≡◌}
use mathlib.Core.Bool.{Bool}
use mathlib.Core.List.{[]}
use lib.ListN.{length}
use Rattle.automaton.specs.Table.{tokens_of}
use Rattle.automaton.specs.Pass.{started, pass}
use Rattle.automaton.proofs.Word.{lev}
use Rattle.automaton.proofs.Large.{Above, Below, goes}
use Rattle.automaton.proofs.shift_plain.Given as goal

abbrev pub invariant-loop-i : goal.invariant-loop-i
invariant-loop-i l = (l.i ≤ length l.kinds) × (length l.marks ≡ length l.kinds) × ((e : Bool) × (goes l.text l.kinds l.args l.marks l.c (lev l.k l.cur e l.fin) l.i ≡ pass (tokens_of l.text l.kinds l.args) l.initial.marks l.c (started l.k) [])) × Above l.marks l.top l.i × Below l.marks l.high l.i
