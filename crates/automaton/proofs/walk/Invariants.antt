use Prim.Native.Nat.{◌≤◌}
use mathlib.Core.Path.{◌≡◌}
use mathlib.Core.List.{map}
use lib.ListN.{length, drop}
use Rattle.octets.specs.Octets.{fold, folded}
use Rattle.automaton.specs.Table.{tokens_of}
use Rattle.automaton.specs.Decide.{walk_on}
use Rattle.automaton.proofs.walk.Given as goal

abbrev pub invariant-loop-i : goal.invariant-loop-i
invariant-loop-i l = (l.i ≤ length l.value) × (length l.marks ≡ length l.kinds) × (walk_on (tokens_of l.text l.kinds l.args) l.sf l.ef l.empty l.marks l.fin l.k (map (fold l.mark) (drop l.i l.value)) ≡ walk_on (tokens_of l.text l.kinds l.args) l.sf l.ef l.empty l.initial.marks l.ended l.enters (folded l.mark (drop l.from l.value)))
