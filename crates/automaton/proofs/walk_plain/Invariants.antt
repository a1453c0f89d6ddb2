use Prim.Native.Nat.{◌≤◌}
use mathlib.Core.Path.{◌≡◌}
use mathlib.Core.Bool.{true, false}
use mathlib.Core.List.{map}
use lib.ListN.{length, drop}
use Rattle.octets.specs.Octets.{fold, folded}
use Rattle.automaton.specs.Table.{tokens_of}
use Rattle.automaton.specs.Decide.{walk_on}
use Rattle.automaton.specs.Word.{Low}
use Rattle.automaton.proofs.walk_plain.Given as goal

abbrev pub invariant-loop-c : goal.invariant-loop-c
invariant-loop-c l = (l.c-index ≤ length l.value) × (length l.marks ≡ length l.kinds) × Low l.marks l.top × (walk_on (tokens_of l.text l.kinds l.args) l.sf l.ef l.empty l.marks l.fin l.k (map (fold l.mark) (drop l.c-index l.value)) ≡ walk_on (tokens_of l.text l.kinds l.args) l.sf l.ef l.empty l.initial.marks false true (folded l.mark l.value))
