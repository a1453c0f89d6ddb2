use Prim.Native.Nat.{◌≤◌}
use mathlib.Core.Path.{◌≡◌}
use mathlib.Core.List.{map}
use lib.ListN.{length, drop}
use Rattle.octets.specs.Octets.{fold, folded}
use Rattle.automaton.specs.Table.{tokens_of}
use Rattle.automaton.specs.Decide.{walk_on}
use Rattle.automaton.specs.Word.{cells_in, ended_in}
use Rattle.automaton.proofs.walk_word.Given as goal

abbrev pub invariant-loop-i : goal.invariant-loop-i
invariant-loop-i l = (l.i ≤ length l.value) × (walk_on (tokens_of l.text l.kinds l.args) l.sf l.ef l.empty (cells_in (length l.kinds) l.w) (ended_in l.w) l.k (map (fold l.mark) (drop l.i l.value)) ≡ walk_on (tokens_of l.text l.kinds l.args) l.sf l.ef l.empty (cells_in (length l.kinds) l.word) (ended_in l.word) l.enters (folded l.mark (drop l.from l.value)))
