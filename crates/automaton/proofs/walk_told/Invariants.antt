use Prim.Native.Nat.{◌≤◌}
use mathlib.Core.Path.{◌≡◌}
use mathlib.Core.List.{map}
use lib.ListN.{length, get_or, drop}
use Rattle.octets.specs.Octets.{fold, folded}
use Rattle.automaton.specs.Table.{tokens_of}
use Rattle.automaton.specs.Decide.{walk_on}
use Rattle.automaton.specs.Word.{cells_in, ended_in}
use Rattle.automaton.proofs.Told.{Told}
use Rattle.automaton.proofs.walk_told.Given as goal

abbrev pub invariant-loop-i : goal.invariant-loop-i
invariant-loop-i l =
    (l.i ≤ length l.value) × (length l.marks ≡ length l.kinds) × (length l.next ≡ 2048) × (length l.held ≡ 8) × (l.s ≤ l.count) × (l.count ≤ 7)
    × Told (tokens_of l.text l.kinds l.args) (length l.kinds) l.sf l.next l.held l.count
    × (walk_on (tokens_of l.text l.kinds l.args) l.sf l.ef l.empty (cells_in (length l.kinds) (get_or l.held l.s 0)) (ended_in (get_or l.held l.s 0)) l.sf (map (fold l.mark) (drop l.i l.value)) ≡ walk_on (tokens_of l.text l.kinds l.args) l.sf l.ef l.empty (cells_in (length l.kinds) l.word) (ended_in l.word) l.sf (folded l.mark (drop l.from l.value)))
