-- The method of marks (Fischer, Huch, Wilke): a leaf is marked if a way through the expression has just read a byte there.
use Rattle.std.specs.Prelude.{ℕ, Bool, true, false, ◌&&◌, ◌||◌, List, [], ◌∷◌}
use Rattle.automaton.specs.Language.{Re, leaf, group, nil, seq, alt}

abbrev pub empty : Re → Bool
empty (leaf s r o m) = o
empty (group r o t) = o || empty t
empty nil = true
empty (seq p q) = empty p && empty q
empty (alt p q) = empty p || empty q

abbrev pub final : Re → Bool
final (leaf s r o m) = m
final (group r o t) = final t
final nil = false
final (seq p q) = (final p && empty q) || final q
final (alt p q) = final p || final q

-- one byte read; k says that a way enters from the left
abbrev pub shift : Bool → Re → ℕ → Re
shift k (leaf s r o m) c = leaf s r o (s c && (k || (r && m)))
shift k (group r o t) c = group r o (shift (k || (r && final t)) t c)
shift k nil c = nil
shift k (seq p q) c = seq (shift k p c) (shift ((k && empty p) || final p) q c)
shift k (alt p q) c = alt (shift k p c) (shift k q c)

-- a stretch ends here: a way is at its end, or enters and reads nothing
abbrev pub ends : Bool → Re → Bool
ends k t = final t || (k && empty t)

-- The decision: read the value from the left. k says whether a stretch may begin here, sf whether it may later, ef whether it may end before the value does.
abbrev pub walk : Bool → Bool → Re → Bool → List ℕ → Bool
walk sf ef t k [] = ends k t
walk sf ef t k (c ∷ x) = (ef && ends k t) || walk sf ef (shift k t c) sf x
