-- What the code reads at an index of a pattern's text: a member of a set, a range, a set, an item. proofs/Ranges.antt and proofs/Items.antt join these to specs/Sets.antt and specs/Wildcard.antt.
use Rattle.std.specs.Prelude.{ℕ, ◌+◌, Bool, true, false, not, List, [], ◌∷◌, Option, Some, None, eqb, ◌==◌, drop}
use Rattle.std.specs.List.{list_all}
use Rattle.common.specs.Choice.{pick}
use Rattle.pattern.specs.Sets.{spans_of, in_spans, width_of}
use Rattle.pattern.specs.Wildcard.{is_set, Part, part, fault, takes}
use Rattle.pattern.specs.declared.sets.Piece.{Piece}
use Rattle.pattern.specs.declared.sets.Piece.TheVariants.{Range, Close, End}
use Rattle.pattern.specs.declared.sets.SetTest.{SetTest}

-- whether the byte stands first
abbrev pub begins : ℕ → List ℕ → Bool
begins k [] = false
begins k (b ∷ r) = eqb b k

-- ---- sets

-- a member behind a backslash; the text given begins at the index given
abbrev pub escaped_at : ℕ → List ℕ → Piece
escaped_at i [] = End
escaped_at i (b ∷ r) = Range b b (i + 1)

-- a member as a range of its own
abbrev pub member_at : ℕ → List ℕ → Piece
member_at i [] = End
member_at i (b ∷ r) = pick (eqb b 93) (λ _. Close) (λ _. pick (eqb b 92) (λ _. escaped_at (i + 1) r) (λ _. Range b b (i + 1)))

-- a member, a `-` at an index and what follows it
abbrev pub joined_at : ℕ → ℕ → Piece → Piece
joined_at low i (Range high b next) = Range low high next
joined_at low i Close = Range low low i
joined_at low i End = Range low low i

-- a member that is read, and what follows it in the whole text
abbrev pub range_from : Piece → List ℕ → Piece
range_from (Range low b i) t = pick (begins 45 (drop i t)) (λ _. joined_at low i (member_at (i + 1) (drop (i + 1) t))) (λ _. Range low low i)
range_from Close t = Close
range_from End t = End

-- what begins at an index of a set in the whole text
abbrev pub piece_at : ℕ → List ℕ → Piece
piece_at i t = range_from (member_at i (drop i t)) t

-- the set whose members begin at an index: whether it has the byte, and the index behind its `]`
abbrev pub test_at : ℕ → List ℕ → ℕ → Option SetTest
test_at i s c = pick (is_set s) (λ _. Some (record { hit = in_spans (spans_of s) c; end = i + width_of s })) (λ _. None)

-- ---- items

-- the index behind an item whose first byte stands before the index given
abbrev pub end_of : Part → ℕ → Option ℕ
end_of (part i k) at = Some (at + k)
end_of fault at = None

-- whether a set, or its complement, takes a byte that is in its ranges, or is not
abbrev pub turned : Bool → Bool → Bool
turned true hit = not hit
turned false hit = hit

-- the index behind a plain byte if it is the byte given
abbrev pub plain_taken : ℕ → List ℕ → ℕ → Option ℕ
plain_taken i [] c = None
plain_taken i (b ∷ r) c = pick (eqb b c) (λ _. Some (i + 1)) (λ _. None)

-- the index behind an item, as in `end_of`, if it takes the byte
abbrev pub taken_of : Part → ℕ → ℕ → Option ℕ
taken_of (part i k) at c = pick (takes i c) (λ _. Some (at + k)) (λ _. None)
taken_of fault at c = None

-- whether a text is `*` alone
abbrev pub only_runs : List ℕ → Bool
only_runs s = list_all (λ b. b == 42) s
