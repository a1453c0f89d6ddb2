-- What the computing definitions of specs/Wildcard.antt say, and what is ill-formed. The proofs are in proofs/Theorems.antt, under the same names.
use Rattle.std.specs.Prelude.{ℕ, ◌≡◌, ◌↔◌, ◌⊎◌, true, false, List, [], ◌∷◌, ◌++◌}
use Rattle.pattern.specs.Sets.{spans_of, is_closed, is_empty, rises}
use Rattle.pattern.specs.Wildcard.{Item, Reads, WellFormed, Accepts, well_formed, wildcard_of}

-- A text is read into one list of items at most.
abbrev pub OneReading : Type 0
OneReading = (p : List ℕ) (is js : List Item) → Reads p is → Reads p js → is ≡ js

-- `well_formed` answers true exactly for the patterns.
abbrev pub WellFormedExactly : Type 0
WellFormedExactly = (p : List ℕ) → (well_formed p ≡ true) ↔ WellFormed p

-- `fits` answers true exactly where the value fits the pattern.
abbrev pub FitsExactly : Type 0
FitsExactly = (x p : List ℕ) → (wildcard_of x p ≡ true) ↔ Accepts p x

-- What follows the mark of a complement, if there is one.
abbrev pub Behind : List ℕ → List ℕ → Type 0
Behind r s = (r ≡ 33 ∷ s) ⊎ ((r ≡ s) × ((t : List ℕ) → s ≡ 33 ∷ t → ⊥))

-- "An unclosed or empty set (`[!]` too), a range that falls and a backslash at the end are ill-formed": a text that begins with one of the four.
pub data Fault : List ℕ → Type 0 where
  backslash : Fault (92 ∷ [])
  unclosed : (r s : List ℕ) → Behind r s → is_closed s ≡ false → Fault (91 ∷ r)
  empty : (r s : List ℕ) → Behind r s → is_empty (spans_of s) ≡ true → Fault (91 ∷ r)
  falling : (r s : List ℕ) → Behind r s → rises (spans_of s) ≡ false → Fault (91 ∷ r)

-- ".. nothing else": a text is no pattern exactly if after some items one of the four begins.
abbrev pub IllFormedExactly : Type 0
IllFormedExactly = (p : List ℕ) → (WellFormed p → ⊥) ↔ ((q : List ℕ) × (r : List ℕ) × (is : List Item) × (p ≡ q ++ r) × Reads q is × Fault r)
