-- What the computing definitions of specs/Octets.antt say, in plain words. The proofs are in proofs/Theorems.antt, under the same names.
use Rattle.std.specs.Prelude.{◌≡◌, ◌↔◌, ◌⊎◌, Bool, true, false, List, [], ◌∷◌, ◌++◌, ℕ, ◌<◌}
use Rattle.octets.specs.Octets.{folded, same_of, before_of, begins_of, contains_of, ends_of}

-- Two strings are the same exactly if they are equal.
abbrev pub Same : Type 0
Same = (s t : List ℕ) → (same_of s t ≡ true) ↔ (s ≡ t)

-- s begins with p exactly if s is p and some rest.
abbrev pub Begins : Type 0
Begins = (s p : List ℕ) → (begins_of s p ≡ true) ↔ ((b : List ℕ) × (s ≡ p ++ b))

-- s contains p exactly if s is some start, p and some rest.
abbrev pub Contains : Type 0
Contains = (s p : List ℕ) → (contains_of s p ≡ true) ↔ ((a : List ℕ) × (b : List ℕ) × (s ≡ a ++ (p ++ b)))

-- s ends with p exactly if s is some start and p.
abbrev pub Ends : Type 0
Ends = (s p : List ℕ) → (ends_of s p ≡ true) ↔ ((a : List ℕ) × (s ≡ a ++ p))

-- An empty literal always fits.
abbrev pub EmptyFits : Type 0
EmptyFits = (s : List ℕ) → (begins_of s [] ≡ true) × (contains_of s [] ≡ true) × (ends_of s [] ≡ true)

-- s is before t exactly if t is s and at least one byte more, or the first byte in which they differ is less in s.
abbrev pub Before : Type 0
Before =
    (s t : List ℕ) →
    (before_of s t ≡ true)
    ↔ (((b : ℕ) × (r : List ℕ) × (t ≡ s ++ (b ∷ r)))
    ⊎ ((p : List ℕ) × (a b : ℕ) × (q r : List ℕ) × (s ≡ p ++ (a ∷ q)) × (t ≡ p ++ (b ∷ r)) × (a < b)))

-- No string is before itself.
abbrev pub BeforeIrreflexive : Type 0
BeforeIrreflexive = (s : List ℕ) → before_of s s ≡ false

abbrev pub BeforeTransitive : Type 0
BeforeTransitive = (s t u : List ℕ) → before_of s t ≡ true → before_of t u ≡ true → before_of s u ≡ true

-- Of two strings one is before the other, or they are equal.
abbrev pub BeforeTotal : Type 0
BeforeTotal = (s t : List ℕ) → (before_of s t ≡ true) ⊎ ((s ≡ t) ⊎ (before_of t s ≡ true))

-- What is folded stays as it is when folded again; without the mark nothing changes.
abbrev pub FoldedTwice : Type 0
FoldedTwice = (m : Bool) (s : List ℕ) → folded m (folded m s) ≡ folded m s

abbrev pub NotFolded : Type 0
NotFolded = (s : List ℕ) → folded false s ≡ s
