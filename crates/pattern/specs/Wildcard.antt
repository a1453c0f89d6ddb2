-- The patterns of `wildcard`: which texts are patterns, their items, and which values fit them. Document 02, request 1. No matcher stands here.
use Rattle.std.specs.Prelude.{ℕ, zero, suc, ◌+◌, ◌≡◌, Bool, true, false, not, ◌&&◌, ◌||◌, List, [], ◌∷◌, ◌++◌, eqb, drop}
use Rattle.std.proofs.Math.Option.{Option, none, some}
use Rattle.common.specs.Choice.{pick}
use Rattle.pattern.specs.Sets.{Span, spans_of, in_spans, is_closed, rises, is_empty, width_of}

-- An item of a pattern.
pub data Item : Type 0 where
  -- a byte itself
  plain : ℕ → Item
  -- "`?` one byte"
  any : Item
  -- "`[..]` one byte of a set with ranges and a leading `!` for the complement": whether it is the complement, and the ranges
  set : Bool → List Span → Item
  -- "`*` fits any run of bytes"
  run : Item

-- ---- the text of a pattern

-- the first item of a text, and how many bytes it takes behind its first one; or no item begins there
pub data Part : Type 0 where
  part : Item → ℕ → Part
  fault : Part

-- "a backslash makes the next byte plain"; "a backslash at the end" is ill-formed
abbrev pub escaped_part : List ℕ → Part
escaped_part [] = fault
escaped_part (b ∷ r) = part (plain b) 1

-- "An unclosed or empty set (`[!]` too), a range that falls" are ill-formed
abbrev pub is_set : List ℕ → Bool
is_set s = is_closed s && (not (is_empty (spans_of s)) && rises (spans_of s))

-- a set whose members begin here, behind so many bytes after the `[`
abbrev pub set_from : Bool → ℕ → List ℕ → Part
set_from out before s = pick (is_set s) (λ _. part (set out (spans_of s)) (before + width_of s)) (λ _. fault)

abbrev pub set_part : List ℕ → Part
set_part [] = fault
set_part (b ∷ s) = pick (eqb b 33) (λ _. set_from true 1 s) (λ _. set_from false 0 (b ∷ s))

abbrev pub part_of : List ℕ → Part
part_of [] = fault
part_of (b ∷ r) =
    pick (eqb b 42) (λ _. part run 0)
    (λ _. pick (eqb b 63) (λ _. part any 0)
    (λ _. pick (eqb b 92) (λ _. escaped_part r)
    (λ _. pick (eqb b 91) (λ _. set_part r) (λ _. part (plain b) 0))))

-- A text is read into items from the left.
pub data Reads : List ℕ → List Item → Type 0 where
  end : Reads [] []
  next : {s : List ℕ} {i : Item} {k : ℕ} {is : List Item} → part_of s ≡ part i k → Reads (drop (suc k) s) is → Reads s (i ∷ is)

abbrev pub WellFormed : List ℕ → Type 0
WellFormed p = (is : List Item) × Reads p is

-- ---- the values that fit

-- whether an item takes a byte
abbrev pub takes : Item → ℕ → Bool
takes (plain b) c = eqb b c
takes any c = true
takes (set true xs) c = not (in_spans xs c)
takes (set false xs) c = in_spans xs c
takes run c = false

-- one byte that the item takes, and the rest fits
abbrev pub FitsOne : Item → (List ℕ → Type 0) → List ℕ → Type 0
FitsOne i Rest x = (c : ℕ) × (r : List ℕ) × (x ≡ c ∷ r) × (takes i c ≡ true) × Rest r

-- any run of bytes, and the rest fits: any split
abbrev pub FitsRun : (List ℕ → Type 0) → List ℕ → Type 0
FitsRun Rest x = (w : List ℕ) × (r : List ℕ) × (x ≡ w ++ r) × Rest r

-- "the whole value must fit a pattern"
abbrev pub Fits : List Item → List ℕ → Type 0
Fits [] x = x ≡ []
Fits (plain b ∷ is) x = FitsOne (plain b) (Fits is) x
Fits (any ∷ is) x = FitsOne any (Fits is) x
Fits (set out xs ∷ is) x = FitsOne (set out xs) (Fits is) x
Fits (run ∷ is) x = FitsRun (Fits is) x

-- A value fits a pattern.
abbrev pub Accepts : List ℕ → List ℕ → Type 0
Accepts p x = (is : List Item) × Reads p is × Fits is x

-- ---- the same by computation, which the promises of other crates name; joined to the above by specs/Theorems.antt

abbrev pub with_first : Item → Option (List Item) → Option (List Item)
with_first i none = none
with_first i (some is) = some (i ∷ is)

abbrev pub and_more : Part → (ℕ → Option (List Item)) → Option (List Item)
and_more (part i k) more = with_first i (more k)
and_more fault more = none

-- the items of a text, after so many bytes of it that belong to the item before
unfoldable pub items_from : ℕ → List ℕ → Option (List Item)
items_from k [] = some []
items_from (suc k) (b ∷ r) = items_from k r
items_from zero (b ∷ r) = and_more (part_of (b ∷ r)) (λ k. items_from k r)

abbrev pub items_of : List ℕ → Option (List Item)
items_of p = items_from 0 p

abbrev pub is_some : Option (List Item) → Bool
is_some none = false
is_some (some is) = true

-- whether a text is a pattern: 18 if not
abbrev pub well_formed : List ℕ → Bool
well_formed p = is_some (items_of p)

abbrev pub first_fits : Item → (List ℕ → Bool) → List ℕ → Bool
first_fits i rest [] = false
first_fits i rest (c ∷ x) = takes i c && rest x

-- whether the rest fits what is left of the value after some run of bytes
abbrev pub some_rest : (List ℕ → Bool) → List ℕ → Bool
some_rest rest [] = rest []
some_rest rest (c ∷ x) = rest (c ∷ x) || some_rest rest x

abbrev pub is_none : List ℕ → Bool
is_none [] = true
is_none (c ∷ x) = false

abbrev pub fits_items : List Item → List ℕ → Bool
fits_items [] x = is_none x
fits_items (plain b ∷ is) x = first_fits (plain b) (fits_items is) x
fits_items (any ∷ is) x = first_fits any (fits_items is) x
fits_items (set out xs ∷ is) x = first_fits (set out xs) (fits_items is) x
fits_items (run ∷ is) x = some_rest (fits_items is) x

abbrev pub fits_read : Option (List Item) → List ℕ → Bool
fits_read none x = false
fits_read (some is) x = fits_items is x

-- whether the value x fits the pattern p
abbrev pub wildcard_of : List ℕ → List ℕ → Bool
wildcard_of x p = fits_read (items_of p) x
