-- The search for a name. Document 02, request 11: "Names rise, so in a notice found well-formed the search for a field should stop at the first name not below the one sought; it finds what a walk over all fields finds.
-- Beside that it answers how many names it looked at: those below the one sought, and one more if any is left."
use Rattle.std.specs.Prelude.{◌≡◌, ℕ, suc, ◌+◌, ◌≤◌, true, cond, List, [], ◌∷◌, length, nat_lt, Result, Option as Optional, Ok, Err, Some, None, option_map, unwrap_or}
use Rattle.std.proofs.Math.Option.{Option, some, none}
use Rattle.common.specs.Choice.{pick}
use Rattle.octets.specs.Octets.{same_of, before_of}
use Rattle.notice.specs.Field.{Field}
use Rattle.notice.specs.Layout.{right_at, count_of, check_of, number_of, place_of, fields_of}
use Rattle.notice.specs.Lookup.{found_at, lookup_of}
use Rattle.notice.specs.Layout.{Layout}
use Rattle.refusal.specs.declared.Refusal.{Refusal}
use Rattle.refusal.specs.Refusal.{number_of as refusal_number, place_of as refusal_place}
use Rattle.notice.specs.declared.Sought.{Sought}
use Rattle.std.specs.declared.cmp.Ordering.{Ordering}
use Rattle.std.specs.declared.cmp.Ordering.TheVariants.{Less, Equal, Greater}
use Rattle.notice.specs.declared.search.Stop.{Stop}

-- ---- what is asked, over all fields

-- one further on
abbrev pub further : Option ℕ → Option ℕ
further none = none
further (some k) = some (suc k)

-- "what a walk over all fields finds": the index of the first field that has the name
abbrev pub index_of : List ℕ → List Field → Option ℕ
index_of name [] = none
index_of name (f ∷ fs) = pick (same_of f.name name) (λ _. some 0) (λ _. further (index_of name fs))

-- how many names are below the one sought
abbrev pub below_of : List ℕ → List Field → ℕ
below_of name [] = 0
below_of name (f ∷ fs) = cond (before_of f.name name) 1 0 + below_of name fs

-- "those below the one sought, and one more if any is left"
abbrev pub looked_of : List ℕ → List Field → ℕ
looked_of name fs = below_of name fs + cond (nat_lt (below_of name fs) (length fs)) 1 0

-- ---- the search that stops

-- the fields from "the first name not below the one sought" on
abbrev pub not_below : List ℕ → List Field → List Field
not_below name [] = []
not_below name (f ∷ fs) = pick (before_of f.name name) (λ _. not_below name fs) (λ _. f ∷ fs)

-- the first of them, if it has the name
abbrev pub first_named : List ℕ → List Field → Option Field
first_named name [] = none
first_named name (f ∷ fs) = pick (same_of f.name name) (λ _. some f) (λ _. none)

-- ---- the code's search

-- how one name stands to another
abbrev pub StandsTo : List ℕ → List ℕ → Ordering → Type 0
StandsTo s name Less = before_of s name ≡ true
StandsTo s name Equal = s ≡ name
StandsTo s name Greater = before_of name s ≡ true

-- the index of the field that was found, if one was: as many names are below it
abbrev pub index_at : Optional ℕ → ℕ → Option ℕ
index_at None below = none
index_at (Some at) below = some below

-- Where the search stops in the notice s: all names below the one sought are before it, and if a field has the name, it is there.
pub record Stops (s name : List ℕ) (r : Stop) : Type 0 where
  pub below : below_of name (fields_of s) ≡ r.below
  pub within : r.below ≤ count_of s
  pub index : index_of name (fields_of s) ≡ index_at r.found r.below
  pub lookup : lookup_of s name ≡ option_map (found_at s) r.found
  pub right : (at : ℕ) → r.found ≡ Some at → right_at s at ≡ true

-- ---- what finding a name answers

-- the number and the place of a refusal, 0 for none; the index, 64, which no field has, for none; how many names were looked at
pub record FindAnswer : Type 0 where
  pub number : ℕ
  pub place : ℕ
  pub index : ℕ
  pub looked : ℕ

abbrev pub find_answer : Result Sought Refusal → FindAnswer
find_answer (Ok f) = record { number = 0; place = 0; index = unwrap_or f.index 64; looked = f.looked }
find_answer (Err r) = record { number = refusal_number r; place = refusal_place r; index = 64; looked = 0 }

-- the index that finding a name answers, if it answers one
abbrev pub found_index : Optional ℕ → Option ℕ
found_index None = none
found_index (Some k) = some k

-- the index; 64, which no field has, for none
abbrev pub index_number : Option ℕ → ℕ
index_number none = 64
index_number (some k) = k

abbrev pub sought_of : List ℕ → List ℕ → FindAnswer
sought_of s name = record { number = 0; place = 0; index = index_number (index_of name (fields_of s)); looked = looked_of name (fields_of s) }

-- "in a notice found well-formed": bytes that are none are refused by `number_of`'s 11, with its place, and no name is looked at
abbrev pub find_by : Layout → List ℕ → List ℕ → FindAnswer
find_by (Ok u) s name = sought_of s name
find_by (Err r) s name = record { number = number_of (Err r); place = place_of (Err r); index = 64; looked = 0 }

abbrev pub find_of : List ℕ → List ℕ → FindAnswer
find_of s name = find_by (check_of s) s name
