-- What holds of the quorum counter. The proofs are in proofs/Theorems.antt, under the same names.
use Rattle.std.specs.Prelude.{ℕ, suc, ◌+◌, ◌≤◌, ◌≡◌, Bool, true, cond, ◌&&◌, List, [], ◌∷◌, ◌++◌, eqb, leb, length, drop}
use Rattle.std.proofs.Math.Option.{Option, some, none}
use Rattle.common.specs.Choice.{pick}
use Rattle.truth.specs.Truth.{is_true}
use Rattle.notice.specs.Field.{Field}
use Rattle.interpreter.specs.Running.{running_of}
use Rattle.quorum.specs.Decision.{has, different, decision_of}
use Rattle.quorum.specs.Showing.{Shown, staff_field, Opens, Shows}

-- ---- the history: the notices that were shown, and what was answered

pub record Event : Type 0 where
  pub notice : List ℕ
  pub answer : Shown

-- The events are what `show` answers to the notices, one after the other, on a buffer that is s before the first, "with nobody else changing the decision": each call finds the bytes that the last one left.
unfoldable pub Follows : List ℕ → List Event → Type 0
Follows s [] = Unit {0}
Follows s (e ∷ es) = (after : List ℕ) × Shows s e.notice after e.answer × Follows after es

-- A decision was opened with the table and the needed number in some buffer, and not refused; these are the events since.
pub record History (table : List ℕ) (needed : ℕ) (es : List Event) : Type 0 where
  pub buffer : List ℕ
  pub opened : List ℕ
  pub answer : Shown
  pub opens : Opens buffer table needed opened answer
  pub accepted : answer.number ≡ 0
  pub follows : Follows opened es

-- ---- the count, from the history alone

-- "neither refused nor short of true"
abbrev pub counts : List ℕ → Event → Bool
counts table e = eqb e.answer.number 0 && is_true (running_of table e.notice).verdict

-- the Staff values of a notice: that of "the string field Staff", or none without one
abbrev pub string_in : Option Field → List (List ℕ)
string_in none = []
string_in (some f) = pick (eqb f.kind 4) (λ _. f.value ∷ []) (λ _. [])

abbrev pub staffs_of : List ℕ → List (List ℕ)
staffs_of notice = string_in (staff_field notice)

-- "Staff values among all notices that were neither refused nor short of true since opening"
abbrev pub brought : List ℕ → Event → List (List ℕ)
brought table e = pick (counts table e) (λ _. staffs_of e.notice) (λ _. [])

unfoldable pub staff_values : List ℕ → List Event → List (List ℕ)
staff_values table [] = []
staff_values table (e ∷ es) = brought table e ++ staff_values table es

-- "the number of different" values: each is counted where it stands last
unfoldable pub how_many : List (List ℕ) → ℕ
how_many [] = 0
how_many (v ∷ vs) = cond (has v vs) (how_many vs) (suc (how_many vs))

-- That it is this number: every list of the same values, each once, has this length ..
abbrev pub Numbered : Type 0
Numbered = (vs ds : List (List ℕ)) → different ds ≡ true → ((v : List ℕ) → has v ds ≡ has v vs) → length ds ≡ how_many vs

-- .. and there is such a list.
abbrev pub Numberable : Type 0
Numberable = (vs : List (List ℕ)) → (ds : List (List ℕ)) × (different ds ≡ true) × ((v : List ℕ) → has v ds ≡ has v vs)

-- The count that is answered is the number of different Staff values among all notices that were neither refused nor short of true since opening, the last one included:
-- for every table, needed number, buffer and list of notices shown one after the other, nobody else writing there, by what `open` and `show` promise of their answers.
abbrev pub Counted : Type 0
Counted =
    (table : List ℕ) (needed : ℕ) (es : List Event) (e : Event) → History table needed (es ++ (e ∷ []))
    → e.answer.count ≡ how_many (staff_values table (es ++ (e ∷ [])))

-- ---- beside it, of the same histories

-- Reached is count at least needed.
abbrev pub Reached : Type 0
Reached =
    (table : List ℕ) (needed : ℕ) (es : List Event) (e : Event) → History table needed (es ++ (e ∷ []))
    → e.answer.reached ≡ leb needed e.answer.count

-- A notice with the Staff of a person counted before leaves the count as it was ..
abbrev pub CountedOnce : Type 0
CountedOnce =
    (table : List ℕ) (needed : ℕ) (es : List Event) (e : Event) → History table needed (es ++ (e ∷ []))
    → (v : List ℕ) → staffs_of e.notice ≡ v ∷ [] → has v (staff_values table es) ≡ true → e.answer.count ≡ how_many (staff_values table es)

-- .. and never gives 20, "for a ninth person".
abbrev pub NeverTwenty : Type 0
NeverTwenty =
    (table : List ℕ) (needed : ℕ) (es : List Event) (e : Event) → History table needed (es ++ (e ∷ []))
    → (v : List ℕ) → staffs_of e.notice ≡ v ∷ [] → has v (staff_values table es) ≡ true → e.answer.number ≡ 20 → ⊥

-- A notice shown again, whenever, leaves the count as it was.
abbrev pub ShownAgain : Type 0
ShownAgain =
    (table : List ℕ) (needed : ℕ) (es fs : List Event) (e f : Event) → History table needed ((es ++ (e ∷ fs)) ++ (f ∷ []))
    → f.notice ≡ e.notice → f.answer.count ≡ how_many (staff_values table (es ++ (e ∷ fs)))

-- What `open` and `show` leave is never refused by 12.
abbrev pub NeverTwelve : Type 0
NeverTwelve =
    (table : List ℕ) (needed : ℕ) (es : List Event) (e : Event) → History table needed (es ++ (e ∷ [])) → e.answer.number ≡ 12 → ⊥

-- ---- of every buffer, whatever it holds

-- The count never exceeds 8.
abbrev pub AtMostEight : Type 0
AtMostEight = (s notice after : List ℕ) (a : Shown) → Shows s notice after a → a.count ≤ 8

-- A refusal "changes nothing": of a notice ..
abbrev pub RefusedStays : Type 0
RefusedStays = (s notice after : List ℕ) (a : Shown) → Shows s notice after a → (a.number ≡ 0 → ⊥) → after ≡ s

-- .. and of an opening.
abbrev pub RefusedMakesNone : Type 0
RefusedMakesNone = (s table after : List ℕ) (needed : ℕ) (a : Shown) → Opens s table needed after a → (a.number ≡ 0 → ⊥) → after ≡ s

-- Showing changes neither the table nor a byte past it ..
abbrev pub ShownPast : Type 0
ShownPast = (s notice after : List ℕ) (a : Shown) → Shows s notice after a → (length after ≡ length s) × (drop 528 after ≡ drop 528 s)

-- .. and opening no byte past the decision.
abbrev pub OpenedPast : Type 0
OpenedPast =
    (s table after : List ℕ) (needed : ℕ) (a : Shown) → Opens s table needed after a
    → (length after ≡ length s) × (drop (528 + length table) after ≡ drop (528 + length table) s)

-- A new decision keeps the table and the needed number that it was opened with, and no value.
abbrev pub OpenedKeeps : Type 0
OpenedKeeps =
    (s table after : List ℕ) (needed : ℕ) (a : Shown) → Opens s table needed after a → a.number ≡ 0
    → decision_of after ≡ some (record { table = table; needed = needed; values = [] })
