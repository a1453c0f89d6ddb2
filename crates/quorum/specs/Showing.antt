-- What opening and showing answer, and every byte of the buffer afterwards. Document 02, request 3.
use Rattle.std.specs.Prelude.{Option as Optional, Some, None, Result, Ok, Err, ℕ, ◌+◌, ◌≡◌, Bool, true, false, cond, ◌&&◌, List, [], ◌∷◌, eqb, leb, ltb, length}
use Rattle.std.proofs.Math.Option.{Option, some, none}
use Rattle.common.specs.Choice.{pick}
use Rattle.refusal.specs.declared.Refusal.{Refusal}
use Rattle.refusal.specs.Refusal.{number_of, place_of}
use Rattle.truth.specs.Truth.{is_true}
use Rattle.notice.specs.Field.{Field}
use Rattle.notice.specs.Layout.{unless, check_of as noticeCheck, fields_of, Indexed}
use Rattle.notice.specs.Lookup.{field_named}
use Rattle.table.specs.Check.{check_of as tableCheck, refusal_of}
use Rattle.interpreter.specs.Undecided.{no_entry}
use Rattle.interpreter.specs.Running.{RunAnswer, running_of}
use Rattle.quorum.specs.declared.Turn.{Turn as CodeTurn}
use Rattle.quorum.specs.declared.Turn.TheVariants.{Left, Added, Refused}
use Rattle.quorum.specs.declared.Shown.{Shown as CodeShown}
use Rattle.quorum.specs.Decision.{Decision, has, decision_of, opened_with, added_to}

-- ---- what is answered

-- the number of the refusal, 0 for none, the run's place, the count, whether it has reached the needed number, and the first undecided entry
pub record Shown : Type 0 where
  pub number : ℕ
  pub place : ℕ
  pub count : ℕ
  pub reached : Bool
  pub undecided : ℕ

abbrev pub refused_number : Optional Refusal → ℕ
refused_number None = 0
refused_number (Some r) = number_of r

abbrev pub refused_place : Optional Refusal → ℕ
refused_place None = 0
refused_place (Some r) = place_of r

abbrev pub shown : CodeShown → Shown
shown a = record { number = refused_number a.refusal; place = refused_place a.refusal; count = a.count; reached = a.reached; undecided = a.undecided }

-- "The answer is the count and whether it has reached the needed number."; document 02, request 7: the run's first undecided entry, which "the quorum counter passes on"
abbrev pub shown_as : ℕ → ℕ → ℕ → ℕ → ℕ → Shown
shown_as number place count needed undecided = record { number = number; place = place; count = count; reached = leb needed count; undecided = undecided }

-- "(at opening and with 12: 0, not reached)"; request 7: "a counter's call without a run, give[s] 65535"
abbrev pub nothing_yet : ℕ → Shown
nothing_yet number = record { number = number; place = 0; count = 0; reached = false; undecided = no_entry }

-- ---- opening

-- the number and the place of a refusal; 0 for none
abbrev pub ended : Result (Unit {0}) Refusal → ℕ
ended (Ok done) = 0
ended (Err r) = number_of r

abbrev pub placed : Result (Unit {0}) Refusal → ℕ
placed (Ok done) = 0
placed (Err r) = place_of r

-- "Refusals: at opening 12, then 21 for a needed number outside 1..8"; then 9 for a buffer too short, on which document 02 is silent; 0 for none
abbrev pub open_refusal : ℕ → List ℕ → ℕ → ℕ
open_refusal room table needed =
    unless (tableCheck table) (refusal_of false)
    (unless (leb 1 needed && leb needed 8) 21
    (unless (leb (528 + length table) room) 9
    0))

-- the count is 0, refused or not
abbrev pub open_of : List ℕ → List ℕ → ℕ → Shown
open_of s table needed = nothing_yet (open_refusal (length s) table needed)

-- the buffer afterwards: "a refused opening makes none", and changes no byte
abbrev pub opened_bytes : List ℕ → List ℕ → ℕ → List ℕ
opened_bytes s table needed = pick (eqb (open_refusal (length s) table needed) 0) (λ _. opened_with s table needed) (λ _. s)

-- the promise of `open`: the answer, and every byte afterwards
pub record Opens (s table : List ℕ) (needed : ℕ) (after : List ℕ) (r : Shown) : Type 0 where
  pub answer : r ≡ open_of s table needed
  pub bytes : after ≡ opened_bytes s table needed

-- ---- the field Staff

-- what the run of a notice leaves, so that Staff need not be sought field by field: the starts of its fields, if the notice is well-formed
abbrev pub Marks : List ℕ → List ℕ → Type 0
Marks notice starts = noticeCheck notice ≡ Ok tt → Indexed notice starts

-- its name
abbrev pub staff_name : List ℕ
staff_name = 83 ∷ 116 ∷ 97 ∷ 102 ∷ 102 ∷ []

-- the field itself, found by its name as the run finds fields
abbrev pub staff_field : List ℕ → Option Field
staff_field notice = field_named staff_name (fields_of notice)

-- a string of 1..64 bytes
abbrev pub staff_right : Field → Bool
staff_right f = eqb f.kind 4 && (leb 1 (length f.value) && leb (length f.value) 64)

-- the value that is taken; no bytes, which no right value is, if the field "is absent, no string or not 1..64 bytes"
abbrev pub staff_in : Option Field → List ℕ
staff_in none = []
staff_in (some f) = pick (staff_right f) (λ _. f.value) (λ _. [])

abbrev pub staff_of : List ℕ → List ℕ
staff_of notice = staff_in (staff_field notice)

-- ---- what a notice is to a decision

-- it leaves it as it stood, adds its Staff, or is refused by a number with a place
pub data Turn : Type 0 where
  Keep : Turn
  Add : Turn
  Refuse : ℕ → ℕ → Turn

abbrev pub turned : CodeTurn → Turn
turned Left = Keep
turned (Added v) = Add
turned (Refused r) = Refuse (number_of r) (place_of r)

-- what is added is this value
abbrev pub Brings : CodeTurn → List ℕ → Type 0
Brings Left v = Unit {0}
Brings (Added x) v = x.now ≡ v
Brings (Refused r) v = Unit {0}

-- a notice whose verdict is true, with its Staff: 19 if there is none that is right; "counted unless those bytes were counted before in this decision"; "then 20 for a ninth person"
abbrev pub staff_turn : List ℕ → List (List ℕ) → Turn
staff_turn v vs =
    pick (eqb (length v) 0) (λ _. Refuse 19 0)
    (λ _. pick (has v vs) (λ _. Keep)
    (λ _. pick (ltb (length vs) 8) (λ _. Add) (λ _. Refuse 20 0)))

-- by what its run answers: refused with it; "if the verdict is true", by its Staff; else left aside
abbrev pub turn_by : RunAnswer → (Unit {0} → Turn) → Turn
turn_by r staff = pick (eqb r.number 0) (λ _. pick (is_true r.verdict) staff (λ _. Keep)) (λ _. Refuse r.number r.place)

-- "Each notice shown to it is run"
abbrev pub turn_of : Decision → List ℕ → Turn
turn_of d notice = turn_by (running_of d.table notice) (λ _. staff_turn (staff_of notice) d.values)

-- ---- showing

-- "a refusal answers its number, the run's place and the rest as it stood"; request 7: the run's first undecided entry with each, "with 19 and 20 too"
abbrev pub answer_by : Turn → ℕ → ℕ → ℕ → Shown
answer_by Keep count needed undecided = shown_as 0 0 count needed undecided
answer_by Add count needed undecided = shown_as 0 0 (count + 1) needed undecided
answer_by (Refuse number place) count needed undecided = shown_as number place count needed undecided

-- whether the Staff is added
abbrev pub adds : Turn → Bool
adds Keep = false
adds Add = true
adds (Refuse number place) = false

-- "and changes nothing": only a Staff that is added changes a byte
abbrev pub bytes_by : Turn → List ℕ → List ℕ → List ℕ
bytes_by t s v = pick (adds t) (λ _. added_to s v) (λ _. s)

-- what follows from a decision, or else what there is without one
abbrev pub on_decision : {A : Type 0} → Option Decision → (Decision → A) → A → A
on_decision none f x = x
on_decision (some d) f x = f d

-- "at a notice first 12 unless the decision keeps .."
abbrev pub show_of : List ℕ → List ℕ → Shown
show_of s notice = on_decision (decision_of s) (λ d. answer_by (turn_of d notice) (length d.values) d.needed (running_of d.table notice).undecided) (nothing_yet 12)

-- the buffer afterwards
abbrev pub shown_bytes : List ℕ → List ℕ → List ℕ
shown_bytes s notice = on_decision (decision_of s) (λ d. bytes_by (turn_of d notice) s (staff_of notice)) s

-- the promise of `show`: the answer, and every byte afterwards
pub record Shows (s notice after : List ℕ) (r : Shown) : Type 0 where
  pub answer : r ≡ show_of s notice
  pub bytes : after ≡ shown_bytes s notice

-- ---- in the interface for C

-- an answer as five numbers: reached is 1, and 0 if not
pub record Gives (a : Shown) (number place count reached undecided : ℕ) : Type 0 where
  pub number_is : number ≡ a.number
  pub place_is : place ≡ a.place
  pub count_is : count ≡ a.count
  pub reached_is : reached ≡ cond a.reached 1 0
  pub undecided_is : undecided ≡ a.undecided
