-- What each call answers, and every byte afterwards. Document 02, request 12, the refusals in their order.
use Rattle.std.specs.Prelude.{ℕ, zero, suc, ◌+◌, ◌*◌, ◌≤◌, ◌<◌, ◌≡◌, Bool, true, false, cond, List, [], ◌∷◌, ◌++◌, Result, Ok, Err, eqb, leb, ltb, length, get_or, set, replicate}
use Rattle.std.proofs.Math.Option.{none, some}
use Rattle.common.specs.Choice.{pick}
use Rattle.refusal.specs.declared.Refusal.{Refusal}
use Rattle.refusal.specs.Refusal.{number_of}
use Rattle.notice.specs.Layout.{unless}
use Rattle.table.specs.Table.{most_bytes}
use Rattle.table.specs.Check.{check_of as tableCheck, refusal_of}
use Rattle.store.specs.Layout.{Rec, Place, end_of, records_of, size_right, right_of, places_in, written}
use Rattle.store.specs.declared.Part.{Part as Stretch}

-- ---- of 64 places

-- "the lowest free number", 64 if there is none
unfoldable pub lowest_free : List Place → ℕ
lowest_free [] = 0
lowest_free (none ∷ ps) = 0
lowest_free (some t ∷ ps) = suc (lowest_free ps)

-- how many places hold a table
unfoldable pub held_count : List Place → ℕ
held_count [] = 0
held_count (none ∷ ps) = held_count ps
held_count (some t ∷ ps) = suc (held_count ps)

-- how many bytes "the tables held" have
unfoldable pub held_bytes : List Place → ℕ
held_bytes [] = 0
held_bytes (none ∷ ps) = held_bytes ps
held_bytes (some t ∷ ps) = length t + held_bytes ps

-- "the tables held, plus the new one, plus 4 bytes for each of these, the new one too, and 8 for the store"
abbrev pub room_for : List Place → List ℕ → ℕ
room_for ps t = held_bytes ps + length t + 4 * suc (held_count ps) + 8

abbrev pub is_held : Place → Bool
is_held none = false
is_held (some t) = true

-- the table of a place, no bytes for a free one
abbrev pub table_in : Place → List ℕ
table_in none = []
table_in (some t) = t

-- ---- the records by number

abbrev pub rec : ℕ → List ℕ → Rec
rec n t = record { number = n; table = t }

-- the records without the first one of a number
abbrev pub without : ℕ → List Rec → List Rec
without n [] = []
without n (r ∷ rs) = pick (eqb r.number n) (λ _. rs) (λ _. r ∷ without n rs)

-- where some records more start, by number, 0 for none, if the first of them starts at `at`
unfoldable pub starts_in : List ℕ → List Rec → ℕ → List ℕ
starts_in starts [] at = starts
starts_in starts (r ∷ rs) at = starts_in (set starts r.number at) rs (at + (4 + length r.table))

-- where the record of each number starts, 0 for none
abbrev pub starts_of : List ℕ → List ℕ
starts_of s = starts_in (replicate 64 0) (records_of s) 8

-- the index of the first 0, the length if there is none
unfoldable pub first_zero : List ℕ → ℕ
first_zero [] = 0
first_zero (zero ∷ ms) = 0
first_zero (suc m ∷ ms) = suc (first_zero ms)

-- where the first record of a number starts
pub data Found : Type 0 where
  At : ℕ → Found
  Nothing : Found

-- .. if the first of these records starts at `at`
abbrev pub locate_in : ℕ → List Rec → ℕ → Found
locate_in n [] at = Nothing
locate_in n (r ∷ rs) at = pick (eqb r.number n) (λ _. At at) (λ _. locate_in n rs (at + (4 + length r.table)))

-- ---- make

-- the refusal of a call that answers no more; 0 for none
abbrev pub ended : Result (Unit {0}) Refusal → ℕ
ended (Ok done) = 0
ended (Err r) = number_of r

-- 26 for the buffer's size alone: "(not when making it empty)"
abbrev pub make_refusal : List ℕ → ℕ
make_refusal s = unless (size_right (length s)) 26 0

abbrev pub made_bytes : List ℕ → List ℕ
made_bytes s = pick (eqb (make_refusal s) 0) (λ _. written [] s) (λ _. s)

-- the promise of `make`: the refusal, and every byte afterwards
pub record Makes (s after : List ℕ) (refusal : ℕ) : Type 0 where
  pub answer : refusal ≡ make_refusal s
  pub bytes : after ≡ made_bytes s

-- ---- add

-- "for add 12, 27 for 64 held, 28 for room", in a buffer of a size; 0 for none
abbrev pub add_refusal_in : ℕ → List Place → List ℕ → ℕ
add_refusal_in size ps t =
    unless (tableCheck t) (refusal_of false)
    (unless (ltb (held_count ps) 64) 27
    (unless (leb (room_for ps t) size) 28
    0))

unfoldable pub add_refusal : List ℕ → List ℕ → ℕ
add_refusal s t = unless (right_of s) 26 (add_refusal_in (length s) (places_in s) t)

-- what adding answers: the refusal, 0 for none, and the number, 64 if refused
pub record Added : Type 0 where
  pub refusal : ℕ
  pub number : ℕ

abbrev pub answered : ℕ → ℕ → Added
answered refusal number = record { refusal = refusal; number = number }

abbrev pub added : Result ℕ Refusal → Added
added (Ok number) = answered 0 number
added (Err r) = answered (number_of r) 64

-- "get the lowest free number 0..63"; "Refused, add answers 64"
abbrev pub added_by : ℕ → List Place → Added
added_by refusal ps = answered refusal (cond (eqb refusal 0) (lowest_free ps) 64)

abbrev pub added_of : List ℕ → List ℕ → Added
added_of s t = added_by (add_refusal s t) (places_in s)

-- the buffer afterwards: the new record stands after the others; a refusal changes no byte
abbrev pub added_bytes : List ℕ → List ℕ → List ℕ
added_bytes s t = pick (eqb (add_refusal s t) 0) (λ _. written (records_of s ++ (rec (lowest_free (places_in s)) t ∷ [])) s) (λ _. s)

-- the promise of `add`: the answer, and every byte afterwards
pub record Adds (s t after : List ℕ) (a : Added) : Type 0 where
  pub answer : a ≡ added_of s t
  pub bytes : after ≡ added_bytes s t

-- ---- remove

-- "for remove and fetch 29 for a number not held", 64 and more too; 0 for none
abbrev pub held_refusal_in : List Place → ℕ → ℕ
held_refusal_in ps n = unless (is_held (get_or ps n none)) 29 0

unfoldable pub held_refusal : List ℕ → ℕ → ℕ
held_refusal s n = unless (right_of s) 26 (held_refusal_in (places_in s) n)

-- the buffer afterwards: the later records move down; a refusal changes no byte
abbrev pub removed_bytes : List ℕ → ℕ → List ℕ
removed_bytes s n = pick (eqb (held_refusal s n) 0) (λ _. written (without n (records_of s)) s) (λ _. s)

-- the promise of `remove`: the refusal, and every byte afterwards
pub record Removes (s : List ℕ) (n : ℕ) (after : List ℕ) (refusal : ℕ) : Type 0 where
  pub answer : refusal ≡ held_refusal s n
  pub bytes : after ≡ removed_bytes s n

-- ---- fetch

-- "Refused, .. fetch an empty part"
abbrev pub fetched_of : List ℕ → ℕ → List ℕ
fetched_of s n = pick (eqb (held_refusal s n) 0) (λ _. table_in (get_or (places_in s) n none)) (λ _. [])

-- where the table starts, after its record's length and kind; 0 if refused
abbrev pub part_start : List ℕ → ℕ → ℕ
part_start s n = cond (eqb (held_refusal s n) 0) (get_or (starts_of s) n 0 + 4) 0

-- where a table lies: the refusal, 0 for none, and the part of the store from `start` to `end`, both 0 if refused
pub record Part : Type 0 where
  pub refusal : ℕ
  pub start : ℕ
  pub end : ℕ

abbrev pub found : Result Stretch Refusal → Part
found (Ok p) = record { refusal = 0; start = p.start; end = p.end }
found (Err r) = record { refusal = number_of r; start = 0; end = 0 }

-- "as a part of the buffer": from `start` to `end`, both 0 if refused
abbrev pub part_of : List ℕ → ℕ → Part
part_of s n = record { refusal = held_refusal s n; start = part_start s n; end = part_start s n + length (fetched_of s n) }

-- ---- what the inner functions ask

-- a table that may be appended
pub record Appendable (s : List ℕ) (number : ℕ) (t : List ℕ) : Type 0 where
  pub right : right_of s ≡ true
  pub few : number < 64
  pub short : length t ≤ most_bytes
  pub unheld : get_or (places_in s) number none ≡ none
  pub room : end_of s + (4 + length t) ≤ length s

-- a record that may be cut out
pub record Removable (s : List ℕ) (number at : ℕ) : Type 0 where
  pub right : right_of s ≡ true
  pub found : locate_in number (records_of s) 8 ≡ At at
