-- What holds of every store. The proofs are in proofs/Theorems.antt, under the same names.
use Rattle.std.specs.Prelude.{ℕ, ◌-◌, ◌≤◌, ◌<◌, ◌≡◌, true, List, [], ◌∷◌, ◌++◌, map, ◌↔◌, eqb, length, get_or, set, take, drop}
use Rattle.std.proofs.Math.Option.{none, some}
use Rattle.common.specs.Choice.{pick}
use Rattle.common.specs.Each.{Each}
use Rattle.word.specs.Word.{Bytes}
use Rattle.table.specs.Check.{check_of as tableCheck}
use Rattle.store.specs.Layout.{Rec, Place, store_bytes, records_of, put, free, right_of, places_in}
use Rattle.store.specs.Calls.{Added, Part, lowest_free, held_count, room_for, table_in, add_refusal_in, added_by, held_refusal_in, part_of, fetched_of, Makes, Adds, Removes}

-- ---- the layout

-- records that fill free places one after the other: numbers 0..63, no two alike, and lengths that fit their words
unfoldable pub Good : List Place → List Rec → Type 0
Good ps [] = Unit {0}
Good ps (r ∷ rs) = (r.number < 64) × (length r.table ≤ 65533) × (get_or ps r.number none ≡ none) × Good (put ps r) rs

-- Bytes keep the layout exactly if there are at most 65,536 and they begin with those of good records ..
abbrev pub LayoutIs : Type 0
LayoutIs = (s : List ℕ) → Bytes s → (right_of s ≡ true) ↔ ((rs : List Rec) × (rest : List ℕ) × Good free rs × (length s ≤ 65536) × (s ≡ store_bytes rs ++ rest))

-- .. and those records are then the ones that are read.
abbrev pub RecordsRead : Type 0
RecordsRead = (rs : List Rec) (rest : List ℕ) → Good free rs → length (store_bytes rs ++ rest) ≤ 65536 → records_of (store_bytes rs ++ rest) ≡ rs

-- Bytes that keep the layout have at most 64 records.
abbrev pub AtMost64 : Type 0
AtMost64 = (s : List ℕ) → right_of s ≡ true → length (records_of s) ≤ 64

-- ---- one call

-- "the lowest free number": it is free, and every lower one is held.
abbrev pub Lowest : Type 0
Lowest = (ps : List Place) → (get_or ps (lowest_free ps) none ≡ none) × ((n : ℕ) → n < lowest_free ps → get_or ps n none ≡ none → ⊥)

-- "27 for 64 held": there is no free number exactly if 64 are held.
abbrev pub FullIs64 : Type 0
FullIs64 = (ps : List Place) → length ps ≡ 64 → (lowest_free ps ≡ 64) ↔ (held_count ps ≡ 64)

-- "an add is refused for room exactly if the tables held, plus the new one, plus 4 bytes for each of these, the new one too, and 8 for the store, exceed the buffer":
-- on bytes that keep the layout, of a table that passes the check, with fewer than 64 held, by what `add` promises of its answer.
abbrev pub RoomRule : Type 0
RoomRule =
    (s t after : List ℕ) (a : Added) → Adds s t after a → right_of s ≡ true → tableCheck t ≡ true → held_count (places_in s) < 64
    → (a.refusal ≡ 28) ↔ (length s < room_for (places_in s) t)

-- An add that is not refused answers a number from 0 to 63.
abbrev pub NumberBelow64 : Type 0
NumberBelow64 = (s t after : List ℕ) (a : Added) → Adds s t after a → a.refusal ≡ 0 → a.number < 64

-- The part that `find` answers lies in the buffer and holds the bytes that `fetch` answers.
abbrev pub PartFetched : Type 0
PartFetched =
    (s : List ℕ) → Bytes s → (n : ℕ) (p : Part) → p ≡ part_of s n
    → (p.start ≤ p.end) × (p.end ≤ length s) × (take (p.end - p.start) (drop p.start s) ≡ fetched_of s n)

-- "Refused, add answers 64", and no byte changes ..
abbrev pub AddRefused : Type 0
AddRefused = (s t after : List ℕ) (a : Added) → Adds s t after a → (a.refusal ≡ 0 → ⊥) → (a.number ≡ 64) × (after ≡ s)

-- .. nor by a remove that is refused ..
abbrev pub RemoveRefused : Type 0
RemoveRefused = (s : List ℕ) (n : ℕ) (after : List ℕ) (refusal : ℕ) → Removes s n after refusal → (refusal ≡ 0 → ⊥) → after ≡ s

-- .. "and fetch an empty part", from 0 to 0.
abbrev pub FetchRefused : Type 0
FetchRefused = (s : List ℕ) (n : ℕ) (p : Part) → p ≡ part_of s n → (p.refusal ≡ 0 → ⊥) → (p.start ≡ 0) × (p.end ≡ 0) × (fetched_of s n ≡ [])

-- ---- calls one after the other

pub data Call : Type 0 where
  make : Call
  add : List ℕ → Call
  remove : ℕ → Call
  fetch : ℕ → Call

-- a call and what was answered: the refusal, of `add` the number too, of `fetch` the table
pub data Event : Type 0 where
  made : ℕ → Event
  added : List ℕ → Added → Event
  removed : ℕ → ℕ → Event
  fetched : ℕ → ℕ → List ℕ → Event

abbrev pub call_of : Event → Call
call_of (made k) = make
call_of (added t a) = add t
call_of (removed n k) = remove n
call_of (fetched n k t) = fetch n

abbrev pub refusal_in : Event → ℕ
refusal_in (made k) = k
refusal_in (added t a) = a.refusal
refusal_in (removed n k) = k
refusal_in (fetched n k t) = k

-- An event on a buffer that is s before it and `after` afterwards is what `make`, `add`, `remove`, `find` and `fetch` promise. Fetching is lent the buffer to read alone.
abbrev pub Happens : List ℕ → Event → List ℕ → Type 0
Happens s (made k) after = Makes s after k
Happens s (added t a) after = Adds s t after a
Happens s (removed n k) after = Removes s n after k
Happens s (fetched n k t) after = (k ≡ (part_of s n).refusal) × (t ≡ fetched_of s n) × (after ≡ s)

-- The events happen one after the other on a buffer that is s before the first, "with nobody else writing there": each call finds the bytes that the last one left.
unfoldable pub Follows : List ℕ → List Event → Type 0
Follows s [] = Unit {0}
Follows s (e ∷ es) = (after : List ℕ) × Happens s e after × Follows after es

-- "from an empty store": a buffer of a size was made empty, and not refused; these are the events since.
pub record History (size : ℕ) (es : List Event) : Type 0 where
  pub buffer : List ℕ
  pub long : length buffer ≡ size
  pub empty : List ℕ
  pub makes : Makes buffer empty 0
  pub follows : Follows empty es

-- ---- the same on a plain list of 64 places, in a buffer of a size

abbrev pub plain_event : ℕ → List Place → Call → Event
plain_event size ps make = made 0
plain_event size ps (add t) = added t (added_by (add_refusal_in size ps t) ps)
plain_event size ps (remove n) = removed n (held_refusal_in ps n)
plain_event size ps (fetch n) = fetched n (held_refusal_in ps n) (table_in (get_or ps n none))

abbrev pub plain_after : ℕ → List Place → Call → List Place
plain_after size ps make = free
plain_after size ps (add t) = pick (eqb (add_refusal_in size ps t) 0) (λ _. set ps (lowest_free ps) (some t)) (λ _. ps)
plain_after size ps (remove n) = set ps n none
plain_after size ps (fetch n) = ps

abbrev pub plain_events : ℕ → List Place → List Call → List Event
plain_events size ps [] = []
plain_events size ps (c ∷ cs) = plain_event size ps c ∷ plain_events size (plain_after size ps c) cs

-- "Over any sequence of calls from an empty store, with nobody else writing there, fetch answers as a plain list of 64 places does", and so do the other calls:
-- the events are those that the list gives for the same calls, "an add is refused for room" by the list and the buffer's size alone.
abbrev pub AsPlain : Type 0
AsPlain = (size : ℕ) (es : List Event) → History size es → es ≡ plain_events size free (map call_of es)

-- "26 .. never for what calls from an empty store left"
abbrev pub Never26 : Type 0
Never26 = (size : ℕ) (es : List Event) → History size es → Each (λ e. refusal_in e ≡ 26 → ⊥) es

-- What is fetched after any calls from an empty store passes the table check.
abbrev pub Passes : Event → Type 0
Passes (made k) = Unit {0}
Passes (added t a) = Unit {0}
Passes (removed n k) = Unit {0}
Passes (fetched n k t) = k ≡ 0 → tableCheck t ≡ true

abbrev pub FetchedPass : Type 0
FetchedPass = (size : ℕ) (es : List Event) → History size es → Each Passes es
