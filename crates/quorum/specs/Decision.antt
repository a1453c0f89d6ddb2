-- A decision in a lent buffer: "A decision is opened with a table, which it keeps, and a needed number of 1 to 8 people." The layout, little-endian:
--
--     0    u32 length of all after it, 524 and the table's length
--     4    u16 kind 5
--     6    u8  needed number, 1..8
--     7    u8  count of values, 0..8
--     8    8 places of 65 bytes, each a length byte and 64 bytes for a value; those past the count may hold anything, and so may what a value leaves of its 64
--     528  the table
--
-- Bytes past the table are not the decision's. Everything here is total: a byte past the end counts as 0.
use Rattle.std.specs.Prelude.{ℕ, zero, suc, ◌+◌, ◌*◌, ◌-◌, ◌≤◌, ◌≡◌, Bool, true, false, not, ◌&&◌, ◌||◌, List, [], ◌∷◌, ◌++◌, eqb, leb, length, get_or, take, drop, set}
use Rattle.std.proofs.Math.Option.{Option, some, none}
use Rattle.std.proofs.lemmas.List.Edits.{sets}
use Rattle.common.specs.Choice.{pick}
use Rattle.word.specs.Word.{word_at, word_bytes}
use Rattle.octets.specs.Octets.{same_of}
use Rattle.table.specs.Check.{check_of as tableCheck}

-- what a decision keeps: the table, the needed number, and the values counted so far, the first counted first
pub record Decision : Type 0 where
  pub table : List ℕ
  pub needed : ℕ
  pub values : List (List ℕ)

-- a value is among others: "those bytes were counted before"
unfoldable pub has : List ℕ → List (List ℕ) → Bool
has v [] = false
has v (w ∷ ws) = same_of w v || has v ws

-- "all different"
unfoldable pub different : List (List ℕ) → Bool
different [] = true
different (v ∷ vs) = not (has v vs) && different vs

-- ---- the parts of a buffer

-- the length of the whole decision, by its first word
abbrev pub size_of : List ℕ → ℕ
size_of s = 4 + word_at 4 s 0

-- the needed number
abbrev pub needed_of : List ℕ → ℕ
needed_of s = get_or s 6 0

-- the count of values
abbrev pub count_of : List ℕ → ℕ
count_of s = get_or s 7 0

-- the length byte of place i
abbrev pub value_size : List ℕ → ℕ → ℕ
value_size s i = get_or s (8 + 65 * i) 0

-- the value in place i
abbrev pub value_at : List ℕ → ℕ → List ℕ
value_at s i = take (value_size s i) (drop (9 + 65 * i) s)

-- the n values from place i on
unfoldable pub values_from : List ℕ → ℕ → ℕ → List (List ℕ)
values_from s i zero = []
values_from s i (suc n) = value_at s i ∷ values_from s (suc i) n

-- all values
abbrev pub values_of : List ℕ → List (List ℕ)
values_of s = values_from s 0 (count_of s)

-- the table
abbrev pub table_of : List ℕ → List ℕ
table_of s = take (size_of s - 528) (drop 528 s)

-- ---- whether a buffer holds a decision

-- the length, which lies within the buffer, the kind, "a needed number in 1..8 and at most 8 values"
unfoldable pub head_right : List ℕ → Bool
head_right s =
    leb 528 (length s)
    && (leb 528 (size_of s)
    && (leb (size_of s) (length s)
    && (eqb (word_at 2 s 4) 5
    && ((leb 1 (needed_of s) && leb (needed_of s) 8) && leb (count_of s) 8))))

-- "of 1..64 bytes": the n values from place i on
unfoldable pub sizes_right : List ℕ → ℕ → ℕ → Bool
sizes_right s i zero = true
sizes_right s i (suc n) = (leb 1 (value_size s i) && leb (value_size s i) 64) && sizes_right s (suc i) n

-- n values that lie in their places, as a loop over them asks
pub record Sized (s : List ℕ) (n : ℕ) : Type 0 where
  pub long : 528 ≤ length s
  pub few : n ≤ 8
  pub right : sizes_right s 0 n ≡ true

-- "keeps a table that passes the check, a needed number in 1..8 and at most 8 values, all different, of 1..64 bytes"
unfoldable pub holds_of : List ℕ → Bool
holds_of s = head_right s && (sizes_right s 0 (count_of s) && (different (values_of s) && tableCheck (table_of s)))

-- what a buffer keeps, if it holds a decision ..
abbrev pub kept : List ℕ → Decision
kept s = record { table = table_of s; needed = needed_of s; values = values_of s }

-- .. and the decision that it holds, or none
abbrev pub decision_of : List ℕ → Option Decision
decision_of s = pick (holds_of s) (λ _. some (kept s)) (λ _. none)

-- ---- what is written

-- the bytes before the values, at an opening
abbrev pub head_bytes : ℕ → ℕ → List ℕ
head_bytes size needed = word_bytes 4 (524 + size) ++ (word_bytes 2 5 ++ (needed ∷ 0 ∷ []))

-- a new decision: its head and its table; the bytes of the places, and those past the table, stay
abbrev pub opened_with : List ℕ → List ℕ → ℕ → List ℕ
opened_with s table needed = sets (sets s 0 (head_bytes (length table) needed)) 528 table

-- one value more: the count, and the value in the first free place; every other byte stays
abbrev pub added_to : List ℕ → List ℕ → List ℕ
added_to s v = sets (set s 7 (count_of s + 1)) (8 + 65 * count_of s) (length v ∷ v)
