-- A store in a lent buffer, byte by byte, and the 64 places that it stands for. Document 02, request 12: "We want a standing store in one lent buffer of at most 64 KiB";
-- "Records inside have length first and a two-byte kind"; "4 bytes for each of these .. and 8 for the store". The layout, little-endian:
--
--     0    u32 length of all after it
--     4    u16 kind 6
--     6    u16 count of records
--     8    the records, one after the other, in the order in which they were added
--
-- A record:
--
--     0    u16 length of all after it, 2 and the table's length
--     2    u16 kind, 256 and the number 0..63; no two records have one number
--     4    the table
--
-- Bytes past the last record are not the store's. The layout does not judge the tables. Everything here is total: a byte past the end counts as 0.
use Rattle.std.specs.Prelude.{ℕ, zero, suc, ◌+◌, ◌-◌, Bool, false, ◌&&◌, List, [], ◌∷◌, ◌++◌, map, eqb, leb, ltb, length, get_or, set, take, drop, replicate}
use Rattle.std.proofs.Math.Option.{Option, none, some}
use Rattle.common.specs.Choice.{pick}
use Rattle.word.specs.Word.{word_at, word_bytes}

-- a table and its number
pub record Rec : Type 0 where
  pub number : ℕ
  pub table : List ℕ

-- a place holds a table or is free
abbrev pub Place : Type 0
Place = Option (List ℕ)

-- ---- as bytes

abbrev pub rec_bytes : Rec → List ℕ
rec_bytes r = word_bytes 2 (2 + length r.table) ++ (word_bytes 2 (256 + r.number) ++ r.table)

abbrev pub recs_bytes : List Rec → List ℕ
recs_bytes [] = []
recs_bytes (r ∷ rs) = rec_bytes r ++ recs_bytes rs

abbrev pub header_bytes : ℕ → ℕ → List ℕ
header_bytes size count = word_bytes 4 (4 + size) ++ (word_bytes 2 6 ++ word_bytes 2 count)

unfoldable pub store_bytes : List Rec → List ℕ
store_bytes rs = header_bytes (length (recs_bytes rs)) (length rs) ++ recs_bytes rs

-- a buffer whose store has these records; the bytes past them stay
unfoldable pub written : List Rec → List ℕ → List ℕ
written rs s = store_bytes rs ++ drop (8 + length (recs_bytes rs)) s

-- ---- the parts of a buffer

-- where the store ends, by its first word
abbrev pub end_of : List ℕ → ℕ
end_of s = 4 + word_at 4 s 0

-- the count of records
abbrev pub count_of : List ℕ → ℕ
count_of s = word_at 2 s 6

-- the length word of the record that starts at `at`
abbrev pub size_at : List ℕ → ℕ → ℕ
size_at s at = word_at 2 s at

abbrev pub kind_at : List ℕ → ℕ → ℕ
kind_at s at = word_at 2 s (at + 2)

-- where the next record starts
abbrev pub next_at : List ℕ → ℕ → ℕ
next_at s at = at + 2 + size_at s at

abbrev pub rec_at : List ℕ → ℕ → Rec
rec_at s at = record { number = kind_at s at - 256; table = take (size_at s at - 2) (drop (at + 4) s) }

-- n records from `at` on
unfoldable pub records_from : ℕ → List ℕ → ℕ → List Rec
records_from zero s at = []
records_from (suc n) s at = rec_at s at ∷ records_from n s (next_at s at)

unfoldable pub records_of : List ℕ → List Rec
records_of s = records_from (count_of s) s 8

-- ---- the places

abbrev pub put : List Place → Rec → List Place
put ps r = set ps r.number (some r.table)

-- the places after some records more
unfoldable pub places_from : List Place → List Rec → List Place
places_from ps [] = ps
places_from ps (r ∷ rs) = places_from (put ps r) rs

-- 64 free places
abbrev pub free : List Place
free = replicate 64 none

-- 1 for each place that holds a table, 0 for a free one
abbrev pub mark : Place → ℕ
mark none = 0
mark (some t) = 1

unfoldable pub marks_of : List Place → List ℕ
marks_of ps = map mark ps

-- ---- whether bytes keep the layout

-- "a buffer over 64 KiB or under 8 bytes" is no store
abbrev pub size_right : ℕ → Bool
size_right n = leb 8 n && leb n 65536

-- the length, which lies within the buffer, and the kind
unfoldable pub header_right : List ℕ → Bool
header_right s = size_right (length s) && (leb (end_of s) (length s) && eqb (word_at 2 s 4) 6)

-- a record of a number that is not marked lies from `at` on, before `end`
unfoldable pub stands_at : List ℕ → List ℕ → ℕ → ℕ → Bool
stands_at marks s end at =
    leb (at + 4) end
    && (leb 2 (size_at s at)
    && (leb (next_at s at) end
    && (leb 256 (kind_at s at)
    && (ltb (kind_at s at) 320 && eqb (get_or marks (kind_at s at - 256) 0) 0))))

-- n records from `at` to `end` exactly, none of a number that is held
unfoldable pub right_from : ℕ → List Place → List ℕ → ℕ → ℕ → Bool
right_from zero ps s end at = eqb at end
right_from (suc n) ps s end at = pick (stands_at (marks_of ps) s end at) (λ _. right_from n (put ps (rec_at s at)) s end (next_at s at)) (λ _. false)

-- "26 for bytes that break that layout .. and for a buffer over 64 KiB or under 8 bytes": whether neither is so
unfoldable pub right_of : List ℕ → Bool
right_of s = pick (header_right s) (λ _. right_from (count_of s) free s (end_of s) 8) (λ _. false)

-- the places of bytes that keep the layout ..
unfoldable pub places_in : List ℕ → List Place
places_in s = places_from free (records_of s)

-- .. and the 64 places that bytes stand for, or none if they break it
abbrev pub places_of : List ℕ → Option (List Place)
places_of s = pick (right_of s) (λ _. some (places_in s)) (λ _. none)
