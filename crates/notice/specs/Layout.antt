-- The layout of a notice, byte by byte: where a field's parts lie, the first fault and its place, and the fields. Document 01, "Notice" and "Refusals by number".
-- Everything here is total: a byte past the end counts as 0.
use Rattle.std.specs.Prelude.{◌≡◌, ℕ, zero, suc, ◌+◌, ◌-◌, Bool, true, false, cond, ◌&&◌, List, [], ◌∷◌, map, length, take, drop, ◌==◌, nat_le, slice_index, Result, Ok, Err}
use Rattle.common.specs.Choice.{pick}
use Rattle.word.specs.Word.{word_at}
use Rattle.octets.specs.Octets.{before_of}
use Rattle.refusal.specs.declared.Refusal.{Refusal}
use Rattle.refusal.specs.declared.Refusal.TheVariants.{Notice}
use Rattle.refusal.specs.Refusal.{number_of as refusal_number, place_of as refusal_place}
use Rattle.notice.specs.Field.{Field, field_right}

-- a refusal's number unless a test holds, and then the next one's
abbrev pub unless : Bool → ℕ → ℕ → ℕ
unless true number next = next
unless false number next = number

-- "Field: u16 length of all after it; u16 kind; u8 name length 1..64; name; the value takes the rest." The field starts at `at`.
abbrev pub size_at : List ℕ → ℕ → ℕ
size_at s at = word_at 2 s at

abbrev pub kind_at : List ℕ → ℕ → ℕ
kind_at s at = word_at 2 s (at + 2)

abbrev pub name_size_at : List ℕ → ℕ → ℕ
name_size_at s at = slice_index s (at + 4)

abbrev pub value_size_at : List ℕ → ℕ → ℕ
value_size_at s at = size_at s at - (3 + name_size_at s at)

-- where the value starts, and where the next field does
abbrev pub value_start : List ℕ → ℕ → ℕ
value_start s at = at + 5 + name_size_at s at

abbrev pub next_at : List ℕ → ℕ → ℕ
next_at s at = at + 2 + size_at s at

abbrev pub name_at : List ℕ → ℕ → List ℕ
name_at s at = take (name_size_at s at) (drop (at + 5) s)

abbrev pub value_at : List ℕ → ℕ → List ℕ
value_at s at = take (value_size_at s at) (drop (value_start s at) s)

abbrev pub field_at : List ℕ → ℕ → Field
field_at s at = record { kind = kind_at s at; name = name_at s at; value = value_at s at }

-- the field's length leaves room for its name, and the field ends within the notice
abbrev pub lies_at : List ℕ → ℕ → Bool
lies_at s at = nat_le (3 + name_size_at s at) (size_at s at) && nat_le (next_at s at) (length s)

-- "Whole notice at most 16,384 bytes"; a header has 8
abbrev pub length_right : List ℕ → Bool
length_right s = nat_le 8 (length s) && nat_le (length s) 16384

abbrev pub count_of : List ℕ → ℕ
count_of s = word_at 2 s 6

-- "u32 length of all after it; u16 kind 1; u16 field count 0..64 .. and exactly the slice"; "0 for the header (size over 16,384 or under 8, length, kind, count)"
abbrev pub header_right : List ℕ → Bool
header_right s = length_right s && (4 + word_at 4 s 0 == length s && (word_at 2 s 4 == 1 && nat_le (count_of s) 64))

-- a field that is right by itself starts at `at`
abbrev pub right_at : List ℕ → ℕ → Bool
right_at s at = lies_at s at && field_right (field_at s at)

-- .. and its name is after the last one
abbrev pub stands_at : List ℕ → List ℕ → ℕ → Bool
stands_at last s at = right_at s at && before_of last (name_at s at)

-- what is found of a notice's layout: nothing wrong, or the refusal with the place of its first fault
abbrev pub Layout : Type 0
Layout = Result (Unit {0}) Refusal

-- n fields from `at` on, and nothing after them: "the faulty field's start, the first spare byte"
unfoldable pub check_from : ℕ → List ℕ → List ℕ → ℕ → Layout
check_from zero last s at = cond (at == length s) (Ok tt) (Err (Notice at))
check_from (suc n) last s at = pick (stands_at last s at) (λ _. check_from n (name_at s at) s (next_at s at)) (λ _. Err (Notice at))

-- the first fault: the header's, then the fields' in order, then what is spare. Every name is after the empty one.
abbrev pub check_of : List ℕ → Layout
check_of s = pick (header_right s) (λ _. check_from (count_of s) [] s 8) (λ _. Err (Notice 0))

-- "11: notice fails layout", and its place
abbrev pub number_of : Layout → ℕ
number_of (Ok u) = 0
number_of (Err r) = refusal_number r

abbrev pub place_of : Layout → ℕ
place_of (Ok u) = 0
place_of (Err r) = refusal_place r

-- the starts of n fields from `at` on, as far as they lie within the notice
unfoldable pub starts_from : ℕ → List ℕ → ℕ → List ℕ
starts_from zero s at = []
starts_from (suc n) s at = pick (lies_at s at) (λ _. at ∷ starts_from n s (next_at s at)) (λ _. [])

abbrev pub starts_of : List ℕ → List ℕ
starts_of s = pick (length_right s) (λ _. starts_from (count_of s) s 8) (λ _. [])

-- the fields, as far as they lie within the notice
abbrev pub fields_of : List ℕ → List Field
fields_of s = map (field_at s) (starts_of s)

-- the starts of n fields from `at` on, as far as each is right and its name is after the last one
unfoldable pub stood_from : ℕ → List ℕ → List ℕ → ℕ → List ℕ
stood_from zero last s at = []
stood_from (suc n) last s at = pick (stands_at last s at) (λ _. at ∷ stood_from n (name_at s at) s (next_at s at)) (λ _. [])

abbrev pub stood_of : List ℕ → List ℕ
stood_of s = pick (header_right s) (λ _. stood_from (count_of s) [] s 8) (λ _. [])

-- an array has the starts of a notice's fields in its first places
abbrev pub Indexed : List ℕ → List ℕ → Type 0
Indexed s starts = take (count_of s) starts ≡ starts_of s
