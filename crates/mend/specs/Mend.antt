-- Mending the notices of the old consoles: what is asked. Document 02, request 14.
-- Everything here is total: a byte past the end counts as 0.
use Rattle.std.specs.Prelude.{ℕ, zero, suc, ◌*◌, ◌≡◌, Bool, false, cond, ◌&&◌, ◌||◌, List, [], ◌∷◌, ◌++◌, eqb, leb, ltb, length, drop, Result, Ok, Err}
use Rattle.common.specs.Choice.{pick}
use Rattle.word.specs.Word.{word_bytes}
use Rattle.octets.specs.Octets.{before_of}
use Rattle.notice.specs.Field.{Field}
use Rattle.notice.specs.Render.{render}
use Rattle.notice.specs.Layout.{unless, next_at, name_at, field_at, right_at}
use Rattle.notice.specs.Write.{has_name, sorted}
use Rattle.refusal.specs.declared.Refusal.{Refusal}
use Rattle.refusal.specs.Refusal.{number_of as refusal_number, place_of as refusal_place}
use Rattle.mend.specs.declared.Mended.{Mended}

-- ---- field by field

-- "It lists per field its offset and one of: kept, moved, repeated, bad, cut", "0..4 in the order above"
pub record Entry : Type 0 where
  pub offset : ℕ
  pub code : ℕ

-- "A field length that passes the end, or a single byte left, is cut". Of a single byte the length word is that byte, so that the length passes the end.
abbrev pub cut_at : List ℕ → ℕ → Bool
cut_at s at = ltb (length s) (next_at s at)

-- "with a greater name kept before it"
abbrev pub has_greater : List ℕ → List Field → Bool
has_greater name [] = false
has_greater name (f ∷ fs) = before_of name f.name || has_greater name fs

-- a field that is right by itself, by its name and the fields kept before: repeated if the "name was .. kept before"; "Moved means kept, but with a greater name kept before it"; else kept
abbrev pub code_among : List Field → List ℕ → ℕ
code_among kept name = cond (has_name name kept) 2 (cond (has_greater name kept) 1 0)

-- the field at `at`: "A field not right by itself is bad, whatever its name."
abbrev pub code_at : List ℕ → List Field → ℕ → ℕ
code_at s kept at = cond (cut_at s at) 4 (cond (right_at s at) (code_among kept (name_at s at)) 3)

-- "keeps each field that is right by itself and whose name was not kept before": kept or moved
abbrev pub stays : ℕ → Bool
stays code = leb code 1

abbrev pub kept_with : List ℕ → List Field → ℕ → List Field
kept_with s kept at = cond (stays (code_at s kept at)) (kept ++ (field_at s at ∷ [])) kept

-- "goes field by field by the length words", where some were kept before. After a cut field the next place is past the end, which "ends the work".
-- A field takes 2 bytes at least, so n fields are enough where n bytes are left.
unfoldable pub list_from : ℕ → List ℕ → List Field → ℕ → List Entry
list_from zero s kept at = []
list_from (suc n) s kept at = pick (ltb at (length s)) (λ _. record { offset = at; code = code_at s kept at } ∷ list_from n s (kept_with s kept at) (next_at s at)) (λ _. [])

-- "from offset 8"; "The header's words are not believed."
abbrev pub list_of : List ℕ → List Entry
list_of s = list_from (length s) s [] 8

-- the fields that a list calls kept or moved
abbrev pub kept_in : List ℕ → List Entry → List Field
kept_in s [] = []
kept_in s (e ∷ es) = cond (stays e.code) (field_at s e.offset ∷ kept_in s es) (kept_in s es)

abbrev pub kept_of : List ℕ → List Field
kept_of s = kept_in s (list_of s)

-- ---- what is written

-- "writes a well-formed notice": the fields kept, in name order
abbrev pub notice_of : List ℕ → List ℕ
notice_of s = render (sorted (kept_of s))

-- "3 bytes a field, u16 offset and one byte 0..4"
abbrev pub entry_bytes : Entry → List ℕ
entry_bytes e = word_bytes 2 e.offset ++ (e.code ∷ [])

abbrev pub list_bytes : List Entry → List ℕ
list_bytes [] = []
list_bytes (e ∷ es) = entry_bytes e ++ list_bytes es

-- ---- what is answered

-- "if either lent buffer is short"
abbrev pub room_for : List ℕ → ℕ → ℕ → Bool
room_for s list notice = leb (3 * length (list_of s)) list && leb (length (notice_of s)) notice

-- "Refusals: 30 for under 8 bytes, then 10 for over 16,384, then 15 if 65 fields would be kept, then 9 if either lent buffer is short"; 0 for none
abbrev pub refusal_of : List ℕ → ℕ → ℕ → ℕ
refusal_of s list notice =
    unless (leb 8 (length s)) 30
    (unless (leb (length s) 16384) 10
    (unless (leb (length (kept_of s)) 64) 15
    (unless (room_for s list notice) 9
    0)))

-- "It answers number, place, the notice's length and the count of fields listed, the last two 0 if refused."
pub record MendAnswer : Type 0 where
  pub number : ℕ
  pub place : ℕ
  pub length : ℕ
  pub fields : ℕ

abbrev pub mend_answer : Result Mended Refusal → MendAnswer
mend_answer (Ok m) = record { number = 0; place = 0; length = m.length; fields = m.fields }
mend_answer (Err r) = record { number = refusal_number r; place = refusal_place r; length = 0; fields = 0 }

abbrev pub refused : ℕ → MendAnswer
refused number = record { number = number; place = 0; length = 0; fields = 0 }

abbrev pub done : List ℕ → MendAnswer
done s = record { number = 0; place = 0; length = length (notice_of s); fields = length (list_of s) }

abbrev pub mended_by : ℕ → List ℕ → MendAnswer
mended_by number s = cond (eqb number 0) (done s) (refused number)

abbrev pub mended_of : List ℕ → ℕ → ℕ → MendAnswer
mended_of s list notice = mended_by (refusal_of s list notice) s

-- new bytes at a buffer's start: "bytes past it and past the notice stay"
abbrev pub onto : List ℕ → List ℕ → List ℕ
onto new buffer = new ++ drop (length new) buffer

-- the two lent buffers afterwards; "nothing is written then"
abbrev pub list_after : List ℕ → List ℕ → List ℕ → List ℕ
list_after s list notice = cond (eqb (refusal_of s (length list) (length notice)) 0) (onto (list_bytes (list_of s)) list) list

abbrev pub notice_after : List ℕ → List ℕ → List ℕ → List ℕ
notice_after s list notice = cond (eqb (refusal_of s (length list) (length notice)) 0) (onto (notice_of s) notice) notice

-- what mending answers, and the bytes of both lent buffers with it
abbrev pub MendIs : List ℕ → List ℕ → List ℕ → MendAnswer → List ℕ → List ℕ → Type 0
MendIs s list notice answer after_list after_notice =
    (answer ≡ mended_of s (length list) (length notice)) × (after_list ≡ list_after s list notice) × (after_notice ≡ notice_after s list notice)
