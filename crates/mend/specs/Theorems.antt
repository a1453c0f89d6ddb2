-- What holds of mending, of the code's own answers, by its promise. The proofs are in proofs/Theorems.antt, under the same names.
use Rattle.std.specs.Prelude.{◌≡◌, Bool, true, not, ◌&&◌, ℕ, zero, suc, ◌+◌, ◌*◌, ◌≤◌, eqb, length, get_or, take, drop, Ok}
use mathlib.Core.List.{List, [], ◌∷◌, map, Permᴰ}
use Rattle.common.specs.Each.{Each}
use Rattle.word.specs.Word.{word_at, Bytes}
use Rattle.notice.specs.Render.{field_bytes, fields_bytes}
use Rattle.notice.specs.Layout.{size_at, field_at, count_of, check_of, starts_of, fields_of}
use Rattle.mend.specs.Mend.{Entry, MendAnswer, cut_at, stays, list_of, kept_in, notice_of, list_bytes, onto, MendIs}

-- A call of `mend(s, list, notice)`: what it answers, both lent buffers after it, and its promise.
pub record MendCall (s list notice : List ℕ) : Type 0 where
  pub answer : MendAnswer
  pub after_list : List ℕ
  pub after_notice : List ℕ
  pub promise : MendIs s list notice answer after_list after_notice

-- the notice that a call leaves, of the length that it answers
abbrev pub result_of : {s list notice : List ℕ} → MendCall s list notice → List ℕ
result_of m = take m.answer.length m.after_notice

-- the list that a call leaves, of as many fields as it answers: "3 bytes a field, u16 offset and one byte 0..4"
unfoldable pub entries_in : ℕ → List ℕ → List Entry
entries_in zero l = []
entries_in (suc n) l = record { offset = word_at 2 l 0; code = get_or l 2 0 } ∷ entries_in n (drop 3 l)

abbrev pub listed_in : {s list notice : List ℕ} → MendCall s list notice → List Entry
listed_in m = entries_in m.answer.fields m.after_list

-- What a reader of the lent buffer finds is the list of the walk.
abbrev pub ListRead : Type 0
ListRead = (s list notice : List ℕ) (m : MendCall s list notice) → m.answer.number ≡ 0 → listed_in m ≡ list_of s

-- "writes a well-formed notice"
abbrev pub ResultWellFormed : Type 0
ResultWellFormed = (s list notice : List ℕ) (m : MendCall s list notice) → m.answer.number ≡ 0 → check_of (result_of m) ≡ Ok tt

-- "Kept and moved fields are exactly those of the result": those at the offsets that the list calls kept or moved, each as often, and no other. Their names rise, since the result is well-formed.
abbrev pub SameFields : Type 0
SameFields = (s list notice : List ℕ) (m : MendCall s list notice) → m.answer.number ≡ 0 → Permᴰ (fields_of (result_of m)) (kept_in s (listed_in m))

-- "bytes and all": after its header the result is the bytes of its fields, and those of a field kept or moved are the ones that stand at its offset
abbrev pub SameBytes : Type 0
SameBytes =
    (s list notice : List ℕ) → Bytes s → (m : MendCall s list notice) → m.answer.number ≡ 0
    → (drop 8 (result_of m) ≡ fields_bytes (fields_of (result_of m)))
    × Each (λ e. stays e.code ≡ true → field_bytes (field_at s e.offset) ≡ take (2 + size_at s e.offset) (drop e.offset s)) (listed_in m)

-- a list in which every field is kept
abbrev pub all_kept : List ℕ → List Entry
all_kept ats = map (λ at. record { offset = at; code = 0 }) ats

-- bytes that come out the same, with each of their fields listed as kept
pub record ComesOut (s list notice : List ℕ) (m : MendCall s list notice) : Type 0 where
  pub answer_is : m.answer ≡ record { number = 0; place = 0; length = length s; fields = count_of s }
  pub same_bytes : m.after_notice ≡ onto s notice
  pub every_kept : m.after_list ≡ onto (list_bytes (all_kept (starts_of s))) list

-- "A well-formed notice comes out the same, with every field kept."
abbrev pub Unchanged : Type 0
Unchanged =
    (s list notice : List ℕ) → Bytes s → check_of s ≡ Ok tt → 3 * count_of s ≤ length list → length s ≤ length notice
    → (m : MendCall s list notice) → ComesOut s list notice m

-- Mending twice changes nothing more.
abbrev pub Twice : Type 0
Twice =
    (s list notice : List ℕ) (m : MendCall s list notice) → m.answer.number ≡ 0
    → (list_again notice_again : List ℕ) → 3 * count_of (result_of m) ≤ length list_again → length (result_of m) ≤ length notice_again
    → (again : MendCall (result_of m) list_again notice_again) → ComesOut (result_of m) list_again notice_again again

-- "is cut and ends the work": only the last field of the list is cut
abbrev pub cut_last : List Entry → Bool
cut_last [] = true
cut_last (e ∷ []) = true
cut_last (e ∷ (d ∷ es)) = not (eqb e.code 4) && cut_last (d ∷ es)

abbrev pub CutEnds : Type 0
CutEnds = (s list notice : List ℕ) (m : MendCall s list notice) → m.answer.number ≡ 0 → cut_last (listed_in m) ≡ true

-- "or a single byte left, is cut"
abbrev pub SingleByteCut : Type 0
SingleByteCut = (s : List ℕ) (at : ℕ) → length s ≡ at + 1 → cut_at s at ≡ true

-- "The header's words are not believed.": bytes that differ in their first 8 only are mended alike.
abbrev pub HeaderNotBelieved : Type 0
HeaderNotBelieved =
    (s t list notice : List ℕ) → length s ≡ length t → drop 8 s ≡ drop 8 t → (m : MendCall s list notice) (k : MendCall t list notice)
    → (m.answer ≡ k.answer) × (m.after_list ≡ k.after_list) × (m.after_notice ≡ k.after_notice)

-- "the last two 0 if refused", "nothing is written then"
abbrev pub NothingWritten : Type 0
NothingWritten =
    (s list notice : List ℕ) (m : MendCall s list notice) → (m.answer.number ≡ 0 → ⊥)
    → (m.answer.length ≡ 0) × (m.answer.fields ≡ 0) × (m.after_list ≡ list) × (m.after_notice ≡ notice)

-- Examples: eight bytes of any header, then the fields `b`, `a`, `b` again, one of kind 9, and a single byte.
abbrev pub damaged : List ℕ
damaged =
    255 ∷ 255 ∷ 255 ∷ 255 ∷ 0 ∷ 0 ∷ 77 ∷ 7
    ∷ 4 ∷ 0 ∷ 4 ∷ 0 ∷ 1 ∷ 98
    ∷ 4 ∷ 0 ∷ 5 ∷ 0 ∷ 1 ∷ 97
    ∷ 4 ∷ 0 ∷ 4 ∷ 0 ∷ 1 ∷ 98
    ∷ 4 ∷ 0 ∷ 9 ∷ 0 ∷ 1 ∷ 99
    ∷ 1 ∷ []

abbrev pub DamagedList : Type 0
DamagedList = list_bytes (list_of damaged) ≡ 8 ∷ 0 ∷ 0 ∷ 14 ∷ 0 ∷ 1 ∷ 20 ∷ 0 ∷ 2 ∷ 26 ∷ 0 ∷ 3 ∷ 32 ∷ 0 ∷ 4 ∷ []

abbrev pub DamagedNotice : Type 0
DamagedNotice = notice_of damaged ≡ 16 ∷ 0 ∷ 0 ∷ 0 ∷ 1 ∷ 0 ∷ 2 ∷ 0 ∷ 4 ∷ 0 ∷ 5 ∷ 0 ∷ 1 ∷ 97 ∷ 4 ∷ 0 ∷ 4 ∷ 0 ∷ 1 ∷ 98 ∷ []
