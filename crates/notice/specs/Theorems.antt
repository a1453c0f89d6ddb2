-- What holds of notices. The proofs are in proofs/Theorems.antt, under the same names.
use Rattle.std.specs.Prelude.{◌≡◌, ℕ, ◌+◌, ◌<◌, ◌≤◌, true, false, ◌⊎◌, ◌↔◌, List, [], ◌∷◌, ◌++◌, length, take, drop, ◌≢◌, slice_index_or, Ok, Err}
use mathlib.Core.List.{Memᴰ, Permᴰ}
use Rattle.std.proofs.Math.Option.{some, none}
use Rattle.word.specs.Word.{Bytes}
use Rattle.refusal.specs.declared.Refusal.{Refusal}
use Rattle.refusal.specs.declared.Refusal.TheVariants.{Notice}
use Rattle.notice.specs.Field.{Field, all_right, rising}
use Rattle.notice.specs.Render.{fields_bytes, render, NoticeFields}
use Rattle.notice.specs.Layout.{count_of, header_right, stands_at, check_of, fields_of}
use Rattle.notice.specs.Lookup.{field_named, lookup_of, FoundIs}
use Rattle.notice.specs.Search.{index_of, below_of, not_below, first_named}
use Rattle.notice.specs.Read.{read_number, blank, read_field}
use Rattle.notice.specs.Write.{field, insert_field, written_of, written_bytes, Writes}

-- A slice is a well-formed notice exactly if it is the bytes of some list of at most 64 right fields with rising names, at most 16,384 bytes in all.
abbrev pub WellFormedExactly : Type 0
WellFormedExactly = (s : List ℕ) → Bytes s → (check_of s ≡ Ok tt) ↔ ((fs : List Field) × NoticeFields fs × (s ≡ render fs))

-- the last of some names, the first of which comes before the fields
abbrev pub last_name : List ℕ → List Field → List ℕ
last_name name [] = name
last_name name (f ∷ fs) = last_name f.name fs

-- "for 11 the faulty field's start, the first spare byte, or 0 for the header": if the header is right, some right fields with rising names lie before the place. Either fewer than the header counts, and at the place
-- no field starts that is right and comes after them; or as many, and the place is the first byte after them.
abbrev pub FaultPlace : Type 0
FaultPlace =
    (s : List ℕ) (place : ℕ) → Bytes s → check_of s ≡ Err (Notice place) →
    ((header_right s ≡ false) × (place ≡ 0))
    ⊎ ((fs : List Field) × (header_right s ≡ true) × (all_right fs ≡ true) × (rising fs ≡ true) × (drop 8 s ≡ fields_bytes fs ++ drop place s) × (place ≡ 8 + length (fields_bytes fs))
    × (((length fs < count_of s) × (stands_at (last_name [] fs) s place ≡ false)) ⊎ ((length fs ≡ count_of s) × (place < length s))))

-- Bytes that are no notice are refused by 11, with a place, and by no other refusal.
abbrev pub OnlyFault : Type 0
OnlyFault = (s : List ℕ) (r : Refusal) → check_of s ≡ Err r → (place : ℕ) × (r ≡ Notice place)

-- The list of a well-formed notice is unique, and is the one that the walk over the bytes gives.
abbrev pub OneList : Type 0
OneList = (fs gs : List Field) → NoticeFields fs → NoticeFields gs → render fs ≡ render gs → fs ≡ gs

abbrev pub FieldsRead : Type 0
FieldsRead = (fs : List Field) → NoticeFields fs → fields_of (render fs) ≡ fs

-- "u16 field count": the header's count is the number of fields.
abbrev pub CountFields : Type 0
CountFields = (s : List ℕ) → Bytes s → check_of s ≡ Ok tt → count_of s ≡ length (fields_of s)

-- Reading gives each of these fields and is not refused.
abbrev pub ReadEach : Type 0
ReadEach =
    (s : List ℕ) (k : ℕ) → Bytes s → check_of s ≡ Ok tt → k < length (fields_of s) → (read_number s k ≡ 0) × (read_field s k ≡ slice_index_or (fields_of s) k blank)

-- Lookup finds what the list of fields has under the name: the field's kind, and its value as a part of the notice.
abbrev pub Lookup : Type 0
Lookup = (s name : List ℕ) → FoundIs s (lookup_of s name) (field_named name (fields_of s))

-- A field that is found by a name is one of the fields and has the name.
abbrev pub NamedField : Type 0
NamedField = (name : List ℕ) (fs : List Field) (f : Field) → field_named name fs ≡ some f → Memᴰ f fs × (f.name ≡ name)

-- None is found exactly if no field has the name.
abbrev pub NoneNamed : Type 0
NoneNamed = (name : List ℕ) (fs : List Field) → (field_named name fs ≡ none) ↔ ((f : Field) → Memᴰ f fs → f.name ≢ name)

-- Every field of a notice is found by its name.
abbrev pub EachFound : Type 0
EachFound = (fs : List Field) (f : Field) → rising fs ≡ true → Memᴰ f fs → field_named f.name fs ≡ some f

-- "the search for a field should stop at the first name not below the one sought; it finds what a walk over all fields finds": where names rise, the first field whose name is not below has the name, or none has.
abbrev pub StoppingFinds : Type 0
StoppingFinds = (name : List ℕ) (fs : List Field) → rising fs ≡ true → first_named name (not_below name fs) ≡ field_named name fs

-- .. and the fields passed before it are just those whose names are below: "how many names it looked at: those below the one sought, and one more if any is left".
abbrev pub StoppingLooks : Type 0
StoppingLooks = (name : List ℕ) (fs : List Field) → rising fs ≡ true → below_of name fs + length (not_below name fs) ≡ length fs

-- The index that is found is that of the field that lookup finds; where names rise, as many names are below it as it says.
abbrev pub IndexFinds : Type 0
IndexFinds =
    (name : List ℕ) (fs : List Field) (k : ℕ) → index_of name fs ≡ some k → (k < length fs) × (field_named name fs ≡ some (slice_index_or fs k blank)) × (rising fs ≡ true → k ≡ below_of name fs)

-- No index is found exactly if lookup finds none.
abbrev pub NoIndex : Type 0
NoIndex = (name : List ℕ) (fs : List Field) → (index_of name fs ≡ none) ↔ (field_named name fs ≡ none)

-- What a write that is not refused leaves is a notice. It has all the old fields and the new one, as it was given, at its name's place, and no other.
abbrev pub WriteAdds : Type 0
WriteAdds =
    (buffer : List ℕ) (len : ℕ) (f : Field) → Bytes buffer → (written_of buffer len f).number ≡ 0 →
    (check_of (take (written_of buffer len f).len (written_bytes buffer len f)) ≡ Ok tt)
    × (fields_of (take (written_of buffer len f).len (written_bytes buffer len f)) ≡ insert_field f (fields_of (take len buffer)))

-- Insertion keeps every field and adds the new one.
abbrev pub InsertAdds : Type 0
InsertAdds = (f : Field) (fs : List Field) → (pre post : List Field) × (fs ≡ pre ++ post) × (insert_field f fs ≡ pre ++ (f ∷ post))

-- All fields of a notice, written in any order from the empty notice in any buffer that has room, are not refused, leave the notice's own bytes, and the bytes after them stay.
abbrev pub WrittenAgain : Type 0
WrittenAgain =
    (s : List ℕ) → Bytes s → check_of s ≡ Ok tt → (fs : List Field) → Permᴰ fs (fields_of s) →
    (buffer : List ℕ) → take 8 buffer ≡ render [] → length s ≤ length buffer →
    Writes fs buffer 8 (s ++ drop (length s) buffer) (length s)

-- "E is `04 00 00 00 01 00 00 00`"
abbrev pub EmptyNotice : Type 0
EmptyNotice = render [] ≡ 4 ∷ 0 ∷ 0 ∷ 0 ∷ 1 ∷ 0 ∷ 0 ∷ 0 ∷ []

-- "Op42 is `0F 00 00 00 01 00 01 00 09 00 01 00 02 4F 70 2A 00 00 00`": the int32 field `Op` of value 42
abbrev pub Op42 : Type 0
Op42 =
    render (field 1 (0x4f ∷ 0x70 ∷ []) (42 ∷ 0 ∷ 0 ∷ 0 ∷ []) ∷ [])
    ≡ 0x0f ∷ 0 ∷ 0 ∷ 0 ∷ 1 ∷ 0 ∷ 1 ∷ 0 ∷ 9 ∷ 0 ∷ 1 ∷ 0 ∷ 2 ∷ 0x4f ∷ 0x70 ∷ 0x2a ∷ 0 ∷ 0 ∷ 0 ∷ []
