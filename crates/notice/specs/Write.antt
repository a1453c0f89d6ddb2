-- Writing: "Writing adds one field, at its name's place, to a notice at the start of a lent buffer whose length the caller names; the bytes after the new notice stay."
use Rattle.std.specs.Prelude.{◌≡◌, ℕ, suc, ◌+◌, ◌≤◌, Bool, false, cond, not, ◌&&◌, ◌||◌, List, [], ◌∷◌, ◌++◌, length, take, drop, ◌==◌, nat_le, nat_lt, Result, Ok, Err}
use Rattle.common.specs.Choice.{pick}
use Rattle.octets.specs.Octets.{same_of, before_of}
use Rattle.refusal.specs.declared.Refusal.TheVariants.{Notice}
use Rattle.notice.specs.Field.{Field, name_right, size_right}
use Rattle.notice.specs.Render.{render}
use Rattle.notice.specs.Layout.{unless, name_at, count_of, check_of, number_of, place_of, starts_of, fields_of}
use Rattle.notice.specs.Layout.{Layout}
use Rattle.refusal.specs.declared.Refusal.{Refusal}
use Rattle.refusal.specs.Refusal.{number_of as refusal_number, place_of as refusal_place}

abbrev pub field : ℕ → List ℕ → List ℕ → Field
field kind name value = record { kind = kind; name = name; value = value }

-- the bytes that a field takes
abbrev pub field_size : Field → ℕ
field_size f = 5 + length f.name + length f.value

-- "14: name already present"
abbrev pub has_name : List ℕ → List Field → Bool
has_name name [] = false
has_name name (f ∷ fs) = same_of f.name name || has_name name fs

-- "at its name's place"
abbrev pub insert_field : Field → List Field → List Field
insert_field f [] = f ∷ []
insert_field f (g ∷ gs) = cond (before_of f.name g.name) (f ∷ (g ∷ gs)) (g ∷ insert_field f gs)

-- document 02, request 5: "with fields put in name order"
unfoldable pub sorted : List Field → List Field
sorted [] = []
sorted (f ∷ fs) = insert_field f (sorted fs)

-- the place of a name among fields in name order: that of the first which it is before
unfoldable pub place_among : List ℕ → List Field → ℕ
place_among name [] = 0
place_among name (g ∷ gs) = cond (before_of name g.name) 0 (suc (place_among name gs))

-- the same in the bytes: of the fields that start at these places, the start of the first that the name is before, or the notice's end
abbrev pub place_in : List ℕ → List ℕ → List ℕ → ℕ
place_in s name [] = length s
place_in s name (at ∷ ats) = cond (before_of name (name_at s at)) at (place_in s name ats)

abbrev pub place_for : List ℕ → List ℕ → ℕ
place_for s name = place_in s name (starts_of s)

-- "11 (also if the named length passes the buffer, place 0)"
abbrev pub layout_in : List ℕ → ℕ → Layout
layout_in buffer len = pick (nat_le len (length buffer)) (λ _. check_of (take len buffer)) (λ _. Err (Notice 0))

-- "15: 65th field, over 16,384 bytes, or buffer too short"
abbrev pub has_room : ℕ → ℕ → ℕ → Bool
has_room count size room = nat_lt count 64 && (nat_le size 16384 && nat_le size room)

-- the refusals of a field for a notice s in `room` bytes, in their order: "13, 16, 14, 15"; 0 for none
abbrev pub refusal_in : List ℕ → ℕ → Field → ℕ
refusal_in s room f =
    unless (name_right f.name) 13
    (unless (size_right f.kind (length f.value)) 16
    (unless (not (has_name f.name (fields_of s))) 14
    (unless (has_room (count_of s) (length s + field_size f) room) 15
    0)))

-- "Writing: 11, 13, 16, 14, 15"
abbrev pub refusal_by : Layout → List ℕ → ℕ → Field → ℕ
refusal_by (Err r) buffer len f = number_of (Err r)
refusal_by (Ok u) buffer len f = refusal_in (take len buffer) (length buffer) f

abbrev pub refusal_of : List ℕ → ℕ → Field → ℕ
refusal_of buffer len f = refusal_by (layout_in buffer len) buffer len f

-- a field that no refusal meets
pub record Insertable (buffer : List ℕ) (len : ℕ) (f : Field) : Type 0 where
  pub within : len ≤ length buffer
  pub well : check_of (take len buffer) ≡ Ok tt
  pub accepted : refusal_in (take len buffer) (length buffer) f ≡ 0

-- the new notice, and "the bytes after the new notice stay"
abbrev pub inserted_bytes : List ℕ → ℕ → Field → List ℕ
inserted_bytes buffer len f = render (insert_field f (fields_of (take len buffer))) ++ drop (len + field_size f) buffer

-- "writing answers number, place and the new length, or the old one if refused"
pub record WriteAnswer : Type 0 where
  pub number : ℕ
  pub place : ℕ
  pub len : ℕ

abbrev pub write_answer : ℕ → Result ℕ Refusal → WriteAnswer
write_answer len (Ok n) = record { number = 0; place = 0; len = n }
write_answer len (Err r) = record { number = refusal_number r; place = refusal_place r; len = len }

abbrev pub written_of : List ℕ → ℕ → Field → WriteAnswer
written_of buffer len f = record {
  number = refusal_of buffer len f;
  place = place_of (layout_in buffer len);
  len = cond (refusal_of buffer len f == 0) (len + field_size f) len;
}

-- a refusal changes nothing
abbrev pub written_bytes : List ℕ → ℕ → Field → List ℕ
written_bytes buffer len f = pick (refusal_of buffer len f == 0) (λ _. inserted_bytes buffer len f) (λ _. buffer)

-- what writing a field answers, and the bytes of the buffer with it
abbrev pub WriteIs : List ℕ → ℕ → Field → WriteAnswer → List ℕ → Type 0
WriteIs buffer len f answer after = (answer ≡ written_of buffer len f) × (after ≡ written_bytes buffer len f)

-- fields written one after the other, none refused, from a buffer and a length to a buffer and a length
unfoldable pub Writes : List Field → List ℕ → ℕ → List ℕ → ℕ → Type 0
Writes [] buffer len after after_len = (buffer ≡ after) × (len ≡ after_len)
Writes (f ∷ fs) buffer len after after_len =
    ((written_of buffer len f).number ≡ 0) × Writes fs (written_bytes buffer len f) (written_of buffer len f).len after after_len
