-- What reading and writing answer, and what they leave in the lent buffer. Document 02, request 5.
use Rattle.std.specs.Prelude.{ℕ, ◌+◌, ◌≡◌, Bool, true, false, cond, not, ◌&&◌, ◌||◌, List, [], ◌∷◌, ◌++◌, eqb, leb, length, drop, Result, Ok, Err}
use Rattle.notice.specs.Layout.{Layout}
use Rattle.notice.specs.Field.{Field, name_right, size_right}
use Rattle.notice.specs.Render.{fields_bytes, render}
use Rattle.common.specs.Choice.{pick}
use Rattle.refusal.specs.declared.Refusal.{Refusal}
use Rattle.refusal.specs.Refusal.{number_of as refusal_number, place_of as refusal_place}
use Rattle.notice.specs.Layout.{unless, check_of, number_of, place_of, fields_of}
use Rattle.notice.specs.Write.{has_name, sorted}
use Rattle.ubf.specs.Fields.{Said, no_text, no_tuple, says, said}
use Rattle.ubf.specs.Text.{text_of}

abbrev pub names_right : List Field → Bool
names_right [] = true
names_right (f ∷ fs) = name_right f.name && names_right fs

abbrev pub sizes_right : List Field → Bool
sizes_right [] = true
sizes_right (f ∷ fs) = size_right f.kind (length f.value) && sizes_right fs

abbrev pub repeated : List Field → Bool
repeated [] = false
repeated (f ∷ fs) = has_name f.name fs || repeated fs

-- the notice's bytes, "15: 65th field, over 16,384 bytes, or buffer too short"
abbrev pub notice_size : List Field → ℕ
notice_size fs = 8 + length (fields_bytes fs)

abbrev pub fits_in : List Field → ℕ → Bool
fits_in fs room = leb (length fs) 64 && (leb (notice_size fs) 16384 && leb (notice_size fs) room)

-- "22 for text outside the syntax .., then 23 .., then over all fields 13, 16, 14, 15 in that order"
abbrev pub read_by : Said → ℕ → ℕ
read_by no_text room = 22
read_by no_tuple room = 23
read_by (says fs) room = unless (names_right fs) 13 (unless (sizes_right fs) 16 (unless (not (repeated fs)) 14 (unless (fits_in fs room) 15 0)))

abbrev pub read_number : List ℕ → ℕ → ℕ
read_number text room = read_by (said text) room

abbrev pub said_fields : Said → List Field
said_fields no_text = []
said_fields no_tuple = []
said_fields (says fs) = fs

-- "reading into our notice, with fields put in name order"
abbrev pub read_notice : List ℕ → List ℕ
read_notice text = render (sorted (said_fields (said text)))

-- the number of the refusal, 0 for none, its place, and the length of the result
pub record Answer : Type 0 where
  pub number : ℕ
  pub place : ℕ
  pub len : ℕ

abbrev pub answer_of : Result ℕ Refusal → Answer
answer_of (Ok len) = record { number = 0; place = 0; len = len }
answer_of (Err r) = record { number = refusal_number r; place = refusal_place r; len = 0 }

-- the number and the place of a refusal; 0 for none
abbrev pub ended : Result (Unit {0}) Refusal → ℕ
ended (Ok done) = 0
ended (Err r) = refusal_number r

abbrev pub placed : Result (Unit {0}) Refusal → ℕ
placed (Ok done) = 0
placed (Err r) = refusal_place r

-- "both answer number, place and the result's length, 0 if refused"; "Bytes past either result stay"; a refusal changes nothing
abbrev pub answered : ℕ → ℕ → List ℕ → Answer
answered number place result = record { number = number; place = place; len = cond (eqb number 0) (length result) 0 }

abbrev pub leaves : ℕ → List ℕ → List ℕ → List ℕ
leaves number result buffer = pick (eqb number 0) (λ _. result ++ drop (length result) buffer) (λ _. buffer)

abbrev pub read_answer : List ℕ → List ℕ → Answer
read_answer text buffer = answered (read_number text (length buffer)) 0 (read_notice text)

abbrev pub read_bytes : List ℕ → List ℕ → List ℕ
read_bytes text buffer = leaves (read_number text (length buffer)) (read_notice text) buffer

-- what reading answers, and the bytes of the lent buffer with it
abbrev pub ReadIs : List ℕ → List ℕ → Answer → List ℕ → Type 0
ReadIs text buffer answer after = (answer ≡ read_answer text buffer) × (after ≡ read_bytes text buffer)

-- "when writing: 11, then 23 for a real64 field, then 15 for room"
unfoldable pub has_real : List Field → Bool
has_real [] = false
has_real (f ∷ fs) = eqb f.kind 3 || has_real fs

abbrev pub write_by : Layout → List Field → ℕ → ℕ
write_by (Err r) fs room = number_of (Err r)
write_by (Ok u) fs room = unless (not (has_real fs)) 23 (unless (leb (length (text_of fs)) room) 15 0)

abbrev pub write_number : List ℕ → ℕ → ℕ
write_number s room = write_by (check_of s) (fields_of s) room

abbrev pub written_text : List ℕ → List ℕ
written_text s = text_of (fields_of s)

abbrev pub write_answer : List ℕ → List ℕ → Answer
write_answer s buffer = answered (write_number s (length buffer)) (place_of (check_of s)) (written_text s)

abbrev pub write_bytes : List ℕ → List ℕ → List ℕ
write_bytes s buffer = leaves (write_number s (length buffer)) (written_text s) buffer

-- what writing answers, and the bytes of the lent buffer with it
abbrev pub WriteIs : List ℕ → List ℕ → Answer → List ℕ → Type 0
WriteIs s buffer answer after = (answer ≡ write_answer s buffer) × (after ≡ write_bytes s buffer)
