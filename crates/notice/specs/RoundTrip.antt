-- Demand 2 of the customer's letter: "A notice that is written reads back as the same fields, and one that is read and written again has the same bytes." Said of the answers of `read` and `write`, by their promises.
-- The proofs are in proofs/RoundTrip.antt, under the same names.
use Rattle.std.specs.Prelude.{◌≡◌, ℕ, zero, suc, ◌+◌, ◌<◌, ◌≤◌, List, [], ◌∷◌, ◌++◌, length, take, drop, Ok}
use mathlib.Core.List.{Permᴰ}
use Rattle.word.specs.Word.{Bytes}
use Rattle.notice.specs.Write.{WriteAnswer}
use Rattle.notice.specs.Field.{Field}
use Rattle.notice.specs.Render.{render}
use Rattle.notice.specs.Layout.{count_of, check_of}
use Rattle.notice.specs.Read.{ReadIs}
use Rattle.notice.specs.Write.{field, WriteIs}

-- A call of `read(s, k)`: what it answers, and its promise.
pub record ReadCall (s : List ℕ) (k : ℕ) : Type 0 where
  pub number : ℕ
  pub place : ℕ
  pub kind : ℕ
  pub name : List ℕ
  pub value : List ℕ
  pub promise : ReadIs s k number place kind name value

-- A call of `write(buffer, len, name, kind, value)`: what it answers, the buffer after it, and its promise.
pub record WriteCall (buffer : List ℕ) (len : ℕ) (name : List ℕ) (kind : ℕ) (value : List ℕ) : Type 0 where
  pub answer : WriteAnswer
  pub after : List ℕ
  pub promise : WriteIs buffer len (field kind name value) answer after

-- ---- "one that is read and written again has the same bytes"

-- Calls one after the other, from a buffer and a length to a buffer and a length: for each k of a list, field k of s is read, and what `read` answered is given to `write`, on the buffer and the length that the last call left.
abbrev pub Copies : List ℕ → List ℕ → List ℕ → ℕ → List ℕ → ℕ → Type 0
Copies [] s buffer len after after_len = (buffer ≡ after) × (len ≡ after_len)
Copies (k ∷ ks) s buffer len after after_len =
    (r : ReadCall s k) × (w : WriteCall buffer len r.name r.kind r.value) × Copies ks s w.after w.answer.len after after_len

-- no call of them is refused
abbrev pub NoneRefused : (ks s buffer : List ℕ) (len : ℕ) (after : List ℕ) (after_len : ℕ) → Copies ks s buffer len after after_len → Type 0
NoneRefused [] s buffer len after after_len c = Unit {0}
NoneRefused (k ∷ ks) s buffer len after after_len c =
    (c.0.number ≡ 0) × (c.1.answer.number ≡ 0) × NoneRefused ks s c.1.after c.1.answer.len after after_len c.2

-- n numbers from k on
abbrev pub numbers_from : ℕ → ℕ → List ℕ
numbers_from zero k = []
numbers_from (suc n) k = k ∷ numbers_from n (suc k)

-- What `read` answers for every k below the count, in any order, given to `write` one by one on the empty notice E in any buffer that has room: no call is refused, the notice's own bytes are left, and its length is answered; the bytes after them stay.
abbrev pub ReadWrittenAgain : Type 0
ReadWrittenAgain =
    (s : List ℕ) → Bytes s → check_of s ≡ Ok tt → (ks : List ℕ) → Permᴰ ks (numbers_from (count_of s) 0) →
    (buffer : List ℕ) → take 8 buffer ≡ render [] → length s ≤ length buffer →
    (after : List ℕ) (after_len : ℕ) (c : Copies ks s buffer 8 after after_len) →
    NoneRefused ks s buffer 8 after after_len c × (after ≡ s ++ drop (length s) buffer) × (after_len ≡ length s)

-- ---- "A notice that is written reads back as the same fields"

-- the field that a call answers
abbrev pub answered : {s : List ℕ} {k : ℕ} → ReadCall s k → Field
answered r = field r.kind r.name r.value

-- a call that is not refused and answers a field
abbrev pub Gives : {s : List ℕ} {k : ℕ} → ReadCall s k → Field → Type 0
Gives r f = (r.number ≡ 0) × (answered r ≡ f)

-- A notice with one field more, by what `read` answers: the new field at one k, the old ones before it at their own k and the others at the next. The new notice is well-formed, so its names rise: the new field is at its name's place.
pub record ReadsBack (old new : List ℕ) (f : Field) : Type 0 where
  pub well : check_of new ≡ Ok tt
  pub one_more : count_of new ≡ count_of old + 1
  pub k : ℕ
  pub below : k < count_of new
  pub written : (r : ReadCall new k) → Gives r f
  pub before : (j : ℕ) → j < k → (o : ReadCall old j) (r : ReadCall new j) → Gives r (answered o)
  pub after : (j : ℕ) → k ≤ j → j < count_of old → (o : ReadCall old j) (r : ReadCall new (j + 1)) → Gives r (answered o)

-- A call of `write` that is not refused: on the notice that it leaves, of the length that it answers, the field that was given is read back, and so is every old one.
abbrev pub WrittenReadBack : Type 0
WrittenReadBack =
    (buffer : List ℕ) (len : ℕ) (name : List ℕ) (kind : ℕ) (value : List ℕ) → Bytes buffer → (w : WriteCall buffer len name kind value) → w.answer.number ≡ 0 →
    ReadsBack (take len buffer) (take w.answer.len w.after) (field kind name value)
