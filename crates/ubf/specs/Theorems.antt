-- What holds of reading and writing. The proofs are in proofs/Theorems.antt, under the same names.
use Rattle.std.specs.Prelude.{◌≡◌, true, false, ◌↔◌, ℕ, ◌≤◌, length, take, drop, Ok}
use mathlib.Core.List.{List, [], ◌++◌, Permᴰ}
use Rattle.word.specs.Word.{Bytes}
use Rattle.notice.specs.Field.{Field}
use Rattle.notice.specs.Layout.{check_of, fields_of}
use Rattle.notice.specs.Write.{sorted}
use Rattle.ubf.specs.Grammar.{Items, Input, items_after}
use Rattle.ubf.specs.Fields.{says, said_by, phase_of, said, in_syntax}
use Rattle.ubf.specs.Answer.{Answer, has_real, written_text, ReadIs, WriteIs}

-- The fixed form of a notice's fields says these fields, in their order.
abbrev pub WrittenSays : Type 0
WrittenSays = (s : List ℕ) → Bytes s → check_of s ≡ Ok tt → has_real (fields_of s) ≡ false → said (written_text s) ≡ says (fields_of s)

-- What a write that is not refused leaves is in the syntax, and says the notice's fields.
abbrev pub WrittenInput : Type 0
WrittenInput =
    (s buffer : List ℕ) → Bytes s → (w : Answer) (written : List ℕ) → WriteIs s buffer w written → w.number ≡ 0 →
    ((its : Items) × Input (take w.len written) its) × (said (take w.len written) ≡ says (fields_of s))

-- "Writing and then reading gives the same notice": what a write that is not refused leaves, read into any buffer that has room, is not refused, gives the notice's bytes, and the bytes after them stay.
abbrev pub WriteRead : Type 0
WriteRead =
    (s buffer other : List ℕ) → Bytes s → (w : Answer) (written : List ℕ) → WriteIs s buffer w written → w.number ≡ 0 → length s ≤ length other →
    (r : Answer) (after : List ℕ) → ReadIs (take w.len written) other r after → (r ≡ record { number = 0; place = 0; len = length s }) × (after ≡ s ++ drop (length s) other)

-- A write of a well-formed notice without a real64 field is refused for room alone.
abbrev pub WriteAccepts : Type 0
WriteAccepts =
    (s buffer : List ℕ) (w : Answer) (written : List ℕ) → WriteIs s buffer w written → check_of s ≡ Ok tt → has_real (fields_of s) ≡ false →
    length (written_text s) ≤ length buffer → w.number ≡ 0

-- What a read that is not refused leaves is a well-formed notice, which has the fields that the text says, in name order.
abbrev pub ReadHolds : Type 0
ReadHolds =
    (text buffer : List ℕ) (r : Answer) (after : List ℕ) → ReadIs text buffer r after → r.number ≡ 0 →
    (fs : List Field) × (said text ≡ says fs) × (check_of (take r.len after) ≡ Ok tt) × (fields_of (take r.len after) ≡ sorted fs)

-- Name order leaves every field, and adds none.
abbrev pub SortedSame : Type 0
SortedSame = (fs : List Field) → Permᴰ (sorted fs) fs

-- A text is in the syntax exactly if the grammar spells it.
abbrev pub SyntaxExactly : Type 0
SyntaxExactly = (text : List ℕ) → (in_syntax (said text) ≡ true) ↔ ((its : Items) × Input text its)

-- .. and what it says is what the grammar's items say.
abbrev pub SaysItems : Type 0
SaysItems = (text : List ℕ) (its : Items) → Input text its → said text ≡ said_by (phase_of (items_after its []))

-- "22 for text outside the syntax": reading answers 22 exactly if the grammar does not spell the text.
abbrev pub OutsideSyntax : Type 0
OutsideSyntax = (text buffer : List ℕ) (r : Answer) (after : List ℕ) → ReadIs text buffer r after → (r.number ≡ 22) ↔ (((its : Items) × Input text its) → ⊥)
