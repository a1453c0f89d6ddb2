-- Document 02, request 10: "two well-formed notices, where the second holds every field of the first with the same kind and bytes and perhaps others". The proofs are in proofs/More.antt, under the same names.
use Rattle.std.specs.Prelude.{◌≡◌, ℕ, true, List, take, Ok}
use mathlib.Core.List.{Memᴰ}
use Rattle.std.proofs.Math.Option.{some}
use Rattle.word.specs.Word.{Bytes}
use Rattle.notice.specs.Field.{Field, rising}
use Rattle.notice.specs.Layout.{check_of, fields_of}
use Rattle.notice.specs.Lookup.{field_named}
use Rattle.notice.specs.RoundTrip.{WriteCall}

-- "the second holds every field of the first with the same kind and bytes and perhaps others": a field is its kind, its name and its value's bytes
abbrev pub Holds : List ℕ → List ℕ → Type 0
Holds first second = (f : Field) → Memᴰ f (fields_of first) → Memᴰ f (fields_of second)

-- "two well-formed notices, where the second holds .."
pub record More (first second : List ℕ) : Type 0 where
  pub first_right : check_of first ≡ Ok tt
  pub second_right : check_of second ≡ Ok tt
  pub holds : Holds first second

-- The names of a well-formed notice rise.
abbrev pub NamesRise : Type 0
NamesRise = (s : List ℕ) → check_of s ≡ Ok tt → rising (fields_of s) ≡ true

-- A field that the first has under a name is the one that the second has under it.
abbrev pub FoundStill : Type 0
FoundStill =
    (first second : List ℕ) → More first second → (name : List ℕ) (f : Field) → field_named name (fields_of first) ≡ some f → field_named name (fields_of second) ≡ some f

-- A call of `write` that is not refused makes such a second notice of the one that it found.
abbrev pub WriteMore : Type 0
WriteMore =
    (buffer : List ℕ) (len : ℕ) (name : List ℕ) (kind : ℕ) (value : List ℕ) → Bytes buffer → (w : WriteCall buffer len name kind value) → w.answer.number ≡ 0
    → More (take len buffer) (take w.answer.len w.after)
