-- The code's own state: where the fields kept so far start, in the order of their names.
use Rattle.std.specs.Prelude.{ℕ, ◌+◌, ◌*◌, ◌≤◌, ◌≡◌, true, ◌<◌, cond, List, map, length, take, Result, Ok, Err}
use Rattle.common.specs.Each.{Each}
use Rattle.notice.specs.Field.{Field, rising}
use Rattle.notice.specs.Render.{render}
use Rattle.notice.specs.Layout.{name_at, field_at, right_at}
use Rattle.notice.specs.Write.{insert_field, sorted, place_among}
use Rattle.refusal.specs.declared.Refusal.{Refusal}
use Rattle.refusal.specs.declared.Refusal.TheVariants.{Room}
use Rattle.mend.specs.declared.fate.Fate.{Fate}
use Rattle.mend.specs.declared.walking.Tally.{Tally}
use Rattle.mend.specs.Fate.{FateIs}
use Rattle.mend.specs.Mend.{Entry, stays, code_at, list_of, kept_of}

-- the fields that start at the first n places
abbrev pub fields_in : List ℕ → List ℕ → ℕ → List Field
fields_in s order n = map (field_at s) (take n order)

-- room for 65 places, of which the first n are those of right fields whose names rise
pub record InOrder (s order : List ℕ) (n : ℕ) : Type 0 where
  pub long : length order ≡ 65
  pub few : n ≤ 65
  pub right : Each (λ k. right_at s k ≡ true) (take n order)
  pub rise : rising (fields_in s order n) ≡ true

-- bytes of which neither too few nor too many are there
abbrev pub Sized : List ℕ → Type 0
Sized s = (8 ≤ length s) × (length s ≤ 16384)

-- what each field is, as the first pass notes it
abbrev pub codes_of : List Entry → List ℕ
codes_of es = map (λ (e : Entry). e.code) es

-- a note for each field: one takes 2 bytes at least behind the header, but for a single byte left
abbrev pub Roomy : List ℕ → List ℕ → Type 0
Roomy s codes = length s ≤ 8 + 2 * length codes

-- what the field at `at` is, and its name's place if it stays
abbrev pub Judges : List ℕ → List ℕ → ℕ → ℕ → Fate → Type 0
Judges s order n at f = FateIs f (code_at s (fields_in s order n) at) (place_among (name_at s at) (fields_in s order n))

-- .. and the places with it
pub record Admits (s order : List ℕ) (n at : ℕ) (after : List ℕ) (code : ℕ) : Type 0 where
  pub code_is : code ≡ code_at s (fields_in s order n) at
  pub in_order : InOrder s after (n + cond (stays code) 1 0)
  pub fields_are : fields_in s after (n + cond (stays code) 1 0) ≡ cond (stays code) (insert_field (field_at s at) (fields_in s order n)) (fields_in s order n)

-- what the first pass finds: at most 64 fields kept, where they start, how many bytes the notice has, how many fields are listed and what each is
pub record Surveys (s order codes : List ℕ) (t : Tally) : Type 0 where
  pub kept_is : t.kept ≡ length (kept_of s)
  pub few : t.kept ≤ 64
  pub in_order : InOrder s order t.kept
  pub fields_are : fields_in s order t.kept ≡ sorted (kept_of s)
  pub size_is : t.size ≡ length (render (sorted (kept_of s)))
  pub size_short : t.size ≤ length s
  pub count_is : t.count ≡ length (list_of s)
  pub codes_are : take t.count codes ≡ codes_of (list_of s)

-- .. or that more would be kept
abbrev pub SurveyIs : List ℕ → List ℕ → List ℕ → Result Tally Refusal → Type 0
SurveyIs s order codes (Ok t) = Surveys s order codes t
SurveyIs s order codes (Err r) = (r ≡ Room) × (64 < length (kept_of s))
