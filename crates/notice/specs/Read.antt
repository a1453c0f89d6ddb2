-- Reading: "Reading field k gives its kind and its name and value as parts of the lent notice."
use Rattle.std.specs.Prelude.{◌≡◌, ℕ, ◌+◌, ◌&&◌, List, [], length, ◌==◌, nat_le, nat_lt, slice_index, slice_index_or, slice_range, Result, Ok, Err}
use Rattle.common.specs.Choice.{pick}
use Rattle.notice.specs.Field.{Field}
use Rattle.notice.specs.Layout.{unless, kind_at, value_start, next_at, count_of, check_of, number_of, place_of, starts_of, fields_of}
use Rattle.notice.specs.Layout.{Layout}
use Rattle.notice.specs.declared.Place.{Place}
use Rattle.refusal.specs.declared.Refusal.{Refusal}
use Rattle.refusal.specs.Refusal.{number_of as refusal_number, place_of as refusal_place}

-- the bytes from a to e, or none where they do not lie within the slice
abbrev pub part_of : List ℕ → ℕ → ℕ → List ℕ
part_of s a e = pick (nat_le a e && nat_le e (length s)) (λ _. slice_range s a e) (λ _. [])

-- "Reading: 11, 17"; "17: field k not below the count"; 0 for none
abbrev pub read_by : Layout → ℕ → ℕ → ℕ
read_by (Err r) count k = number_of (Err r)
read_by (Ok u) count k = unless (nat_lt k count) 17 0

abbrev pub read_number : List ℕ → ℕ → ℕ
read_number s k = read_by (check_of s) (count_of s) k

abbrev pub read_place : List ℕ → ℕ
read_place s = place_of (check_of s)

-- "Reading, when refused, returns kind 0 and empty parts"
abbrev pub blank : Field
blank = record { kind = 0; name = []; value = [] }

abbrev pub read_field : List ℕ → ℕ → Field
read_field s k = pick (read_number s k == 0) (λ _. slice_index_or (fields_of s) k blank) (λ _. blank)

-- the number and the place of a refusal, 0 for none; the field's kind, its name, its value after it, and its end
pub record PlaceAnswer : Type 0 where
  pub number : ℕ
  pub place : ℕ
  pub kind : ℕ
  pub name : ℕ
  pub value : ℕ
  pub end : ℕ

-- where that field lies; nowhere if refused
abbrev pub locate_at : List ℕ → ℕ → PlaceAnswer
locate_at s at = record { number = 0; place = 0; kind = kind_at s at; name = at + 5; value = value_start s at; end = next_at s at }

abbrev pub nowhere : ℕ → ℕ → PlaceAnswer
nowhere number place = record { number = number; place = place; kind = 0; name = 0; value = 0; end = 0 }

abbrev pub locate_of : List ℕ → ℕ → PlaceAnswer
locate_of s k = pick (read_number s k == 0) (λ _. locate_at s (slice_index (starts_of s) k)) (λ _. nowhere (read_number s k) (read_place s))

abbrev pub place_answer : Result Place Refusal → PlaceAnswer
place_answer (Ok p) = record { number = 0; place = 0; kind = p.kind; name = p.name; value = p.value; end = p.end }
place_answer (Err r) = nowhere (refusal_number r) (refusal_place r)

-- where field k lies, and that its parts are there
pub record Located (s : List ℕ) (k : ℕ) (p : PlaceAnswer) : Type 0 where
  pub is : p ≡ locate_of s k
  pub number_is : p.number ≡ read_number s k
  pub place_is : p.place ≡ read_place s
  pub kind_is : p.kind ≡ (read_field s k).kind
  pub name_is : part_of s p.name p.value ≡ (read_field s k).name
  pub value_is : part_of s p.value p.end ≡ (read_field s k).value

-- what reading field k answers
pub record ReadIs (s : List ℕ) (k number place kind : ℕ) (name value : List ℕ) : Type 0 where
  pub number_is : number ≡ read_number s k
  pub place_is : place ≡ read_place s
  pub kind_is : kind ≡ (read_field s k).kind
  pub name_is : name ≡ (read_field s k).name
  pub value_is : value ≡ (read_field s k).value
