-- Lookup by name, over the fields of a notice. Document 01, "Table": ops 1..4 push their value, "5 the field's or bottom".
use Rattle.std.specs.Prelude.{◌≡◌, ℕ, ◌+◌, ◌≤◌, List, [], ◌∷◌, length, take, drop, Option as Optional, Some, None}
use Rattle.std.proofs.Math.Option.{Option, some, none}
use Rattle.common.specs.Choice.{pick}
use Rattle.octets.specs.Octets.{same_of}
use Rattle.notice.specs.Field.{Field}
use Rattle.notice.specs.Layout.{kind_at, value_start, value_size_at, name_at, starts_of}
use Rattle.notice.specs.declared.FoundField.{FoundField}

-- the field of a name
abbrev pub field_named : List ℕ → List Field → Option Field
field_named name [] = none
field_named name (f ∷ fs) = pick (same_of f.name name) (λ _. some f) (λ _. field_named name fs)

-- the kind of the field that starts at `at`, and where its value lies
abbrev pub found_at : List ℕ → ℕ → FoundField
found_at s at = record { kind = kind_at s at; start = value_start s at; len = value_size_at s at }

-- the same in the bytes: of the fields that start at these places, the first that has the name
abbrev pub lookup_in : List ℕ → List ℕ → List ℕ → Optional FoundField
lookup_in s name [] = None
lookup_in s name (at ∷ ats) = pick (same_of (name_at s at) name) (λ _. Some (found_at s at)) (λ _. lookup_in s name ats)

abbrev pub lookup_of : List ℕ → List ℕ → Optional FoundField
lookup_of s name = lookup_in s name (starts_of s)

-- the kind and the bytes that were found are those of the field, and lie within the notice
abbrev pub FoundIs : List ℕ → Optional FoundField → Option Field → Type 0
FoundIs s None none = Unit {0}
FoundIs s None (some f) = ⊥
FoundIs s (Some r) none = ⊥
FoundIs s (Some r) (some f) = (r.kind ≡ f.kind) × (r.start + r.len ≤ length s) × (take r.len (drop r.start s) ≡ f.value)
