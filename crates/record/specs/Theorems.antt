-- What holds of records and lines. The proofs are in proofs/Theorems.antt, under the same names.
use Rattle.std.specs.Prelude.{◌≡◌, List, ◌++◌, ℕ, ◌≤◌, ◌<◌, length}
use Rattle.record.specs.declared.Record.TheVariants.{End, Whole, Cut, Wrong}
use Rattle.record.specs.Record.{record_of}

-- A whole record has a kind and at most 16,384 bytes, and lies in the bytes that it was found in.
abbrev pub WholeLies : Type 0
WholeLies = (s : List ℕ) (kind size : ℕ) → record_of s ≡ Whole kind size → (6 ≤ size) × (size ≤ 16384) × (size ≤ length s)

-- A record that is cut has fewer than 16,384 bytes there.
abbrev pub CutShort : Type 0
CutShort = (s : List ℕ) → record_of s ≡ Cut → length s < 16384

-- Nothing is left only where there is no byte.
abbrev pub EndEmpty : Type 0
EndEmpty = (s : List ℕ) → record_of s ≡ End → length s ≡ 0

-- More input after it changes neither a whole record nor a wrong length.
abbrev pub WholeGrows : Type 0
WholeGrows = (s t : List ℕ) (kind size : ℕ) → record_of s ≡ Whole kind size → record_of (s ++ t) ≡ Whole kind size

abbrev pub WrongGrows : Type 0
WrongGrows = (s t : List ℕ) → record_of s ≡ Wrong → record_of (s ++ t) ≡ Wrong
