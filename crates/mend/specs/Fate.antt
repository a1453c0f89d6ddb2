-- What becomes of a field, as the code has it: its number in the list, and its name's place if it stays.
use Rattle.std.specs.Prelude.{◌≡◌, ℕ, Option, Some, None}
use Rattle.mend.specs.declared.fate.Fate.{Fate}
use Rattle.mend.specs.declared.fate.Fate.TheVariants.{Kept, Moved, Repeated, Bad, Cut}

-- "0..4 in the order above": kept, moved, repeated, bad, cut
abbrev pub code_of : Fate → ℕ
code_of (Kept place) = 0
code_of (Moved place) = 1
code_of Repeated = 2
code_of Bad = 3
code_of Cut = 4

abbrev pub place_of : Fate → Option ℕ
place_of (Kept place) = Some place
place_of (Moved place) = Some place
place_of Repeated = None
place_of Bad = None
place_of Cut = None

-- a fate of this number, with this place if it stays
pub record FateIs (f : Fate) (code place : ℕ) : Type 0 where
  pub code_is : code_of f ≡ code
  pub place_is : (k : ℕ) → place_of f ≡ Some k → k ≡ place
