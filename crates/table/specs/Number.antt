-- The kinds of a stack as one number, which the code keeps: 1 for the empty stack, then a bit for each slot, the topmost lowest; 0 where there are no such kinds.
use Rattle.std.specs.Prelude.{ℕ, ◌+◌, ◌*◌, ◌≡◌, Bool, true, cond, not, ◌&&◌, ◌||◌, List, [], ◌∷◌, eqb, leb, get_or, set}
use Rattle.std.proofs.Math.Option.{Option, none, some}
use Rattle.opcode.specs.Opcode.{Kind, logic, value}

abbrev pub bit_of : Kind → ℕ
bit_of logic = 0
bit_of value = 1

abbrev pub kinds_number : List Kind → ℕ
kinds_number [] = 1
kinds_number (k ∷ ks) = 2 * kinds_number ks + bit_of k

abbrev pub number_of : Option (List Kind) → ℕ
number_of none = 0
number_of (some ks) = kinds_number ks

-- ---- what a landing must find: such a number, 0 where no skip has landed

-- whether kinds of the number c meet what is wanted
abbrev pub met_by : ℕ → ℕ → Bool
met_by w c = eqb w 0 || eqb w c

-- what the pass answers of an entry over the kinds of the number c, among n, and what is wanted after it: of a skip, which lands at `to`, that the landing finds its kinds
pub record Landed (skip : Bool) (n to c : ℕ) (before after : List ℕ) (r : Bool) : Type 0 where
  pub answer : r ≡ (not skip || (leb to n && met_by (get_or before to 0) c))
  pub wants : r ≡ true → after ≡ cond skip (set before to c) before
