-- The logic as an order, false < bottom < true. Document 02, request 4: "`&&` as the lesser and `||` as the greater in the order false, bottom, true, and `!` as that order turned round".
-- The operators are those of the printed table (Truth); the theorems say that they are the order's. The proofs are in proofs/Order.antt, under the same names.
use Rattle.std.specs.Prelude.{◌≡◌, cond, ◌↔◌, ◌⊎◌, ℕ, zero, suc, ◌-◌, ◌≤◌, leb}
use Rattle.truth.specs.declared.Truth.{Truth}
use Rattle.truth.specs.declared.Truth.TheVariants.{False, Bottom, True}
use Rattle.truth.specs.Truth.{not_of, and_of, or_of, rank}

-- the truth value at a place of the order; past the last place, the last one
abbrev pub at_rank : ℕ → Truth
at_rank zero = False
at_rank (suc zero) = Bottom
at_rank (suc (suc r)) = True

-- the lesser and the greater of two
abbrev pub lesser_of : Truth → Truth → Truth
lesser_of x y = cond (leb (rank x) (rank y)) x y

abbrev pub greater_of : Truth → Truth → Truth
greater_of x y = cond (leb (rank y) (rank x)) x y

-- the truth value at the same place of the order turned round
abbrev pub turned_of : Truth → Truth
turned_of t = at_rank (2 - rank t)

-- `&&` is the lesser of its sides.
abbrev pub AndLesser : Type 0
AndLesser = (x y : Truth) → and_of x y ≡ lesser_of x y

-- `||` is the greater of its sides.
abbrev pub OrGreater : Type 0
OrGreater = (x y : Truth) → or_of x y ≡ greater_of x y

-- `!` takes each place to the same place counted from the other end.
abbrev pub NotTurned : Type 0
NotTurned = (t : Truth) → not_of t ≡ turned_of t

-- `!` turns the order round: x is at most y exactly if `!y` is at most `!x`.
abbrev pub NotTurnsRound : Type 0
NotTurnsRound = (x y : Truth) → (rank x ≤ rank y) ↔ (rank (not_of y) ≤ rank (not_of x))

-- A truth value is the one at its own place, so that no two share a place.
abbrev pub PlaceTells : Type 0
PlaceTells = (t : Truth) → at_rank (rank t) ≡ t

-- The lesser is one of the two, and at most either.
abbrev pub LesserBelow : Type 0
LesserBelow = (x y : Truth) → ((lesser_of x y ≡ x) ⊎ (lesser_of x y ≡ y)) × (rank (lesser_of x y) ≤ rank x) × (rank (lesser_of x y) ≤ rank y)

-- The greater is one of the two, and at least either.
abbrev pub GreaterAbove : Type 0
GreaterAbove = (x y : Truth) → ((greater_of x y ≡ x) ⊎ (greater_of x y ≡ y)) × (rank x ≤ rank (greater_of x y)) × (rank y ≤ rank (greater_of x y))
