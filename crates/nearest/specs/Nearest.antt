-- The nearest f64 of an exact integer. Document 02, request 6: "In arithmetic with a real the integer is rounded to the nearest f64, ties to even.
-- An integer result of `+ - * /` outside int64 becomes the nearest f64, ties to even, as the page's promotion has it."
use Rattle.std.specs.Prelude.{ℕ, Bool, true, false, ℤ, pos, negsuc, neg_ℤ, Float}
use Rattle.std.specs.Float.{binary64}
use Rattle.std.specs.Float.Ieee.{of_int}

-- "the nearest f64, ties to even", of an integer of any size, as lib.Ieee has it. That it is that, from first principles, is the theorem
-- `IsNearest` of specs/Theorems.antt.
abbrev pub nearest_real : ℤ → Float
nearest_real z = of_int binary64 z

-- Inside the code: a sign, a magnitude with a sign.
abbrev pub is_negative : ℤ → Bool
is_negative (pos n) = false
is_negative (negsuc n) = true

abbrev pub signed_of : Bool → ℕ → ℤ
signed_of false m = pos m
signed_of true m = neg_ℤ (pos m)
