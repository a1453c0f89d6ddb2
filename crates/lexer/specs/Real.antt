-- Reals: the form of a run, its limits and its value. Document 01, "Tokens": "Reals".
use Rattle.std.specs.Prelude.{ℕ, ◌+◌, Bool, not, cond, ◌&&◌, ◌||◌, List, [], ◌∷◌, ◌++◌, eqb, leb, length, get_or, drop, ℤ, pos, nat_abs, ◌-ℤ◌, Float}
use Rattle.number.specs.Integer.{is_negative, signed_of}
use Rattle.number.specs.Real.{decimal_of}
use Rattle.lexer.specs.Byte.{is}
use Rattle.lexer.specs.Run.{is_empty}
use Rattle.lexer.specs.Digits.{is_minus, sign_length, digits_of, whole_of}

-- "optional `-`, digits, `.`, digits, optional `e` or `E` with optional sign and digits": the digits before the point, and what stands from it on
abbrev pub whole_digits : List ℕ → List ℕ
whole_digits run = digits_of 10 (drop (sign_length run) run)

abbrev pub from_point : List ℕ → List ℕ
from_point run = drop (length (whole_digits run)) (drop (sign_length run) run)

-- the digits after the point, and what stands after them
abbrev pub fraction_digits : List ℕ → List ℕ
fraction_digits run = digits_of 10 (drop 1 (from_point run))

abbrev pub exponent_part : List ℕ → List ℕ
exponent_part run = drop (length (fraction_digits run)) (drop 1 (from_point run))

-- their places in the run: where the point stands, and where what stands after the fraction begins
abbrev pub point_at : List ℕ → ℕ
point_at run = sign_length run + length (whole_digits run)

abbrev pub exponent_at : List ℕ → ℕ
exponent_at run = point_at run + 1 + length (fraction_digits run)

-- of that part: whether its sign is `-`, where `e` and sign end, what stands after them, and the digits there
abbrev pub is_down : List ℕ → Bool
is_down part = is "-" (get_or part 1 0)

abbrev pub sign_end : List ℕ → ℕ
sign_end part = cond (is "+" (get_or part 1 0) || is_down part) 2 1

abbrev pub after_sign : List ℕ → List ℕ
after_sign part = drop (sign_end part) part

abbrev pub exponent_digits : List ℕ → List ℕ
exponent_digits part = digits_of 10 (after_sign part)

abbrev pub is_exponent : List ℕ → Bool
is_exponent part =
    (is "e" (get_or part 0 0) || is "E" (get_or part 0 0))
    && not (is_empty (exponent_digits part))
    && is_empty (drop (length (exponent_digits part)) (after_sign part))

abbrev pub is_real : List ℕ → Bool
is_real run =
    not (is_empty (whole_digits run))
    && is "." (get_or (from_point run) 0 0)
    && not (is_empty (fraction_digits run))
    && (is_empty (exponent_part run) || is_exponent (exponent_part run))

-- "Without leading zeros the digits, point dropped, number at most 15 and form a whole number D."
abbrev pub real_digits : List ℕ → List ℕ
real_digits run = whole_digits run ++ fraction_digits run

abbrev pub no_zeros : List ℕ → List ℕ
no_zeros [] = []
no_zeros (b ∷ s) = cond (eqb b 48) (no_zeros s) (b ∷ s)

-- "E, the exponent less the count of fraction digits"
abbrev pub exponent_of : List ℕ → ℤ
exponent_of part = signed_of (is_down part) (whole_of 10 (exponent_digits part))

abbrev pub scale_of : List ℕ → ℤ
scale_of run = exponent_of (exponent_part run) -ℤ pos (length (fraction_digits run))

-- "number at most 15", "must be -22..22; an exponent has at most three digits"
abbrev pub real_fits : List ℕ → Bool
real_fits run =
    leb (length (exponent_digits (exponent_part run))) 3
    && leb (nat_abs (scale_of run)) 22
    && leb (length (no_zeros (real_digits run))) 15

-- "The value is D times 10^E or D divided by 10^-E in f64, both operands exact, rounded once, then negated if signed."
abbrev pub real_of : List ℕ → Float
real_of run = decimal_of (whole_of 10 (real_digits run)) (nat_abs (scale_of run)) (is_negative (scale_of run)) (is_minus run)
