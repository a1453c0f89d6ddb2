-- Digits, and the sign before them. Document 01, "Tokens", "Integers" and "Reals".
-- A run is what stands up to whitespace, end, `(`, `)` or `,`. It is read as a whole: so "A number must be followed by" one of them is part of the form.
use Rattle.std.specs.Prelude.{ℕ, ◌+◌, ◌*◌, min, Bool, cond, List, [], ◌∷◌, get_or}
use Rattle.lexer.specs.Byte.{is, is_digit_in, digit_of}

-- "optional `-`"
abbrev pub is_minus : List ℕ → Bool
is_minus run = is "-" (get_or run 0 0)

abbrev pub sign_length : List ℕ → ℕ
sign_length run = cond (is_minus run) 1 0

-- the digits that stand first
abbrev pub digits_of : ℕ → List ℕ → List ℕ
digits_of base [] = []
digits_of base (b ∷ s) = cond (is_digit_in base b) (b ∷ digits_of base s) []

-- the whole number that digits form, after the value v of those before them
abbrev pub whole_from : ℕ → ℕ → List ℕ → ℕ
whole_from base v [] = v
whole_from base v (b ∷ s) = whole_from base (v * base + digit_of b) s

abbrev pub whole_of : ℕ → List ℕ → ℕ
whole_of base digits = whole_from base 0 digits

-- Inside the code: a whole number past 2 ^ 63, which no literal has, counts as 2 ^ 63 + 1.
abbrev pub capped : ℕ → ℕ
capped v = min v 9223372036854775809
