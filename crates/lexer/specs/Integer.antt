-- Integers: the form of a run, its limits and its value. Document 01, "Tokens": "Integers".
use Rattle.std.specs.Prelude.{ℕ, ◌+◌, Bool, not, cond, ◌&&◌, ◌||◌, List, eqb, length, get_or, drop, ℤ, pos}
use Rattle.std.specs.Int.{Width, w32, w64}
use Rattle.number.specs.Integer.{fits_in, signed_of}
use Rattle.lexer.specs.Byte.{is}
use Rattle.lexer.specs.Run.{is_empty}
use Rattle.lexer.specs.Digits.{is_minus, sign_length, digits_of, whole_of}

-- "decimal (`0` or no leading zero), octal (`0` and digits 0..7) or `0x` and hex digits": what starts with `0` and not with `0x` is octal,
-- since `0` alone has the same value in both
abbrev pub is_hex : List ℕ → Bool
is_hex run = is "0" (get_or run (sign_length run) 0) && is "x" (get_or run (sign_length run + 1) 0)

abbrev pub base_of : List ℕ → ℕ
base_of run = cond (is_hex run) 16 (cond (is "0" (get_or run (sign_length run) 0)) 8 10)

abbrev pub prefix_length : List ℕ → ℕ
prefix_length run = sign_length run + cond (is_hex run) 2 0

abbrev pub integer_digits : List ℕ → List ℕ
integer_digits run = digits_of (base_of run) (drop (prefix_length run) run)

-- "then optional `l` or `L` for int64"
abbrev pub suffix_at : List ℕ → ℕ
suffix_at run = prefix_length run + length (integer_digits run)

abbrev pub is_long : List ℕ → Bool
is_long run = is "l" (get_or run (suffix_at run) 0) || is "L" (get_or run (suffix_at run) 0)

-- digits, and nothing after them but the suffix
abbrev pub is_integer : List ℕ → Bool
is_integer run = not (is_empty (integer_digits run)) && eqb (length (drop (suffix_at run) run)) (cond (is_long run) 1 0)

abbrev pub integer_of : List ℕ → ℤ
integer_of run = signed_of (is_minus run) (whole_of (base_of run) (integer_digits run))

-- "The signed value must fit its type."
abbrev pub width_of : List ℕ → Width
width_of run = cond (is_long run) w64 w32

abbrev pub integer_fits : List ℕ → Bool
integer_fits run = fits_in (width_of run) (integer_of run)

-- an integer where 64 bits hold it, else 0
abbrev pub held : ℤ → ℤ
held z = cond (fits_in w64 z) z (pos 0)
