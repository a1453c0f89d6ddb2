-- Classes of bytes. Document 01, "Tokens".
use Rattle.std.specs.Prelude.{ℕ, ◌+◌, ◌-◌, Bool, not, cond, ◌&&◌, ◌||◌, eqb, leb, ltb}
use Prim.Native.Char.{Char, code}

-- a byte that is an ASCII character, and one from the first to the last of a range
abbrev pub is : Char → ℕ → Bool
is c b = eqb b (code c)

abbrev pub within : ℕ → ℕ → ℕ → Bool
within low high b = leb low b && leb b high

abbrev pub among : Char → Char → ℕ → Bool
among c d b = within (code c) (code d) b

-- "Whitespace is space, tab, LF, CR."
abbrev pub is_space : ℕ → Bool
is_space b = is " " b || is "\t" b || is "\n" b || is "\r" b

-- what a name runs to, and what must follow a number: "whitespace, end, `(`, `)` or `,`"
abbrev pub is_delimiter : ℕ → Bool
is_delimiter b = is_space b || is "(" b || is ")" b || is "," b

-- the ASCII letters
abbrev pub is_letter : ℕ → Bool
is_letter b = among "A" "Z" b || among "a" "z" b

-- "Names start with a letter, `_` or `\`"
abbrev pub starts_name : ℕ → Bool
starts_name b = is_letter b || is "_" b || is "\\" b

-- "single or double quotes"
abbrev pub is_quote : ℕ → Bool
is_quote b = is "'" b || is "\"" b

-- "Unescaped bytes must be 33..126 and none of `[ ] ' "`."
abbrev pub is_plain : ℕ → Bool
is_plain b = within 33 126 b && not (is "[" b || is "]" b || is_quote b)

-- Inside the code: bytes that are plain, end no name and take no byte. They are not all of those.
abbrev pub is_common : ℕ → Bool
is_common b = among "-" "Z" b || among "^" "~" b

-- the value of a digit, 0..9, a..f or A..F; another byte has one that is a digit's in no base
abbrev pub digit_of : ℕ → ℕ
digit_of b =
    cond (among "0" "9" b) (b - code "0")
    (cond (among "a" "f" b) (b - code "a" + 10)
    (cond (among "A" "F" b) (b - code "A" + 10) 16))

abbrev pub is_digit_in : ℕ → ℕ → Bool
is_digit_in base b = ltb (digit_of b) base

-- "A `-` before a digit always starts a literal": a number starts with a digit, or with `-` directly before one
abbrev pub starts_number : ℕ → ℕ → Bool
starts_number a b = is_digit_in 10 a || (is "-" a && is_digit_in 10 b)
