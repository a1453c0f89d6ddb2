-- What holds of the tokens of a text. The proofs are in proofs/Theorems.antt, under the same names.
use Rattle.std.specs.Prelude.{◌≡◌, ◌↔◌, ◌⊎◌, true, false, ℕ, ◌+◌, ◌≤◌, ◌<◌, length, get_or, take, nat_abs}
use mathlib.Core.List.{List, [], ◌∷◌, ◌++◌, IsPrefix}
use Rattle.std.proofs.lemmas.List.Edits.{sets}
use Rattle.common.specs.Each.{Each}
use Rattle.number.specs.Real.{in_limits}
use Rattle.lexer.specs.Byte.{is_space, is_quote, starts_name, starts_number}
use Rattle.lexer.specs.Digits.{whole_of}
use Rattle.lexer.specs.Real.{real_digits, scale_of, real_fits}
use Rattle.lexer.specs.Token.{Token, name, int32, int64, real, text, symbol, Placed, good, bad, scan_of, tokens, refused, tokens_of, found, name_at, escaped_at, string_at, integer_at, long_at, real_at}
use Rattle.lexer.specs.Ascii.{ascii}
use Rattle.lexer.specs.Answer.{lexing_of, number_of, place_of}
use Rattle.lexer.specs.Answer.{Lexing}
use Rattle.lexer.specs.Answer.{Tokens, Refused}

abbrev pub Some : {A : Type 0} → (A → Type 0) → List A → Type 0
Some P [] = ⊥
Some P (x ∷ xs) = P x ⊎ Some P xs

-- bytes that are all whitespace
abbrev pub Blank : List ℕ → Type 0
Blank s = Each (λ b. is_space b ≡ true) s

-- Tokens laid over s, which starts at a place of the text: whitespace and a token's own bytes in turn, each token at its start, then
-- whitespace, and what comes last as E says of its place and its bytes.
abbrev pub Laid : (ℕ → List ℕ → Type 0) → ℕ → List Placed → List ℕ → Type 0
Laid E at [] s = (space last : List ℕ) × (s ≡ space ++ last) × Blank space × E (at + length space) last
Laid E at (p ∷ ps) s =
    (space own more : List ℕ)
    × (s ≡ space ++ (own ++ more))
    × Blank space
    × (p.start ≡ at + length space)
    × (0 < length own)
    × (scan_of (own ++ more) ≡ good p.token (length own))
    × Laid E (p.start + length own) ps more

-- nothing is left
abbrev pub Nothing : ℕ → List ℕ → Type 0
Nothing at last = last ≡ []

-- a token that is refused by number k stands at a place
abbrev pub BadToken : ℕ → ℕ → ℕ → List ℕ → Type 0
BadToken k place at last = (at ≡ place) × (0 < length last) × (is_space (get_or last 0 0) ≡ false) × (scan_of last ≡ bad k)

-- Legal tokens and the whitespace between them are the whole text, in order, with nothing left over; and no other tokens are.
abbrev pub Whole : Type 0
Whole = (s : List ℕ) (ps : List Placed) → (tokens_of s ≡ tokens ps) ↔ ((length s ≤ 4096) × Laid Nothing 0 ps s)

-- "1 or 3 at the first bad token": before it stand legal tokens and whitespace. "10: text over 4,096 bytes"
abbrev pub FirstBad : Type 0
FirstBad =
    (s : List ℕ) (k place : ℕ) (ps : List Placed)
    → (tokens_of s ≡ refused k place ps)
    ↔ (((length s ≤ 4096) × Laid (BadToken k place) 0 ps s) ⊎ ((4096 < length s) × (k ≡ 10) × (place ≡ 0) × (ps ≡ [])))

-- "first that applies in this order: 10, then 1 or 3 at the first bad token": a text that is too long has 10, at 0; one that is not has the number of its
-- first bad token, 1 or 3, at that token's start; or all of it is legal tokens and has 0, at 0.
abbrev pub HasNumber : List ℕ → ℕ → ℕ → Type 0
HasNumber s k place =
    ((4096 < length s) × (k ≡ 10) × (place ≡ 0))
    ⊎ (((length s ≤ 4096) × ((k ≡ 1) ⊎ (k ≡ 3)) × (ps : List Placed) × Laid (BadToken k place) 0 ps s)
    ⊎ ((length s ≤ 4096) × (k ≡ 0) × (place ≡ 0) × (ps : List Placed) × Laid Nothing 0 ps s))

-- What `lex` answers has just that number and that place.
abbrev pub Numbered : Type 0
Numbered = (s : List ℕ) (k place : ℕ) → let r = lexing_of (tokens_of s) in ((number_of r ≡ k) × (place_of r ≡ place)) ↔ HasNumber s k place

-- a token's value by its start in the text; a symbol's kind number is none of the other tokens'
abbrev pub ValueAt : List ℕ → ℕ → Token → Type 0
ValueAt s at (name bytes escaped) = (bytes ≡ name_at s at) × (escaped ≡ escaped_at s at)
ValueAt s at (int32 z) = (z ≡ integer_at s at) × (long_at s at ≡ false)
ValueAt s at (int64 z) = (z ≡ integer_at s at) × (long_at s at ≡ true)
ValueAt s at (real x) = x ≡ real_at s at
ValueAt s at (text bytes) = bytes ≡ string_at s at
ValueAt s at (symbol k) = (7 < k) × (k < 44)

-- Each token of a text, those before a bad one too, has its value by its start.
abbrev pub Values : Type 0
Values = (s : List ℕ) → Each (λ p. ValueAt s p.start p.token) (found (tokens_of s))

-- Each token starts inside the text.
abbrev pub StartsInside : Type 0
StartsInside = (s : List ℕ) → Each (λ p. p.start < length s) (found (tokens_of s))

-- A text has at most 4,096 tokens, and at most one a byte.
abbrev pub Counted : Type 0
Counted = (s : List ℕ) → (length (found (tokens_of s)) ≤ 4096) × (length (found (tokens_of s)) ≤ length s)

-- What is stored from the front of an array stands there.
abbrev pub Stored : Type 0
Stored = (d vs : List ℕ) → length vs ≤ length d → take (length vs) (sets d 0 vs) ≡ vs

-- "`! != && ^^ || == < <= > >= * / % + - << >> >>> & ^ | ~`", and "`( ) ,`", with their kind numbers
pub record Spelling : Type 0 where
  pub bytes : List ℕ
  pub kind : ℕ

unfoldable pub spellings : List Spelling
spellings =
    record { bytes = ascii "!"; kind = 40 } ∷
    record { bytes = ascii "!="; kind = 33 } ∷
    record { bytes = ascii "&&"; kind = 41 } ∷
    record { bytes = ascii "^^"; kind = 42 } ∷
    record { bytes = ascii "||"; kind = 43 } ∷
    record { bytes = ascii "=="; kind = 32 } ∷
    record { bytes = ascii "<"; kind = 34 } ∷
    record { bytes = ascii "<="; kind = 35 } ∷
    record { bytes = ascii ">"; kind = 36 } ∷
    record { bytes = ascii ">="; kind = 37 } ∷
    record { bytes = ascii "*"; kind = 22 } ∷
    record { bytes = ascii "/"; kind = 23 } ∷
    record { bytes = ascii "%"; kind = 24 } ∷
    record { bytes = ascii "+"; kind = 25 } ∷
    record { bytes = ascii "-"; kind = 26 } ∷
    record { bytes = ascii "<<"; kind = 16 } ∷
    record { bytes = ascii ">>"; kind = 17 } ∷
    record { bytes = ascii ">>>"; kind = 18 } ∷
    record { bytes = ascii "&"; kind = 19 } ∷
    record { bytes = ascii "^"; kind = 20 } ∷
    record { bytes = ascii "|"; kind = 21 } ∷
    record { bytes = ascii "~"; kind = 8 } ∷
    record { bytes = ascii "("; kind = 9 } ∷
    record { bytes = ascii ")"; kind = 10 } ∷
    record { bytes = ascii ","; kind = 11 } ∷
    []

-- s starts no name, no number and no string. "A `-` before a digit always starts a literal": there it is no operator.
abbrev pub StartsNoOther : List ℕ → Type 0
StartsNoOther s = (starts_name (get_or s 0 0) ≡ false) × (starts_number (get_or s 0 0) (get_or s 1 0) ≡ false) × (is_quote (get_or s 0 0) ≡ false)

-- "Operators take the longest match": a symbol of kind k and n bytes stands first in s exactly if s starts nothing else, some spelling of that kind and length
-- is a prefix of s, and none that is longer is. What starts nothing else is refused by 1 exactly if no spelling is a prefix of it.
abbrev pub LongestMatch : Type 0
LongestMatch =
    (s : List ℕ)
    → ((k n : ℕ)
    → (scan_of s ≡ good (symbol k) n)
    ↔ (StartsNoOther s
    × Some (λ x. (x.kind ≡ k) × (length x.bytes ≡ n) × IsPrefix x.bytes s) spellings
    × (Some (λ x. (n < length x.bytes) × IsPrefix x.bytes s) spellings → ⊥)))
    × (StartsNoOther s → (scan_of s ≡ bad 1) ↔ (Some (λ x. IsPrefix x.bytes s) spellings → ⊥))

-- A real within its limits is one that f64 computes from two exact operands: no legal real is without a value.
abbrev pub RealsHaveValues : Type 0
RealsHaveValues = (run : List ℕ) → real_fits run ≡ true → in_limits (whole_of 10 (real_digits run)) (nat_abs (scale_of run)) ≡ true

-- Document 01's lexical examples, and its error that looks sensible, `a==b`: here one name.
pub record Example : Type 0 where
  pub bytes : List ℕ
  pub answer : Lexing

abbrev pub examples : List Example
examples =
    record { bytes = ascii "09 == 9"; answer = Refused 1 0 } ∷
    record { bytes = ascii "0x80000000 == 0"; answer = Refused 3 0 } ∷
    record { bytes = ascii "1.0e23"; answer = Tokens 1 } ∷
    record { bytes = ascii "1.0e24"; answer = Refused 3 0 } ∷
    record { bytes = ascii "123456789012345.6"; answer = Refused 3 0 } ∷
    record { bytes = ascii "pipe=>20"; answer = Tokens 1 } ∷
    record { bytes = ascii "a==b"; answer = Tokens 1 } ∷
    record { bytes = ascii "a -5"; answer = Tokens 2 } ∷
    record { bytes = ascii "a - 5"; answer = Tokens 3 } ∷
    record { bytes = ascii "-2147483648"; answer = Tokens 1 } ∷
    record { bytes = ascii "Op == 42"; answer = Tokens 3 } ∷
    record { bytes = ascii ""; answer = Tokens 0 } ∷
    []

abbrev pub Examples : Type 0
Examples = Each (λ x. lexing_of (tokens_of x.bytes) ≡ x.answer) examples
