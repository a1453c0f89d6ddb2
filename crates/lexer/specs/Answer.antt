-- What the code answers, by the definitions.
use Rattle.std.specs.Prelude.{ℕ, ◌+◌, ◌≤◌, ◌≡◌, List, length, take, drop, Result, Ok, Err}
use Rattle.refusal.specs.Refusal as refusal
use Rattle.refusal.specs.declared.Refusal.{Refusal}
use Rattle.lexer.specs.Digits.{digits_of, whole_from, capped}
use Rattle.lexer.specs.Token.{Scan, good, bad, kind_of, Lexed, tokens, refused}
use Rattle.lexer.specs.declared.digits.Numeral.{Numeral}
use Rattle.lexer.specs.declared.Fault.{Fault}
use Rattle.lexer.specs.declared.Fault.TheVariants.{Form, Limit}

-- How many tokens there are; or document 01's number of a refusal, and its place.
pub data Lexing : Type 0 where
  Tokens : ℕ → Lexing
  Refused : ℕ → ℕ → Lexing

-- what `lex` has to answer
abbrev pub lexing_of : Lexed → Lexing
lexing_of (tokens ps) = Tokens (length ps)
lexing_of (refused k at ps) = Refused k at

-- document 01's number of what `lex` answers, 0 for tokens, and its place
abbrev pub number_of : Lexing → ℕ
number_of (Tokens n) = 0
number_of (Refused k at) = k

abbrev pub place_of : Lexing → ℕ
place_of (Tokens n) = 0
place_of (Refused k at) = at

-- what `lex` answers, by those numbers
abbrev pub answered : Result ℕ Refusal → Lexing
answered (Ok n) = Tokens n
answered (Err r) = Refused (refusal.number_of r) (refusal.place_of r)

-- A token by its kind number and its length; or document 01's number.
pub data Scanned : Type 0 where
  Good : ℕ → ℕ → Scanned
  Bad : ℕ → Scanned

-- what the scanners answer, by those numbers
abbrev pub number_of_fault : Fault → ℕ
number_of_fault Form = 1
number_of_fault Limit = 3

abbrev pub scanned : Result (ℕ × ℕ) Fault → Scanned
scanned (Ok (k, n)) = Good k n
scanned (Err f) = Bad (number_of_fault f)

-- what they have to answer
abbrev pub scanned_of : Scan → Scanned
scanned_of (good t n) = Good (kind_of t) n
scanned_of (bad k) = Bad k

-- the digits of s from a place on: where they end, and the whole number that they form after the value of those before them
abbrev pub Reads : ℕ → ℕ → ℕ → List ℕ → Numeral → Type 0
Reads base high at s n =
    (n.end ≡ at + length (digits_of base (drop at s))) × (n.value ≡ capped (whole_from base high (digits_of base (drop at s))))

-- bytes that stand in s from a place on, so many
abbrev pub Stand : List ℕ → ℕ → ℕ → List ℕ → Type 0
Stand s at n bytes = (at + n ≤ length s) × (take n (drop at s) ≡ bytes)
