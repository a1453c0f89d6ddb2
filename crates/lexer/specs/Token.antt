-- Tokens, and the tokens of a text. Document 01, "Tokens", and "Refusals by number", 10, 1 and 3.
use Rattle.std.specs.Prelude.{ℕ, zero, suc, ◌+◌, ◌-◌, Bool, true, false, not, cond, ◌&&◌, List, [], ◌∷◌, map, eqb, ltb, length, get_or, drop, ℤ, Float}
use Rattle.std.specs.Float.{nan}
use Rattle.common.specs.Choice.{pick}
use Rattle.octets.specs.Octets.{same_of}
use Rattle.lexer.specs.Byte.{is_space, is_quote, starts_name, starts_number}
use Rattle.lexer.specs.Run.{run_of, unescaped, has_escape, legal_name, name_fits, body_of, is_closed}
use Rattle.lexer.specs.Integer.{is_long, is_integer, integer_of, integer_fits, held}
use Rattle.lexer.specs.Real.{is_real, real_fits, real_of}
use Rattle.lexer.specs.Kind.{int32_kind, int64_kind, real64_kind, text_kind, naming}
use Rattle.lexer.specs.Symbol.{symbol_of, symbol_length}

-- a name by its bytes without escapes and whether it had one; an integer or a real by its value; a string by its bytes without escapes;
-- an operator, a parenthesis or a comma by its kind number
pub data Token : Type 0 where
  name : List ℕ → Bool → Token
  int32 : ℤ → Token
  int64 : ℤ → Token
  real : Float → Token
  text : List ℕ → Token
  symbol : ℕ → Token

-- the kind number of a token: the op of "Table" where there is one
abbrev pub kind_of : Token → ℕ
kind_of (name bytes escaped) = naming
kind_of (int32 z) = int32_kind
kind_of (int64 z) = int64_kind
kind_of (real x) = real64_kind
kind_of (text bytes) = text_kind
kind_of (symbol k) = k

pub record Placed : Type 0 where
  pub token : Token
  pub start : ℕ

-- What stands first in a text: a token and how many bytes it takes, or the number by which it is refused.
pub data Scan : Type 0 where
  good : Token → ℕ → Scan
  bad : ℕ → Scan

-- "1: a token has no legal form. 3: legal form, but number or name outside its limits": the form, the limits, the token, its length
abbrev pub judged : Bool → Bool → Token → ℕ → Scan
judged false limits t n = bad 1
judged true false t n = bad 3
judged true true t n = good t n

-- The tokens of each class that can stand first in s.
abbrev pub scan_name : List ℕ → Scan
scan_name s =
    let run = run_of 0 s in
    let bytes = unescaped false run in
    judged (legal_name false run) (name_fits bytes) (name bytes (has_escape run)) (length run)

abbrev pub integer_token : List ℕ → Token
integer_token run = cond (is_long run) (int64 (integer_of run)) (int32 (integer_of run))

abbrev pub scan_integer : List ℕ → Scan
scan_integer run = judged (is_integer run) (integer_fits run) (integer_token run) (length run)

-- a real's form, else an integer's: no integer has a point
abbrev pub scan_run : List ℕ → Scan
scan_run run =
    pick (is_real run)
    (λ _. judged true (real_fits run) (real (real_of run)) (length run))
    (λ _. scan_integer run)

abbrev pub scan_number : List ℕ → Scan
scan_number s = scan_run (run_of 0 s)

abbrev pub scan_string : List ℕ → Scan
scan_string s = judged (is_closed s) true (text (unescaped false (body_of s))) (length (body_of s) + 2)

abbrev pub scan_bytes : ℕ → ℕ → ℕ → Scan
scan_bytes a b c = judged (not (eqb (symbol_of a b c) 0)) true (symbol (symbol_of a b c)) (symbol_length a b c)

abbrev pub scan_symbol : List ℕ → Scan
scan_symbol s = scan_bytes (get_or s 0 0) (get_or s 1 0) (get_or s 2 0)

-- by the first byte, and the second after a `-`
unfoldable pub scan_of : List ℕ → Scan
scan_of s =
    pick (starts_name (get_or s 0 0)) (λ _. scan_name s)
    (λ _. pick (starts_number (get_or s 0 0) (get_or s 1 0)) (λ _. scan_number s)
    (λ _. pick (is_quote (get_or s 0 0)) (λ _. scan_string s) (λ _. scan_symbol s)))

-- All tokens of a text with their starts; or the number of a refusal, its place and the tokens before the bad one.
pub data Lexed : Type 0 where
  tokens : List Placed → Lexed
  refused : ℕ → ℕ → List Placed → Lexed

abbrev pub prepend : Placed → Lexed → Lexed
prepend p (tokens ps) = tokens (p ∷ ps)
prepend p (refused k at ps) = refused k at (p ∷ ps)

-- a token with its start and what comes after its length, or "Place: for 1 and 3 the token's start"
abbrev pub placed : ℕ → Scan → (ℕ → Lexed) → Lexed
placed at (good t n) more = prepend (record { token = t; start = at }) (more n)
placed at (bad k) more = refused k at []

-- The tokens of s, which starts at a place of the text; the first `inside` bytes belong to the token before.
unfoldable pub tokens_from : ℕ → ℕ → List ℕ → Lexed
tokens_from inside at [] = tokens []
tokens_from (suc n) at (b ∷ s) = tokens_from n (suc at) s
tokens_from zero at (b ∷ s) =
    pick (is_space b) (λ _. tokens_from zero (suc at) s) (λ _. placed at (scan_of (b ∷ s)) (λ n. tokens_from (n - 1) (suc at) s))

-- "10: text over 4,096 bytes", before all else
unfoldable pub tokens_of : List ℕ → Lexed
tokens_of s = pick (ltb 4096 (length s)) (λ _. refused 10 0 []) (λ _. tokens_from 0 0 s)

-- the tokens that were found, and their kinds and starts as numbers
abbrev pub found : Lexed → List Placed
found (tokens ps) = ps
found (refused k at ps) = ps

abbrev pub kinds_of : Lexed → List ℕ
kinds_of l = map (λ p. kind_of p.token) (found l)

abbrev pub starts_of : Lexed → List ℕ
starts_of l = map (λ p. p.start) (found l)

-- The value of a token by its start in a text.
abbrev pub name_at : List ℕ → ℕ → List ℕ
name_at s at = unescaped false (run_of 0 (drop at s))

abbrev pub escaped_at : List ℕ → ℕ → Bool
escaped_at s at = has_escape (run_of 0 (drop at s))

-- whether a name is a word, with no escape: "Function names take no escapes"
abbrev pub name_is : List ℕ → ℕ → List ℕ → Bool
name_is s at word = not (escaped_at s at) && same_of (name_at s at) word

abbrev pub string_at : List ℕ → ℕ → List ℕ
string_at s at = unescaped false (body_of (drop at s))

-- 0 where 64 bits do not hold the integer, and no number where a real is outside its limits: those are no tokens
abbrev pub integer_at : List ℕ → ℕ → ℤ
integer_at s at = held (integer_of (run_of 0 (drop at s)))

abbrev pub long_at : List ℕ → ℕ → Bool
long_at s at = is_long (run_of 0 (drop at s))

abbrev pub real_at : List ℕ → ℕ → Float
real_at s at = let run = run_of 0 (drop at s) in cond (real_fits run) (real_of run) nan
