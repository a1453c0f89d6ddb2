-- Refusal 6: "over 24 parentheses open at once (a `)` with none open is passed over), or over 24 of `!` `~` in a row".
use Rattle.std.specs.Prelude.{ℕ, ◌+◌, ◌-◌, Bool, false, not, cond, ◌||◌, List, [], ◌∷◌, eqb, ltb}
use Rattle.lexer.specs.Kind.{opening, closing}
use Rattle.grammar.specs.Grammar.{is_prefix}

-- what is open after a token, and how many prefix operators stand in a row
abbrev pub open_after : ℕ → ℕ → ℕ
open_after k opened = cond (eqb k opening) (opened + 1) (cond (eqb k closing) (opened - 1) opened)

abbrev pub row_after : ℕ → ℕ → ℕ
row_after k row = cond (is_prefix k) (row + 1) 0

-- Inside the code: a token that opens and closes nothing and is no prefix operator.
abbrev pub is_flat : ℕ → Bool
is_flat k = not (eqb k opening || (eqb k closing || is_prefix k))

-- whether a limit is passed at some token, by the kinds of the tokens
unfoldable pub deep_from : ℕ → ℕ → List ℕ → Bool
deep_from opened row [] = false
deep_from opened row (k ∷ ks) =
    (ltb 24 (open_after k opened) || ltb 24 (row_after k row)) || deep_from (open_after k opened) (row_after k row) ks

unfoldable pub too_deep : List ℕ → Bool
too_deep ks = deep_from 0 0 ks
