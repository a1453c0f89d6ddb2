-- The tokens that the lexer's arrays stand for: kinds and starts, over the text. Defined for all arrays; a start that is lacking counts as 0.
use Rattle.std.specs.Prelude.{ℕ, cond, List, [], ◌∷◌, eqb, get_or, drop}
use Rattle.lexer.specs.Kind.{int32_kind, int64_kind, real64_kind, text_kind, naming}
use Rattle.lexer.specs.Token.{Token, name, int32, int64, real, text, symbol, name_at, escaped_at, string_at, integer_at, real_at}

-- the token of a kind that starts at a place of the text
abbrev pub token_of : List ℕ → ℕ → ℕ → Token
token_of s k at =
    cond (eqb k naming) (name (name_at s at) (escaped_at s at))
    (cond (eqb k text_kind) (text (string_at s at))
    (cond (eqb k int32_kind) (int32 (integer_at s at))
    (cond (eqb k int64_kind) (int64 (integer_at s at))
    (cond (eqb k real64_kind) (real (real_at s at)) (symbol k)))))

unfoldable pub tokens_in : List ℕ → List ℕ → List ℕ → List Token
tokens_in s [] starts = []
tokens_in s (k ∷ kinds) starts = token_of s k (get_or starts 0 0) ∷ tokens_in s kinds (drop 1 starts)
