-- Tokens as the parser reads them, one number each, and the operands among them. Document 01, "Grammar": "A name before `(` is always a call."
use Rattle.std.specs.Prelude.{ℕ, zero, suc, ◌+◌, Bool, cond, ◌&&◌, List, [], ◌∷◌, leb, length}
use Rattle.lexer.specs.Kind.{int32_kind, naming, opening}
use Rattle.lexer.specs.Token.{Token}
use Rattle.grammar.specs.Parse.{token_at, kind_at, is}
use Rattle.grammar.specs.Function.{function_of}

-- added to the op of a called function: no kind and no op is as large
abbrev pub calling : ℕ
calling = 128

-- the mark of a token: of a called name its function's op, 0 if there is none, and `calling`; of any other token its kind
abbrev pub mark_at : List Token → ℕ → ℕ
mark_at ks i = cond (is ks i naming && is ks (i + 1) opening) (calling + function_of (token_at ks i)) (kind_at ks i)

-- of n tokens, from the token i on
unfoldable pub marks_from : List Token → ℕ → ℕ → List ℕ
marks_from ks i zero = []
marks_from ks i (suc n) = mark_at ks i ∷ marks_from ks (i + 1) n

abbrev pub marks_of : List Token → List ℕ
marks_of ks = marks_from ks 0 (length ks)

-- a literal, or a name that is not called
abbrev pub is_operand : ℕ → Bool
is_operand m = leb int32_kind m && leb m naming

-- the operands among n tokens, from the token i on, in text order
unfoldable pub operands_from : List Token → ℕ → ℕ → List Token
operands_from ks i zero = []
operands_from ks i (suc n) = cond (is_operand (mark_at ks i)) (token_at ks i ∷ operands_from ks (i + 1) n) (operands_from ks (i + 1) n)

abbrev pub operands_in : List Token → List Token
operands_in ks = operands_from ks 0 (length ks)
