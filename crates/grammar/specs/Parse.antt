-- The computing parser: the tree that stands at a token. That it accepts exactly what the grammar derives is `Parses` of specs/Theorems.antt.
use Rattle.std.specs.Prelude.{ℕ, zero, suc, ◌+◌, ◌*◌, Bool, List, length, get_or, eqb}
use Rattle.common.specs.Choice.{pick}
use Rattle.lexer.specs.Kind.{naming, opening, closing, comma, ending}
use Rattle.lexer.specs.Token.{Token, symbol, kind_of}
use Rattle.grammar.specs.Tree.{Tree, leaf, group, unary, binary, call, Trees, none, ◌then◌}
use Rattle.grammar.specs.Grammar.{rank, is_prefix, is_literal}

-- a tree and the first token after it; or the token that cannot go on
pub data Result : Type 0 where
  ok : Tree → ℕ → Result
  bad : ℕ → Result

abbrev pub and_then : Result → (Tree → ℕ → Result) → Result
and_then (ok t n) k = k t n
and_then (bad p) k = bad p

-- what stands past the last token
abbrev pub ended : Token
ended = symbol ending

abbrev pub token_at : List Token → ℕ → Token
token_at ks i = get_or ks i ended

abbrev pub kind_at : List Token → ℕ → ℕ
kind_at ks i = kind_of (token_at ks i)

abbrev pub is : List Token → ℕ → ℕ → Bool
is ks i k = eqb (kind_at ks i) k

unfoldable mutual
  pub level : ℕ → List Token → ℕ → ℕ → Result
  level zero ks i l = bad i
  level (suc f) ks i l =
      pick (eqb l 11) (λ _. prefix f ks i)
      (λ _. and_then (level f ks i (l + 1)) (λ t j. more f ks j l t))

  pub more : ℕ → List Token → ℕ → ℕ → Tree → Result
  more zero ks i l t = bad i
  more (suc f) ks i l t =
      pick (eqb (rank (kind_at ks i)) l) (λ _. and_then (level f ks (i + 1) (l + 1)) (λ u j. more f ks j l (binary (kind_at ks i) t u)))
      (λ _. ok t i)

  pub prefix : ℕ → List Token → ℕ → Result
  prefix zero ks i = bad i
  prefix (suc f) ks i =
      pick (is_prefix (kind_at ks i)) (λ _. and_then (prefix f ks (i + 1)) (λ t j. ok (unary (kind_at ks i) t) j))
      (λ _. operand f ks i)

  pub operand : ℕ → List Token → ℕ → Result
  operand zero ks i = bad i
  operand (suc f) ks i =
      pick (is_literal (kind_at ks i)) (λ _. ok (leaf (token_at ks i)) (i + 1))
      (λ _. pick (is ks i naming)
      (λ _. pick (is ks (i + 1) opening)
      (λ _. pick (is ks (i + 2) closing) (λ _. ok (call (token_at ks i) none) (i + 3)) (λ _. arguments f ks (i + 2) (token_at ks i) none))
      (λ _. ok (leaf (token_at ks i)) (i + 1)))
      (λ _. pick (is ks i opening)
      (λ _. and_then (level f ks (i + 1) 0) (λ t j. pick (is ks j closing) (λ _. ok (group t) (j + 1)) (λ _. bad j)))
      (λ _. bad i)))

  pub arguments : ℕ → List Token → ℕ → Token → Trees → Result
  arguments zero ks i x ts = bad i
  arguments (suc f) ks i x ts =
      and_then (level f ks i 0)
      (λ t j. pick (is ks j comma) (λ _. arguments f ks (j + 1) x (◌then◌ ts t))
      (λ _. pick (is ks j closing) (λ _. ok (call x (◌then◌ ts t)) (j + 1)) (λ _. bad j)))

-- Fuel enough for any call on these tokens: what stands below does not depend on it (proofs/Fuel.antt).
abbrev pub fuel : List Token → ℕ
fuel ks = length ks * 16 + 16

unfoldable pub level_of : List Token → ℕ → ℕ → Result
level_of ks i l = level (fuel ks) ks i l

unfoldable pub more_of : List Token → ℕ → ℕ → Tree → Result
more_of ks i l t = more (fuel ks) ks i l t

unfoldable pub prefix_of : List Token → ℕ → Result
prefix_of ks i = prefix (fuel ks) ks i

unfoldable pub operand_of : List Token → ℕ → Result
operand_of ks i = operand (fuel ks) ks i

unfoldable pub arguments_of : List Token → ℕ → Token → Trees → Result
arguments_of ks i x ts = arguments (fuel ks) ks i x ts

-- the whole input as one expression
unfoldable pub parse_all : List Token → Result
parse_all ks = and_then (level_of ks 0 0) (λ t j. pick (eqb j (length ks)) (λ _. ok t j) (λ _. bad j))
