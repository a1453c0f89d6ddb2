-- The postfix code of a tree, one number of 16 bits for each entry, and the tokens that its leaves push. Document 01, "Table": "Translation is postfix. `L && R` becomes L, skip if false, R, op 41; `L || R` uses skip if true; a is R's entries plus 1."
use Rattle.std.specs.Prelude.{ℕ, ◌+◌, ◌-◌, ◌*◌, ◌%◌, cond, List, [], ◌∷◌, ◌++◌, eqb, leb}
use Rattle.opcode.specs.Number.{and_op, or_op, skip_if_false_op, skip_if_true_op, begins_with_op}
use Rattle.lexer.specs.Token.{Token, kind_of}
use Rattle.grammar.specs.Tree.{Tree, leaf, group, unary, binary, call, Trees, none, ◌then◌}
use Rattle.grammar.specs.Function.{function_of}
use Rattle.grammar.specs.Size.{count_of, entries_of}

-- an entry's op, below 64, and its a: exact where a is below 1,024
abbrev pub code : ℕ → ℕ → ℕ
code op a = (op + 64 * a) % 65536

-- the skip before the right side of `&&` and of `||`, which has n entries
abbrev pub skip_codes : ℕ → ℕ → List ℕ
skip_codes k n = cond (eqb k and_op) (code skip_if_false_op (n + 1) ∷ []) (cond (eqb k or_op) (code skip_if_true_op (n + 1) ∷ []) [])

-- "56..59 .. (a: literals or values, 1..8; taken from the stack with the first)"
abbrev pub call_code : ℕ → ℕ → ℕ
call_code f count = code f (cond (leb begins_with_op f) (count - 1) 0)

unfoldable mutual
  pub codes_of : Tree → List ℕ
  codes_of (leaf x) = code (kind_of x) 0 ∷ []
  codes_of (group t) = codes_of t
  codes_of (unary k t) = codes_of t ++ (code k 0 ∷ [])
  codes_of (binary k t u) = codes_of t ++ (skip_codes k (entries_of u) ++ (codes_of u ++ (code k 0 ∷ [])))
  codes_of (call x ts) = codes_in ts ++ (call_code (function_of x) (count_of ts) ∷ [])

  pub codes_in : Trees → List ℕ
  codes_in none = []
  codes_in (◌then◌ ts t) = codes_in ts ++ codes_of t

-- the tokens of the leaves, in text order
unfoldable mutual
  pub leaves_of : Tree → List Token
  leaves_of (leaf x) = x ∷ []
  leaves_of (group t) = leaves_of t
  leaves_of (unary k t) = leaves_of t
  leaves_of (binary k t u) = leaves_of t ++ leaves_of u
  leaves_of (call x ts) = leaves_in ts

  pub leaves_in : Trees → List Token
  leaves_in none = []
  leaves_in (◌then◌ ts t) = leaves_in ts ++ leaves_of t
