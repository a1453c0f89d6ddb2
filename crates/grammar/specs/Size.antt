-- What the postfix code of a tree takes: entries, bytes of the pool, and slots of the stack. Refusals 7, 8 and 9 ask these. Document 01, "Table": "Translation is postfix. ..".
use Rattle.std.specs.Prelude.{ℕ, ◌+◌, max, Bool, cond, ◌||◌, eqb, length}
use Rattle.opcode.specs.Number.{and_op, or_op}
use Rattle.lexer.specs.Token.{Token, name, int32, int64, real, text, symbol}
use Rattle.grammar.specs.Tree.{Tree, leaf, group, unary, binary, call, Trees, none, ◌then◌}

unfoldable pub count_of : Trees → ℕ
count_of none = 0
count_of (◌then◌ ts t) = count_of ts + 1

-- "`L && R` becomes L, skip if false, R, op 41; `L || R` uses skip if true": these two have a skip before the right side
abbrev pub skips : ℕ → Bool
skips k = eqb k and_op || eqb k or_op

unfoldable mutual
  pub entries_of : Tree → ℕ
  entries_of (leaf x) = 1
  entries_of (group t) = entries_of t
  entries_of (unary k t) = entries_of t + 1
  entries_of (binary k t u) = entries_of t + entries_of u + cond (skips k) 2 1
  entries_of (call x ts) = entries_in ts + 1

  pub entries_in : Trees → ℕ
  entries_in none = 0
  entries_in (◌then◌ ts t) = entries_in ts + entries_of t

-- "Operand names (not functions') and strings enter the pool unescaped, in text order, each time anew."
abbrev pub pool_bytes : Token → ℕ
pool_bytes (name s escaped) = length s
pool_bytes (int32 z) = 0
pool_bytes (int64 z) = 0
pool_bytes (real x) = 0
pool_bytes (text s) = length s
pool_bytes (symbol k) = 0

unfoldable mutual
  pub pool_of : Tree → ℕ
  pool_of (leaf x) = pool_bytes x
  pool_of (group t) = pool_of t
  pool_of (unary k t) = pool_of t
  pool_of (binary k t u) = pool_of t + pool_of u
  pool_of (call x ts) = pool_in ts

  pub pool_in : Trees → ℕ
  pool_in none = 0
  pool_in (◌then◌ ts t) = pool_in ts + pool_of t

-- the most slots that the code holds at once, in the order of its entries
unfoldable mutual
  pub depth_of : Tree → ℕ
  depth_of (leaf x) = 1
  depth_of (group t) = depth_of t
  depth_of (unary k t) = depth_of t
  depth_of (binary k t u) = max (depth_of t) (depth_of u + 1)
  depth_of (call x ts) = depth_in ts

  pub depth_in : Trees → ℕ
  depth_in none = 1
  depth_in (◌then◌ ts t) = max (depth_in ts) (count_of ts + depth_of t)
