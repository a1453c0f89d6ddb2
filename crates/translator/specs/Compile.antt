-- The table of a tree. Document 01, "Table": "Translation is postfix. `L && R` becomes L, skip if false, R, op 41; `L || R` uses skip if true; a is R's entries plus 1.
-- .. Operand names (not functions') and strings enter the pool unescaped, in text order, each time anew."
use Rattle.std.specs.Prelude.{ℕ, ◌+◌, ◌-◌, cond, List, [], ◌∷◌, ◌++◌, eqb, leb, length}
use Rattle.std.specs.Float.{binary64}
use Rattle.std.specs.Float.Ieee.{to_bits}
use Rattle.std.specs.Int.{w64}
use Rattle.std.proofs.Common.{of_z}
use Rattle.opcode.specs.declared.Edition.{Edition}
use Rattle.opcode.specs.Number.{int32_op, int64_op, real64_op, text_op, name_op, and_op, or_op, skip_if_false_op, skip_if_true_op, begins_with_op}
use Rattle.lexer.specs.Token.{Token, name, int32, int64, real, text, symbol}
use Rattle.grammar.specs.Tree.{Tree, leaf, group, unary, binary, call, Trees, none, ◌then◌}
use Rattle.grammar.specs.Function.{function_of}
use Rattle.grammar.specs.Size.{count_of, entries_of, pool_of, pool_in}
use Rattle.table.specs.Table.{Program}
use Rattle.table.specs.declared.Entry.{Entry}

abbrev pub entry : ℕ → ℕ → ℕ → Entry
entry op a b = record { op = op; a = a; b = b }

-- the entry that pushes a literal or a name; its bytes stand in the pool from `at` on. "b: two's complement or bits, int32 widened by sign"; "a length, b pool offset"
abbrev pub leaf_entry : ℕ → Token → Entry
leaf_entry at (name s escaped) = entry name_op (length s) at
leaf_entry at (int32 z) = entry int32_op 0 (of_z w64 z)
leaf_entry at (int64 z) = entry int64_op 0 (of_z w64 z)
leaf_entry at (real x) = entry real64_op 0 (to_bits binary64 x)
leaf_entry at (text s) = entry text_op (length s) at
leaf_entry at (symbol k) = entry k 0 0

-- the op of the skip of `&&` and of `||`; 0 for any other operator
abbrev pub skip_op : ℕ → ℕ
skip_op k = cond (eqb k and_op) skip_if_false_op (cond (eqb k or_op) skip_if_true_op 0)

-- the skip before the right side of `&&` and of `||`, which has n entries
abbrev pub skip_entries : ℕ → ℕ → List Entry
skip_entries k n = cond (eqb k and_op) (entry skip_if_false_op (n + 1) 0 ∷ []) (cond (eqb k or_op) (entry skip_if_true_op (n + 1) 0 ∷ []) [])

-- "56..59 .. (a: literals or values, 1..8; taken from the stack with the first)"
abbrev pub call_entry : ℕ → ℕ → Entry
call_entry f count = entry f (cond (leb begins_with_op f) (count - 1) 0) 0

-- the entries of a tree whose names and strings stand in the pool from `at` on
unfoldable mutual
  pub code_of : ℕ → Tree → List Entry
  code_of at (leaf x) = leaf_entry at x ∷ []
  code_of at (group t) = code_of at t
  code_of at (unary k t) = code_of at t ++ (entry k 0 0 ∷ [])
  code_of at (binary k t u) = code_of at t ++ (skip_entries k (entries_of u) ++ (code_of (at + pool_of t) u ++ (entry k 0 0 ∷ [])))
  code_of at (call x ts) = code_in at ts ++ (call_entry (function_of x) (count_of ts) ∷ [])

  pub code_in : ℕ → Trees → List Entry
  code_in at none = []
  code_in at (◌then◌ ts t) = code_in at ts ++ code_of (at + pool_in ts) t

-- the bytes of the pool
abbrev pub leaf_bytes : Token → List ℕ
leaf_bytes (name s escaped) = s
leaf_bytes (int32 z) = []
leaf_bytes (int64 z) = []
leaf_bytes (real x) = []
leaf_bytes (text s) = s
leaf_bytes (symbol k) = []

unfoldable mutual
  pub bytes_of : Tree → List ℕ
  bytes_of (leaf x) = leaf_bytes x
  bytes_of (group t) = bytes_of t
  bytes_of (unary k t) = bytes_of t
  bytes_of (binary k t u) = bytes_of t ++ bytes_of u
  bytes_of (call x ts) = bytes_in ts

  pub bytes_in : Trees → List ℕ
  bytes_in none = []
  bytes_in (◌then◌ ts t) = bytes_in ts ++ bytes_of t

-- the table of an edition: the editions have the same entries and pool
abbrev pub compile : Edition → Tree → Program
compile e t = record { edition = e; entries = code_of 0 t; pool = bytes_of t }
