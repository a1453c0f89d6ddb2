-- Entries and pool of postfix codes, one after the other: what one pass over the codes writes. That it is `compile` of specs/Compile.antt is proved in proofs/Expanding.antt.
use Rattle.std.specs.Prelude.{ℕ, zero, suc, ◌+◌, ◌/◌, ◌%◌, ◌≡◌, Bool, true, cond, List, [], ◌∷◌, ◌++◌, length, get_or}
use Rattle.grammar.specs.Marks.{is_operand}
use Rattle.grammar.specs.Stream.{token_of}
use Rattle.table.specs.declared.Entry.{Entry}
use Rattle.translator.specs.Compile.{entry, leaf_entry, leaf_bytes}

-- `code` of the grammar's specs/Code.antt, taken apart
abbrev pub op_in : ℕ → ℕ
op_in c = c % 64

abbrev pub a_in : ℕ → ℕ
a_in c = c / 64

-- a literal's code or a name's
abbrev pub pushes : ℕ → Bool
pushes c = is_operand (op_in c)

-- how many operands of the text a code stands for
abbrev pub operands_by : ℕ → ℕ
operands_by c = cond (pushes c) 1 0

-- the bytes that a code brings to the pool, where the next operand starts at a place of the text
abbrev pub brought_by : List ℕ → ℕ → ℕ → List ℕ
brought_by s c place = cond (pushes c) (leaf_bytes (token_of s (op_in c) place)) []

-- its entry, where those bytes stand in the pool from `at` on
abbrev pub entry_by : List ℕ → ℕ → ℕ → ℕ → Entry
entry_by s c place at = cond (pushes c) (leaf_entry at (token_of s (op_in c) place)) (entry (op_in c) (a_in c) 0)

-- the entries of codes, from the operand l on, of which the places are given
unfoldable pub expand : List ℕ → List ℕ → List ℕ → ℕ → ℕ → List Entry
expand s places [] l at = []
expand s places (c ∷ cs) l at = entry_by s c (get_or places l 0) at ∷ expand s places cs (l + operands_by c) (at + length (brought_by s c (get_or places l 0)))

-- and their pool
unfoldable pub pooled : List ℕ → List ℕ → List ℕ → ℕ → List ℕ
pooled s places [] l = []
pooled s places (c ∷ cs) l = brought_by s c (get_or places l 0) ++ pooled s places cs (l + operands_by c)

-- a size is that of what a code brings, if it is an operand's
abbrev pub SizedBy : List ℕ → ℕ → ℕ → ℕ → Type 0
SizedBy s c place size = pushes c ≡ true → size ≡ length (brought_by s c place)

-- the sizes are those of what the codes bring, from the operand l on
abbrev pub Sized : List ℕ → List ℕ → List ℕ → List ℕ → ℕ → Type 0
Sized s places sizes [] l = Unit {0}
Sized s places sizes (c ∷ cs) l = SizedBy s c (get_or places l 0) (get_or sizes l 0) × Sized s places sizes cs (l + operands_by c)

-- the sum of n numbers, from the number i on
unfoldable pub sum_from : List ℕ → ℕ → ℕ → ℕ
sum_from xs i zero = 0
sum_from xs i (suc n) = get_or xs i 0 + sum_from xs (i + 1) n
