-- The operands among marked tokens: their kinds, where they start in the text, and how many bytes each brings to the pool. Defined for all arrays.
use Rattle.std.specs.Prelude.{ℕ, zero, suc, ◌+◌, cond, List, [], ◌∷◌, length, get_or}
use Rattle.lexer.specs.Kind.{ending}
use Rattle.grammar.specs.Marks.{is_operand}
use Rattle.grammar.specs.Size.{pool_bytes}
use Rattle.grammar.specs.Stream.{token_of}

-- what `f` says of each operand among n marks, from the mark i on
unfoldable pub each_from : {A : Type 0} → (ℕ → A) → List ℕ → ℕ → ℕ → List A
each_from f ms i zero = []
each_from f ms i (suc n) = cond (is_operand (get_or ms i ending)) (f i ∷ each_from f ms (i + 1) n) (each_from f ms (i + 1) n)

abbrev pub each : {A : Type 0} → (ℕ → A) → List ℕ → List A
each f ms = each_from f ms 0 (length ms)

-- the mark of an operand is its kind
abbrev pub operand_kinds : List ℕ → List ℕ
operand_kinds ms = each (λ i. get_or ms i ending) ms

abbrev pub place_at : List ℕ → ℕ → ℕ
place_at starts i = get_or starts i 0

abbrev pub operand_places : List ℕ → List ℕ → List ℕ
operand_places ms starts = each (place_at starts) ms

-- "Operand names (not functions') and strings enter the pool unescaped, in text order, each time anew."
abbrev pub size_at : List ℕ → List ℕ → List ℕ → ℕ → ℕ
size_at s ms starts i = pool_bytes (token_of s (get_or ms i ending) (place_at starts i))

abbrev pub operand_sizes : List ℕ → List ℕ → List ℕ → List ℕ
operand_sizes s ms starts = each (size_at s ms starts) ms
