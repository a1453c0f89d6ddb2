-- What the linear passes find is what the trees have. The proofs are in proofs/Theorems.antt, under the same names.
use Rattle.std.specs.Prelude.{◌≡◌, true, false, List, map, ℕ, length}
use Rattle.lexer.specs.Token.{Token, kind_of}
use Rattle.grammar.specs.Tree.{Tree}
use Rattle.grammar.specs.Grammar.{Level}
use Rattle.grammar.specs.Parse.{ok, parse_all}
use Rattle.grammar.specs.Size.{pool_bytes}
use Rattle.grammar.specs.Judge.{patterns_right}
use Rattle.grammar.specs.Nesting.{too_deep}
use Rattle.grammar.specs.Stream.{tokens_in}
use Rattle.grammar.specs.Marks.{marks_of, operands_in}
use Rattle.grammar.specs.Code.{leaves_of}
use Rattle.operands.specs.Gather.{operand_kinds, operand_places, operand_sizes}
use Rattle.operands.specs.Patterns.{asks_patterns, patterns_by}

-- The leaves of a tree are the operands among its tokens, in text order.
abbrev pub LeavesAreOperands : Type 0
LeavesAreOperands = (ks : List Token) (t : Tree) → Level 0 ks t → leaves_of t ≡ operands_in ks

abbrev pub ParsedLeaves : Type 0
ParsedLeaves = (ks : List Token) (t : Tree) → parse_all ks ≡ ok t (length ks) → leaves_of t ≡ operands_in ks

-- The kinds and the places that the marks tell stand for the operands, and the sizes are theirs.
pub record Stands (s kinds starts : List ℕ) : Type 0 where
  pub kinds_are : operand_kinds (marks_of (tokens_in s kinds starts)) ≡ map kind_of (operands_in (tokens_in s kinds starts))
  pub places_are : tokens_in s (map kind_of (operands_in (tokens_in s kinds starts))) (operand_places (marks_of (tokens_in s kinds starts)) starts) ≡ operands_in (tokens_in s kinds starts)
  pub sizes_are : operand_sizes s (marks_of (tokens_in s kinds starts)) starts ≡ map pool_bytes (operands_in (tokens_in s kinds starts))
  pub as_many : length (operand_places (marks_of (tokens_in s kinds starts)) starts) ≡ length (operands_in (tokens_in s kinds starts))

abbrev pub OperandsStand : Type 0
OperandsStand = (s kinds starts : List ℕ) → Stands s kinds starts

-- Refusal 18 does not apply to a tree exactly if the pass over its tokens finds each pattern right.
abbrev pub PatternsByTokens : Type 0
PatternsByTokens =
    (s kinds starts : List ℕ) (t : Tree) → Level 0 (tokens_in s kinds starts) t
    → patterns_right t ≡ patterns_by s (marks_of (tokens_in s kinds starts)) starts

abbrev pub ParsedPatterns : Type 0
ParsedPatterns =
    (s kinds starts : List ℕ) (t : Tree) → parse_all (tokens_in s kinds starts) ≡ ok t (length (tokens_in s kinds starts))
    → patterns_right t ≡ patterns_by s (marks_of (tokens_in s kinds starts)) starts

-- Where no function is called that takes patterns, none is wrong.
abbrev pub NoneAsked : Type 0
NoneAsked = (s ms starts : List ℕ) → asks_patterns ms ≡ false → patterns_by s ms starts ≡ true

-- A called name is no parenthesis and no prefix operator, so that refusal 6 can be asked of the kinds and of the marks.
abbrev pub DeepAlike : Type 0
DeepAlike = (s kinds starts : List ℕ) → too_deep (marks_of (tokens_in s kinds starts)) ≡ too_deep kinds
