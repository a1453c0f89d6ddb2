-- The place of refusal 2: "the start of the first token after which the grammar allows no completion, limits aside, or the text's length".
use Rattle.std.specs.Prelude.{ℕ, ◌<◌, ◌≤◌, List, ◌++◌, length, take}
use Rattle.lexer.specs.Token.{Token}
use Rattle.grammar.specs.Tree.{Tree}
use Rattle.grammar.specs.Grammar.{Level}

-- these tokens and some more, of any number, are derived
abbrev pub Completes : List Token → Type 0
Completes xs = (ys : List Token) × (t : Tree) × Level 0 (xs ++ ys) t

-- p is the first token after which the grammar allows no completion, or the length: the tokens before it have one, those up to and including it have none, and the whole is not derived
pub record Breaks (ks : List Token) (p : ℕ) : Type 0 where
  pub within : p ≤ length ks
  pub before : (n : ℕ) → n ≤ p → Completes (take n ks)
  pub beyond : (n : ℕ) → p < n → n ≤ length ks → Completes (take n ks) → ⊥
  pub not_whole : (t : Tree) → Level 0 ks t → ⊥
