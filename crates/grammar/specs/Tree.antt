-- Trees of expressions, with all that later passes ask: literals with their values, names without escapes, the called name with the mark whether it had escapes (all in its token), and a node
-- for parentheses of one's own.
use Rattle.std.specs.Prelude.{ℕ}
use Rattle.lexer.specs.Token.{Token}

mutual
  pub data Tree : Type 0 where
    -- a literal or a name
    leaf : Token → Tree
    -- a parenthesised expression
    group : Tree → Tree
    -- a prefix operator and a binary operator, by their kind numbers
    unary : ℕ → Tree → Tree
    binary : ℕ → Tree → Tree → Tree
    -- a call: its name and its arguments
    call : Token → Trees → Tree

  pub data Trees : Type 0 where
    none : Trees
    ◌then◌ : Trees → Tree → Trees
