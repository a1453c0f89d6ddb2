-- Which tokens some marks stand for.
use Rattle.std.specs.Prelude.{ℕ, ◌<◌, ◌≡◌, List}
use Rattle.lexer.specs.Token.{Token}
use Rattle.grammar.specs.Parse.{kind_at}
use Rattle.grammar.specs.Marks.{calling, marks_of}

-- They are the marks of the tokens, and no kind of a token is as large as the mark of a call.
pub record Marked (marks : List ℕ) (ks : List Token) : Type 0 where
  pub are : marks ≡ marks_of ks
  pub low : (i : ℕ) → kind_at ks i < calling
