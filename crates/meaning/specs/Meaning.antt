-- The meaning of an expression on a notice: every part is worked out and nothing is skipped. Document 01, "Meaning"; the operators are those of crate `value`.
-- The notice is seen through one function, lookup by name. Document 02, request 9: "demands 2 and 3 read that edition".
use Rattle.std.specs.Prelude.{ℕ, List, [], ◌∷◌, ◌++◌, map}
use Rattle.std.proofs.Math.Option.{Option, some}
use Rattle.truth.specs.declared.Truth.{Truth}
use Rattle.truth.specs.declared.Truth.TheVariants.{Bottom}
use Rattle.opcode.specs.Opcode.{op_of}
use Rattle.opcode.specs.declared.Edition.{Edition}
use Rattle.opcode.specs.declared.Op.{Op}
use Rattle.lexer.specs.Token.{Token, name, int32, int64, real, text, symbol, Placed, Lexed, tokens, refused, tokens_of}
use Rattle.grammar.specs.Tree.{Tree, leaf, group, unary, binary, call, Trees, none, ◌then◌}
use Rattle.grammar.specs.Function.{function_of}
use Rattle.grammar.specs.Parse.{Result, ok, bad, parse_all}
use Rattle.value.specs.Value as value

-- a literal is its value, a name the field's value: "A missing name is bottom"
abbrev pub leaf_item : (List ℕ → value.Value) → Token → value.Item
leaf_item field (name s escaped) = value.value (field s)
leaf_item field (int32 z) = value.value (value.int32 z)
leaf_item field (int64 z) = value.value (value.int64 z)
leaf_item field (real x) = value.value (value.real x)
leaf_item field (text s) = value.value (value.text s)
leaf_item field (symbol k) = value.logic Bottom

-- an operator or a function by its op, on the items of its operands in their order; anything else is bottom
abbrev pub by_unary : Op → value.Item → value.Item
by_unary (Op.Load l) x = value.logic Bottom
by_unary (Op.Unary u) x = value.unary_of u x
by_unary (Op.Binary b) x = value.logic Bottom
by_unary (Op.Many m) x = value.logic Bottom
by_unary (Op.Skip s) x = value.logic Bottom
by_unary Op.Unknown x = value.logic Bottom

abbrev pub by_binary : Edition → Op → value.Item → value.Item → value.Item
by_binary e (Op.Load l) x y = value.logic Bottom
by_binary e (Op.Unary u) x y = value.logic Bottom
by_binary e (Op.Binary b) x y = value.binary_of e b x y
by_binary e (Op.Many m) x y = value.logic Bottom
by_binary e (Op.Skip s) x y = value.logic Bottom
by_binary e Op.Unknown x y = value.logic Bottom

abbrev pub by_call : Op → List value.Item → value.Item
by_call op [] = value.logic Bottom
by_call (Op.Load l) (x ∷ ys) = value.logic Bottom
by_call (Op.Unary u) (x ∷ ys) = value.unary_of u x
by_call (Op.Binary b) (x ∷ ys) = value.logic Bottom
by_call (Op.Many m) (x ∷ ys) = value.many_items m x ys
by_call (Op.Skip s) (x ∷ ys) = value.logic Bottom
by_call Op.Unknown (x ∷ ys) = value.logic Bottom

-- what a tree is in an edition, where `field` gives the value of a name
unfoldable mutual
  pub item_of : Edition → (List ℕ → value.Value) → Tree → value.Item
  item_of e field (leaf x) = leaf_item field x
  item_of e field (group t) = item_of e field t
  item_of e field (unary k t) = by_unary (op_of k) (item_of e field t)
  item_of e field (binary k t u) = by_binary e (op_of k) (item_of e field t) (item_of e field u)
  item_of e field (call x ts) = by_call (op_of (function_of x)) (items_of e field ts)

  -- the arguments in their order
  pub items_of : Edition → (List ℕ → value.Value) → Trees → List value.Item
  items_of e field none = []
  items_of e field (◌then◌ ts t) = items_of e field ts ++ (item_of e field t ∷ [])

-- the verdict of an expression on a notice
abbrev pub meaning : Edition → Tree → List ℕ → Truth
meaning e t notice = value.truth_in (item_of e (value.value_named notice) t)

-- the meaning of a text on a notice, from its bytes: tokens, tree, meaning; none where they are no expression
abbrev pub of_parsed : Edition → Result → List ℕ → Option Truth
of_parsed e (ok t n) notice = some (meaning e t notice)
of_parsed e (bad p) notice = Option.none

abbrev pub of_lexed : Edition → Lexed → List ℕ → Option Truth
of_lexed e (tokens ps) notice = of_parsed e (parse_all (map (λ p. p.token) ps)) notice
of_lexed e (refused k place ps) notice = Option.none

abbrev pub text_meaning : Edition → List ℕ → List ℕ → Option Truth
text_meaning e s notice = of_lexed e (tokens_of s) notice
