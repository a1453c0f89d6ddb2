-- The theorems that specs/Rises.antt states: the induction has no case for an operator, but one for each group of them, by its law (crate `value`, Laws). Assumes nothing.
use Prim.Native.Nat.{ℕ}
use mathlib.Core.Path.{refl}
use mathlib.Core.Logic.{inl, inr}
use mathlib.Core.List.{List, [], ◌∷◌}
use Rattle.opcode.specs.Opcode.{op_of}
use Rattle.opcode.specs.declared.Edition.{Edition}
use Rattle.opcode.specs.declared.Op.{Op}
use Rattle.lexer.specs.Token.{Token, name, int32, int64, real, text, symbol}
use Rattle.grammar.specs.Tree.{Tree, leaf, group, unary, binary, call, Trees, none, ◌then◌}
use Rattle.grammar.specs.Function.{function_of}
use Rattle.value.specs.Value as value
use Rattle.value.specs.Order.{ValueBelow, ItemBelow, EachBelow}
use Rattle.value.proofs.Order.{each_more}
use Rattle.value.proofs.Laws.{truth_in_lem, lookup_rises, one_rises, two_rises, many_rises}
use Rattle.meaning.specs.Meaning.{leaf_item, by_unary, by_binary, by_call, item_of, items_of}
use Rattle.meaning.specs.Rises.{TreeRises, MeaningRises}

-- by op: what is no operator is bottom whatever its operands are
unary_rises : (op : Op) (x x' : value.Item) → ItemBelow x x' → ItemBelow (by_unary op x) (by_unary op x')
unary_rises (Op.Load l) x x' h = inl refl
unary_rises (Op.Unary u) x x' h = one_rises u x x' h
unary_rises (Op.Binary b) x x' h = inl refl
unary_rises (Op.Many m) x x' h = inl refl
unary_rises (Op.Skip s) x x' h = inl refl
unary_rises Op.Unknown x x' h = inl refl

binary_rises : (e : Edition) (op : Op) (x x' y y' : value.Item) → ItemBelow x x' → ItemBelow y y' → ItemBelow (by_binary e op x y) (by_binary e op x' y')
binary_rises e (Op.Load l) x x' y y' p q = inl refl
binary_rises e (Op.Unary u) x x' y y' p q = inl refl
binary_rises e (Op.Binary b) x x' y y' p q = two_rises e b x x' y y' p q
binary_rises e (Op.Many m) x x' y y' p q = inl refl
binary_rises e (Op.Skip s) x x' y y' p q = inl refl
binary_rises e Op.Unknown x x' y y' p q = inl refl

call_rises : (op : Op) (xs xs' : List value.Item) → EachBelow ItemBelow xs xs' → ItemBelow (by_call op xs) (by_call op xs')
call_rises op [] [] h = inl refl
call_rises op [] (y ∷ ys) h = absurd h
call_rises op (x ∷ xs) [] h = absurd h
call_rises (Op.Load l) (x ∷ xs) (y ∷ ys) h = inl refl
call_rises (Op.Unary u) (x ∷ xs) (y ∷ ys) h = one_rises u x y h.0
call_rises (Op.Binary b) (x ∷ xs) (y ∷ ys) h = inl refl
call_rises (Op.Many m) (x ∷ xs) (y ∷ ys) h = many_rises m x y xs ys h.0 h.1
call_rises (Op.Skip s) (x ∷ xs) (y ∷ ys) h = inl refl
call_rises Op.Unknown (x ∷ xs) (y ∷ ys) h = inl refl

module _ (e : Edition) (field more : List ℕ → value.Value) (rises : (s : List ℕ) → ValueBelow (field s) (more s)) where
  leaf_rises : (x : Token) → ItemBelow (leaf_item field x) (leaf_item more x)
  leaf_rises (name s escaped) = rises s
  leaf_rises (int32 z) = inr refl
  leaf_rises (int64 z) = inr refl
  leaf_rises (real x) = inr refl
  leaf_rises (text s) = inr refl
  leaf_rises (symbol k) = inl refl

  mutual
    unfolding item_of

    item_rises : (t : Tree) → ItemBelow (item_of e field t) (item_of e more t)
    item_rises (leaf x) = leaf_rises x
    item_rises (group t) = item_rises t
    item_rises (unary k t) = unary_rises (op_of k) (item_of e field t) (item_of e more t) (item_rises t)
    item_rises (binary k t u) =
        binary_rises e (op_of k) (item_of e field t) (item_of e more t) (item_of e field u) (item_of e more u) (item_rises t) (item_rises u)
    item_rises (call x ts) = call_rises (op_of (function_of x)) (items_of e field ts) (items_of e more ts) (items_rise ts)

    items_rise : (ts : Trees) → EachBelow ItemBelow (items_of e field ts) (items_of e more ts)
    items_rise none = tt
    items_rise (◌then◌ ts t) = each_more ItemBelow (items_of e field ts) (items_of e more ts) (item_of e field t) (item_of e more t) (items_rise ts) (item_rises t)

pub tree_rises : TreeRises
tree_rises = item_rises

pub meaning_rises : MeaningRises
meaning_rises e first second m t =
    let field = value.value_named first in
    let more = value.value_named second in
    truth_in_lem (item_of e field t) (item_of e more t) (tree_rises e field more (lookup_rises first second m) t)
