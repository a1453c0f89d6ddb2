-- The laws of the groups, as specs/Laws.antt states them. Assumes nothing. What a new function owes, once:
-- one operand: its clause of `strict_unary` (Theorems); two: that bottom on either side makes it bottom, in `bottom_combine` or `bottom_compare` (Theorems); a connective: its clause of `connective_rises`;
-- several operands: its clause of `several_rise`, and nothing if it is a `Fit`, since `fit_rises` holds of every test of bytes.
use mathlib.Core.Path.{◌≡◌, refl, sym, ap, ◌∙◌}
use mathlib.Core.Logic.{◌⊎◌, inl, inr}
use mathlib.Core.Bool.{false, ◌&&◌}
use mathlib.Core.List.{List, [], ◌∷◌, map}
use mathlib.Core.Option.{Option, some, none}
use Rattle.truth.specs.declared.Truth.{Truth}
use Rattle.truth.specs.declared.Truth.TheVariants.{False, Bottom, True}
use Rattle.truth.specs.Truth.{not_of, and_of, xor_of, or_of}
use Rattle.opcode.specs.declared.Unary.{Unary}
use Rattle.opcode.specs.declared.Compare.{Compare}
use Rattle.opcode.specs.declared.Connective.{Connective}
use Rattle.opcode.specs.declared.Binary.{Binary}
use Rattle.opcode.specs.declared.Fit.{Fit}
use Rattle.opcode.specs.declared.Many.{Many}
use Rattle.notice.specs.Field.{Field}
use Rattle.notice.specs.Layout.{fields_of}
use Rattle.notice.specs.Lookup.{field_named}
use Rattle.notice.proofs.More.{found_still}
use Rattle.value.specs.Value.{Value, bottom, Item, logic, value, is_text, change_of, test_of, combine_of, compare_of, equal_values, all_texts, any_fit, any_equal, many_of, truth_in, value_in, named_value}
use Rattle.value.specs.Order.{TruthBelow, ValueBelow, ItemBelow, EachBelow}
use Rattle.value.specs.Laws.{LookupRises, OneRises, ConnectiveRises, TwoRises, ManyRises, NoneTells}
use Rattle.value.proofs.Order.{strict_one, strict_two, by_sides}
use Rattle.value.proofs.Theorems.{strict_unary, bottom_combine, and-false, bottom_compare, bottom_xor, value_named_lem}

-- what an item holds
pub truth_in_lem : (x y : Item) → ItemBelow x y → TruthBelow (truth_in x) (truth_in y)
truth_in_lem (logic s) (logic t) h = h
truth_in_lem (logic s) (value w) h = absurd h
truth_in_lem (value v) (logic t) h = absurd h
truth_in_lem (value v) (value w) h = inl refl

value_in_lem : (x y : Item) → ItemBelow x y → ValueBelow (value_in x) (value_in y)
value_in_lem (logic s) (logic t) h = inl refl
value_in_lem (logic s) (value w) h = absurd h
value_in_lem (value v) (logic t) h = absurd h
value_in_lem (value v) (value w) h = h

values_in : (xs ys : List Item) → EachBelow ItemBelow xs ys → EachBelow ValueBelow (map value_in xs) (map value_in ys)
values_in [] [] h = tt
values_in [] (y ∷ ys) h = absurd h
values_in (x ∷ xs) [] h = absurd h
values_in (x ∷ xs) (y ∷ ys) h = (value_in_lem x y h.0, values_in xs ys h.1)

-- ---- names

pub lookup_rises : LookupRises
lookup_rises first second m name = rw (value_named_lem first name, value_named_lem second name) (go (field_named name (fields_of first)) refl)
  where
    go : (o : Option Field) → field_named name (fields_of first) ≡ o → ValueBelow (named_value (field_named name (fields_of first))) (named_value (field_named name (fields_of second)))
    go none e = inl (ap named_value e)
    go (some f) e = inr (ap named_value e ∙ sym (ap named_value (found_still first second m name f e)))

-- ---- one operand

pub one_rises : OneRises
one_rises Unary.Not x x' h = strict_one not_of (ap truth_in (strict_unary Unary.Not)) (truth_in_lem x x' h)
one_rises (Unary.Change o) x x' h = strict_one (change_of o) (ap value_in (strict_unary (Unary.Change o))) (value_in_lem x x' h)
one_rises (Unary.Test o) x x' h = strict_one (test_of o) (ap truth_in (strict_unary (Unary.Test o))) (value_in_lem x x' h)

-- ---- connectives

and_left : (s t : Truth) → TruthBelow (and_of Bottom t) (and_of s t)
and_left s True = inl refl
and_left s Bottom = inl refl
and_left True False = inr refl
and_left Bottom False = inr refl
and_left False False = inr refl

and_right : (s t : Truth) → TruthBelow (and_of s Bottom) (and_of s t)
and_right True t = inl refl
and_right Bottom t = inl refl
and_right False True = inr refl
and_right False Bottom = inr refl
and_right False False = inr refl

or_left : (s t : Truth) → TruthBelow (or_of Bottom t) (or_of s t)
or_left s False = inl refl
or_left s Bottom = inl refl
or_left True True = inr refl
or_left Bottom True = inr refl
or_left False True = inr refl

or_right : (s t : Truth) → TruthBelow (or_of s Bottom) (or_of s t)
or_right False t = inl refl
or_right Bottom t = inl refl
or_right True True = inr refl
or_right True Bottom = inr refl
or_right True False = inr refl

pub connective_rises : ConnectiveRises
connective_rises Connective.And = by_sides and_of and_left and_right
connective_rises Connective.Xor = λ s s' t t' p q. strict_two xor_of bottom_xor p q
connective_rises Connective.Or = by_sides or_of or_left or_right

-- ---- two operands

pub two_rises : TwoRises
two_rises e (Binary.Combine o) x x' y y' p q = strict_two (combine_of e o) (bottom_combine e o) (value_in_lem x x' p) (value_in_lem y y' q)
two_rises e (Binary.Compare o) x x' y y' p q = strict_two (compare_of o) (bottom_compare o) (value_in_lem x x' p) (value_in_lem y y' q)
two_rises e (Binary.Connect o) x x' y y' p q = connective_rises o (truth_in x) (truth_in x') (truth_in y) (truth_in y') (truth_in_lem x x' p) (truth_in_lem y y' q)

-- ---- several operands

-- later operands that were not all known are not all strings
texts_known : (ws ws' : List Value) → EachBelow ValueBelow ws ws' → (all_texts ws ≡ false) ⊎ (ws ≡ ws')
texts_known [] [] h = inr refl
texts_known [] (w ∷ ws) h = absurd h
texts_known (w ∷ ws) [] h = absurd h
texts_known (w ∷ ws) (u ∷ us) h = go h.0 (texts_known ws us h.1)
  where
    go : ValueBelow w u → (all_texts ws ≡ false) ⊎ (ws ≡ us) → ((is_text w && all_texts ws) ≡ false) ⊎ (w ∷ ws ≡ u ∷ us)
    go (inl p) r = inl (rw p)
    go (inr p) (inl r) = inl (rw r (and-false (is_text w)))
    go (inr p) (inr r) = inr (cc)

-- whatever is asked of the bytes
fit_rises : (f : Fit) (v v' : Value) (ws ws' : List Value) → ValueBelow v v' → EachBelow ValueBelow ws ws' → TruthBelow (any_fit f v ws) (any_fit f v' ws')
fit_rises f v v' ws ws' (inl p) h = inl (rw p)
fit_rises f v v' ws ws' (inr p) h = go (texts_known ws ws' h)
  where
    go : (all_texts ws ≡ false) ⊎ (ws ≡ ws') → TruthBelow (any_fit f v ws) (any_fit f v' ws')
    go (inl e) = inl (rw (e, and-false (is_text v)))
    go (inr e) = inr (rw (p, e))

equals_rises : (v v' : Value) (ws ws' : List Value) → ValueBelow v v' → EachBelow ValueBelow ws ws' → TruthBelow (any_equal v ws) (any_equal v' ws')
equals_rises v v' [] [] p h = inr refl
equals_rises v v' [] (w ∷ ws) p h = absurd h
equals_rises v v' (w ∷ ws) [] p h = absurd h
equals_rises v v' (w ∷ ws) (u ∷ us) p h =
    connective_rises Connective.Or (equal_values v w) (equal_values v' u) (any_equal v ws) (any_equal v' us) (strict_two equal_values (bottom_compare Compare.Equal) p h.0) (equals_rises v v' ws us p h.1)

several_rise : (o : Many) (v v' : Value) (ws ws' : List Value) → ValueBelow v v' → EachBelow ValueBelow ws ws' → TruthBelow (many_of o v ws) (many_of o v' ws')
several_rise (Many.Fit f) = fit_rises f
several_rise Many.Equals = equals_rises

pub many_rises : ManyRises
many_rises o x x' ys ys' p h = several_rise o (value_in x) (value_in x') (map value_in ys) (map value_in ys') (value_in_lem x x' p) (values_in ys ys' h)

-- ---- none tells a missing field from one that is there

pub none_tells : NoneTells
none_tells f rises t known e v = go (f (value v)) (rw e at (rises (value bottom) (value v) (inl refl)))
  where
    go : (x : Item) → ItemBelow (logic t) x → x ≡ logic t
    go (logic s) (inl h) = absurd (known h)
    go (logic s) (inr h) = ap logic (sym h)
    go (value w) h = absurd h
