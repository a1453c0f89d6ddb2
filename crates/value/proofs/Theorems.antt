-- The theorems that specs/Theorems.antt states. Assumes nothing.
use Rattle.std.specs.Prelude.{Option as Optional, Some, None}
use mathlib.Core.Path.{◌≡◌, refl, sym, ap, ◌∙◌}
use mathlib.Core.Logic.{◌⊎◌, inl, inr}
use mathlib.Core.Bool.{Bool, true, false, cond, ◌&&◌, ◌||◌}
use mathlib.Core.List.{List, [], ◌∷◌, ◌++◌, map}
use mathlib.Core.Option.{Option, some, none}
use Prim.Native.Nat.{ℕ, suc, ◌+◌, ◌-◌, ◌*◌, ◌%◌, ◌^◌, ◌<◌}
use native.Mathlib.Nat.{mod-eq_of_lt, mul-add-mod_self_right}
use native.Mathlib.Omega.{arith}
use lib.Dec.{eqb}
use lib.IntN.{ℤ, pos, negsuc}
use lib.ListN.{take, drop}
use lib.Ieee.{is_nan}
use mir.Syntax.{w32, w64}
use mir.Val.{SFits, to_z, of_z}
use mir.ValLaws.{to_z-of_z, to_z_pos, to_z-neg}
use Rattle.truth.specs.declared.Truth.{Truth}
use Rattle.truth.specs.declared.Truth.TheVariants.{False, Bottom, True}
use Rattle.truth.specs.Truth.{or_of, xor_of, of_bool}
use Rattle.truth.proofs.Theorems.{false_and as false-and-t, true_or as true-or-t}
use Rattle.common.proofs.Choice.{true_false}
use Rattle.utf8.specs.Utf8.{HasCharacters, WellFormed, Counts}
use Rattle.utf8.specs.Scan.{count_of}
use Rattle.utf8.proofs.Theorems.{one_answer, right, counted_is}
use Rattle.opcode.specs.declared.Edition.{Edition}
use Rattle.opcode.specs.declared.Load.{Load}
use Rattle.opcode.specs.declared.Arithmetic.{Arithmetic}
use Rattle.opcode.specs.declared.Bitwise.{Bitwise}
use Rattle.opcode.specs.declared.Shift.{Shift}
use Rattle.opcode.specs.declared.Order.{Order}
use Rattle.opcode.specs.declared.Change.{Change}
use Rattle.opcode.specs.declared.Test.{Test}
use Rattle.opcode.specs.declared.Unary.{Unary}
use Rattle.opcode.specs.declared.Combine.{Combine}
use Rattle.opcode.specs.declared.Compare.{Compare}
use Rattle.opcode.specs.declared.Connective.{Connective}
use Rattle.opcode.specs.declared.Binary.{Binary}
use Rattle.opcode.specs.declared.Fit.{Fit}
use Rattle.opcode.specs.declared.Many.{Many}
use Rattle.number.specs.declared.Number.{Number}
use Rattle.number.specs.Number.{equal_of}
use Rattle.number.proofs.Theorems.{left_none, right_none, real_bits}
use Rattle.notice.specs.declared.FoundField.{FoundField}
use Rattle.notice.specs.Field.{Field}
use Rattle.notice.specs.Layout.{fields_of}
use Rattle.notice.specs.Lookup.{lookup_of, field_named, FoundIs}
use Rattle.notice.proofs.Theorems.{lookup}
use Rattle.value.specs.Value.{Value, bottom, opaque, Item, logic, value, is_bottom, connect_of, type_test, nan_of, test_of, number_of, value_of, type_of, is_text, text_in, size_by, equal_values, combine_numbers, combine_of, compare_of, fit_of, all_texts, any_fits, any_fit, any_equal, fit_values, truth_in, value_in, strict_or, tally_of, found_value, named_value, value_named, in_pool, int32, int64, real, text}
use Rattle.value.specs.Theorems.{UnaryKind, BinaryKind, ManyKind, LoadKind, ShiftsAlone, StrictUnary, StrictBinary, StrictMany, SizeCharacters, SizeBottom, SizeFolded, LaterNoText, EqualsTrue, FalseAnd, TrueOr, EqualOtherwise, Tally, Settled, KnownNot, KnownTest, KnownConnect, ValueNamed, LoadInt32, LoadInt64, LoadReal64, LoadText, LoadName}

pub unary_kind : UnaryKind
unary_kind Unary.Not x = refl
unary_kind (Unary.Change o) x = refl
unary_kind (Unary.Test o) x = refl

pub binary_kind : BinaryKind
binary_kind edition (Binary.Combine o) x y = refl
binary_kind edition (Binary.Compare o) x y = refl
binary_kind edition (Binary.Connect o) x y = refl

pub many_kind : ManyKind
many_kind o x ys = refl

pub load_kind : LoadKind
load_kind pool notice Load.Int32 a b = refl
load_kind pool notice Load.Int64 a b = refl
load_kind pool notice Load.Real64 a b = refl
load_kind pool notice Load.Text a b = refl
load_kind pool notice Load.Name a b = refl

pub shifts_alone : ShiftsAlone
shifts_alone (Binary.Combine (Combine.Shift o)) x y = inl (o, refl)
shifts_alone (Binary.Combine (Combine.Bitwise o)) x y = inr refl
shifts_alone (Binary.Combine (Combine.Arithmetic o)) x y = inr refl
shifts_alone (Binary.Compare o) x y = inr refl
shifts_alone (Binary.Connect o) x y = inr refl

pub strict_unary : StrictUnary
strict_unary Unary.Not = refl
strict_unary (Unary.Change Change.FoldCase) = refl
strict_unary (Unary.Change Change.Size) = refl
strict_unary (Unary.Change Change.Complement) = refl
strict_unary (Unary.Test Test.Int32) = refl
strict_unary (Unary.Test Test.Int64) = refl
strict_unary (Unary.Test Test.Real64) = refl
strict_unary (Unary.Test Test.Text) = refl
strict_unary (Unary.Test Test.Opaque) = refl
strict_unary (Unary.Test Test.Nan) = refl
strict_unary (Unary.Test Test.Require) = refl

-- numbers' own laws, one at a time
none_combine : (e : Edition) (o : Combine) (n : Number) → (combine_numbers e o Number.None n ≡ Number.None) × (combine_numbers e o n Number.None ≡ Number.None)
none_combine e (Combine.Shift o) n = ((left_none n Arithmetic.Add Bitwise.And e o Order.Less).2, (right_none n Arithmetic.Add Bitwise.And e o Order.Less).2)
none_combine e (Combine.Bitwise o) n = ((left_none n Arithmetic.Add o e Shift.Left Order.Less).1, (right_none n Arithmetic.Add o e Shift.Left Order.Less).1)
none_combine e (Combine.Arithmetic o) n = ((left_none n o Bitwise.And e Shift.Left Order.Less).0, (right_none n o Bitwise.And e Shift.Left Order.Less).0)

pub bottom_combine : (e : Edition) (o : Combine) (v : Value) → (combine_of e o bottom v ≡ bottom) × (combine_of e o v bottom ≡ bottom)
bottom_combine e o v = let n = none_combine e o (number_of v) in (ap value_of n.0, ap value_of n.1)

none_equal : (n : Number) → (equal_of Number.None n ≡ Bottom) × (equal_of n Number.None ≡ Bottom)
none_equal n = ((left_none n Arithmetic.Add Bitwise.And Edition.First Shift.Left Order.Less).3, (right_none n Arithmetic.Add Bitwise.And Edition.First Shift.Left Order.Less).3)

pub and-false : (t : Bool) → (t && false) ≡ false
and-false true = refl
and-false false = refl

bottom_equal : (v : Value) → (equal_values bottom v ≡ Bottom) × (equal_values v bottom ≡ Bottom)
bottom_equal v = ((none_equal (number_of v)).0, rw (and-false (is_text v)) (none_equal (number_of v)).1)

pub bottom_compare : (o : Compare) (v : Value) → (compare_of o bottom v ≡ Bottom) × (compare_of o v bottom ≡ Bottom)
bottom_compare Compare.Equal v = bottom_equal v
bottom_compare Compare.NotEqual v = (rw (bottom_equal v).0, rw (bottom_equal v).1)
bottom_compare (Compare.Order o) v =
    ((left_none (number_of v) Arithmetic.Add Bitwise.And Edition.First Shift.Left o).4, (right_none (number_of v) Arithmetic.Add Bitwise.And Edition.First Shift.Left o).4)

-- where either side is bottom, nothing else need be known
is_bottom_lem : (v : Value) → eqb (type_of v) 0 ≡ true → v ≡ bottom
is_bottom_lem bottom e = refl
is_bottom_lem (int32 z) e = true_false (sym e)
is_bottom_lem (int64 z) e = true_false (sym e)
is_bottom_lem (real x) e = true_false (sym e)
is_bottom_lem (text s) e = true_false (sym e)
is_bottom_lem (opaque s) e = true_false (sym e)

which_bottom : (v w : Value) → (eqb (type_of v) 0 || eqb (type_of w) 0) ≡ true → (v ≡ bottom) ⊎ (w ≡ bottom)
which_bottom bottom w e = inl refl
which_bottom (int32 z) w e = inr (is_bottom_lem w e)
which_bottom (int64 z) w e = inr (is_bottom_lem w e)
which_bottom (real x) w e = inr (is_bottom_lem w e)
which_bottom (text s) w e = inr (is_bottom_lem w e)
which_bottom (opaque s) w e = inr (is_bottom_lem w e)

pub compare_bottom : (o : Compare) (v w : Value) → (eqb (type_of v) 0 || eqb (type_of w) 0) ≡ true → Bottom ≡ compare_of o v w
compare_bottom o v w e = go (which_bottom v w e)
  where
    go : (v ≡ bottom) ⊎ (w ≡ bottom) → Bottom ≡ compare_of o v w
    go (inl m) = rw m (sym (bottom_compare o w).0)
    go (inr m) = rw m (sym (bottom_compare o v).1)

pub combine_bottom : (edition : Edition) (o : Combine) (v w : Value) → (eqb (type_of v) 0 || eqb (type_of w) 0) ≡ true → bottom ≡ combine_of edition o v w
combine_bottom edition o v w e = go (which_bottom v w e)
  where
    go : (v ≡ bottom) ⊎ (w ≡ bottom) → bottom ≡ combine_of edition o v w
    go (inl m) = rw m (sym (bottom_combine edition o w).0)
    go (inr m) = rw m (sym (bottom_combine edition o v).1)

pub bottom_xor : (t : Truth) → (xor_of Bottom t ≡ Bottom) × (xor_of t Bottom ≡ Bottom)
bottom_xor True = (refl, refl)
bottom_xor Bottom = (refl, refl)
bottom_xor False = (refl, refl)

pub strict_binary : StrictBinary
strict_binary edition (Binary.Combine o) x e = let c = bottom_combine edition o (value_in x) in (ap value c.0, ap value c.1)
strict_binary edition (Binary.Compare o) x e = let c = bottom_compare o (value_in x) in (ap logic c.0, ap logic c.1)
strict_binary edition (Binary.Connect Connective.And) x e = true_false (sym e)
strict_binary edition (Binary.Connect Connective.Xor) x e = let c = bottom_xor (truth_in x) in (ap logic c.0, ap logic c.1)
strict_binary edition (Binary.Connect Connective.Or) x e = true_false (sym e)

bottom_or : (t : Truth) → (t ≡ False) ⊎ (t ≡ Bottom) → or_of Bottom t ≡ Bottom
bottom_or t (inl e) = rw e
bottom_or t (inr e) = rw e

bottom_any : (ws : List Value) → (any_equal bottom ws ≡ False) ⊎ (any_equal bottom ws ≡ Bottom)
bottom_any [] = inl refl
bottom_any (w ∷ ws) = inr (rw (bottom_equal w).0 (bottom_or (any_equal bottom ws) (bottom_any ws)))

pub strict_many : StrictMany
strict_many (Many.Fit f) y ys = refl
strict_many Many.Equals y ys = ap logic (rw (bottom_equal (value_in y)).0 (bottom_or (any_equal bottom (map value_in ys)) (bottom_any (map value_in ys))))

-- `size` of a string, from any right count of it
module _ (s : List ℕ) where
  counted : (n : ℕ) (r : Optional ℕ) → Counts s r → size_by r ≡ int32 (pos n) → HasCharacters s n
  counted n (Some m) h e = let z : m ≡ n = cc in rw z at h
  counted n None h e = absurd (omega (arith, ap type_of e))

  uncounted : (r : Optional ℕ) → Counts s r → size_by r ≡ bottom → WellFormed s → ⊥
  uncounted (Some m) h e = absurd (omega (arith, ap type_of e))
  uncounted None h e = h

pub size_characters : SizeCharacters
size_characters s n = (counted s n (count_of s) (right s), λ h. ap size_by (one_answer s (count_of s) (Some n) (right s) h))

pub size_bottom : SizeBottom
size_bottom s = (uncounted s (count_of s) (right s), λ h. ap size_by (one_answer s (count_of s) None (right s) h))

pub size_folded : SizeFolded
size_folded s = ap size_by (sym (counted_is true s (count_of s) (right s)))

no_text : (y : Item) (ys zs : List Item) → is_text (value_in y) ≡ false → all_texts (map value_in (ys ++ (y ∷ zs))) ≡ false
no_text y [] zs e = rw e
no_text y (x ∷ xs) zs e = rw (no_text y xs zs e) (and-false (is_text (value_in x)))

pub later_no_text : LaterNoText
later_no_text f x y ys zs e = rw (no_text y ys zs e, and-false (is_text (value_in x)))

or-true : (t : Truth) → (or_of True t ≡ True) × (or_of t True ≡ True)
or-true True = (refl, refl)
or-true Bottom = (refl, refl)
or-true False = (refl, refl)

some_equal : (x y : Item) (ys zs : List Item) → equal_values (value_in x) (value_in y) ≡ True → any_equal (value_in x) (map value_in (ys ++ (y ∷ zs))) ≡ True
some_equal x y [] zs e = rw e (or-true (any_equal (value_in x) (map value_in zs))).0
some_equal x y (w ∷ ws) zs e = rw (some_equal x y ws zs e) (or-true (equal_values (value_in x) (value_in w))).1

pub equals_true : EqualsTrue
equals_true x y ys zs e = ap logic (some_equal x y ys zs e)

pub false_and : FalseAnd
false_and edition (logic t) y e = ap logic (false-and-t t (truth_in y) e)
false_and edition (value v) y e = true_false (sym e)

pub true_or : TrueOr
true_or edition (logic t) y e = ap logic (true-or-t t (truth_in y) e)
true_or edition (value v) y e = true_false (sym e)

pub equal_otherwise : EqualOtherwise
equal_otherwise v w e (inl n) = rw (e, n) (none_equal (number_of w)).0
equal_otherwise v w e (inr n) = rw (e, n) (none_equal (number_of v)).1

-- one later operand after the other
or-false : (t : Truth) → (or_of t False ≡ t) × (or_of False t ≡ t)
or-false True = (refl, refl)
or-false Bottom = (refl, refl)
or-false False = (refl, refl)

or_assoc : (r s t : Truth) → or_of (or_of r s) t ≡ or_of r (or_of s t)
or_assoc True s t = rw ((or-true s).0, (or-true t).0, (or-true (or_of s t)).0)
or_assoc False s t = rw ((or-false s).1, (or-false (or_of s t)).1)
or_assoc Bottom True t = rw (or-true t).0
or_assoc Bottom False t = rw (or-false t).1
or_assoc Bottom Bottom True = refl
or_assoc Bottom Bottom Bottom = refl
or_assoc Bottom Bottom False = refl

equals_from : (x : Item) (known : Truth) (ys : List Item) → tally_of Many.Equals x known ys ≡ or_of known (any_equal (value_in x) (map value_in ys))
equals_from x known [] = sym (or-false known).0
equals_from x known (y ∷ ys) =
    equals_from x (or_of known (equal_values (value_in x) (value_in y))) ys
    ∙ or_assoc known (equal_values (value_in x) (value_in y)) (any_equal (value_in x) (map value_in ys))

strict_assoc : (r s t : Truth) → strict_or (strict_or r s) t ≡ strict_or r (strict_or s t)
strict_assoc Bottom s t = refl
strict_assoc False s t = refl
strict_assoc True Bottom t = refl
strict_assoc True False Bottom = refl
strict_assoc True False False = refl
strict_assoc True False True = refl
strict_assoc True True Bottom = refl
strict_assoc True True False = refl
strict_assoc True True True = refl

strict_false : (t : Truth) → strict_or t False ≡ t
strict_false Bottom = refl
strict_false False = refl
strict_false True = refl

strict_bottom : (t : Truth) → strict_or t Bottom ≡ Bottom
strict_bottom Bottom = refl
strict_bottom False = refl
strict_bottom True = refl

strict_known : (a b : Bool) → strict_or (of_bool a) (of_bool b) ≡ of_bool (a || b)
strict_known true true = refl
strict_known true false = refl
strict_known false b = refl

module _ (f : Fit) (v : Value) (e : is_text v ≡ true) where
  one_more : (w : Value) (ws : List Value) → strict_or (fit_values f v w) (any_fit f v ws) ≡ any_fit f v (w ∷ ws)
  one_more w ws = rw e (by (is_text w) (all_texts ws) (fit_of f (text_in v) (text_in w)) (any_fits f (text_in v) ws))
    where
      by : (s t a b : Bool) → strict_or (cond s (of_bool a) Bottom) (cond t (of_bool b) Bottom) ≡ cond (s && t) (of_bool (a || b)) Bottom
      by true true a b = strict_known a b
      by true false a b = strict_bottom (of_bool a)
      by false t a b = refl

fits_from : (f : Fit) (x : Item) (known : Truth) → is_text (value_in x) ≡ true → (ys : List Item)
    → tally_of (Many.Fit f) x known ys ≡ strict_or known (any_fit f (value_in x) (map value_in ys))
fits_from f x known e [] = rw e (sym (strict_false known))
fits_from f x known e (y ∷ ys) =
    fits_from f x (strict_or known (fit_values f (value_in x) (value_in y))) e ys
    ∙ strict_assoc known (fit_values f (value_in x) (value_in y)) (any_fit f (value_in x) (map value_in ys))
    ∙ ap (strict_or known) (one_more f (value_in x) e (value_in y) (map value_in ys))

stays_bottom : (f : Fit) (x : Item) (ys : List Item) → tally_of (Many.Fit f) x Bottom ys ≡ Bottom
stays_bottom f x [] = refl
stays_bottom f x (y ∷ ys) = stays_bottom f x ys

fits_by : (f : Fit) (x : Item) (ys : List Item) (b : Bool) → is_text (value_in x) ≡ b
    → tally_of (Many.Fit f) x (cond (is_text (value_in x)) False Bottom) ys ≡ any_fit f (value_in x) (map value_in ys)
fits_by f x ys true e = ap (λ (t : Bool). tally_of (Many.Fit f) x (cond t False Bottom) ys) e ∙ fits_from f x False e ys
fits_by f x ys false e = ap (λ (t : Bool). tally_of (Many.Fit f) x (cond t False Bottom) ys) e ∙ stays_bottom f x ys ∙ rw e

pub tally : Tally
tally (Many.Fit f) x ys = ap logic (fits_by f x ys (is_text (value_in x)) refl)
tally Many.Equals x ys = ap logic (equals_from x False ys ∙ (or-false (any_equal (value_in x) (map value_in ys))).1)

-- an equal value stays
stays_true : (x : Item) (ys : List Item) → tally_of Many.Equals x True ys ≡ True
stays_true x [] = refl
stays_true x (y ∷ ys) = ap (λ (t : Truth). tally_of Many.Equals x t ys) (true-or-t True (equal_values (value_in x) (value_in y)) refl) ∙ stays_true x ys

pub settled : Settled
settled (Many.Fit f) x False ys e = true_false e
settled (Many.Fit f) x Bottom ys e = stays_bottom f x ys
settled (Many.Fit f) x True ys e = true_false e
settled Many.Equals x False ys e = true_false e
settled Many.Equals x Bottom ys e = true_false e
settled Many.Equals x True ys e = stays_true x ys

-- what is known stays known under `!`, a type test and `&& ^^ ||`
pub known_not : KnownNot
known_not (logic True) k e = refl
known_not (logic Bottom) k e = true_false e
known_not (logic False) k e = refl
known_not (value v) k e = cc

of_bool_known : (b : Bool) → is_bottom (logic (of_bool b)) ≡ false
of_bool_known true = refl
of_bool_known false = refl

type_known : (n : ℕ) (v : Value) → eqb (type_of v) 0 ≡ false → is_bottom (logic (type_test n v)) ≡ false
type_known n v e = rw e (of_bool_known (eqb (type_of v) n))

nan_known : (v : Value) → eqb (type_of v) 0 ≡ false → is_bottom (logic (nan_of v)) ≡ false
nan_known bottom e = true_false e
nan_known (int32 z) e = refl
nan_known (int64 z) e = refl
nan_known (real x) e = of_bool_known (is_nan x)
nan_known (text s) e = refl
nan_known (opaque s) e = refl

test_known : (o : Test) (v : Value) → eqb (type_of v) 0 ≡ false → is_bottom (logic (test_of o v)) ≡ false
test_known Test.Int32 v e = type_known 1 v e
test_known Test.Int64 v e = type_known 2 v e
test_known Test.Real64 v e = type_known 3 v e
test_known Test.Text v e = type_known 4 v e
test_known Test.Opaque v e = type_known 5 v e
test_known Test.Nan v e = nan_known v e
test_known Test.Require v e = rw e refl

pub known_test : KnownTest
known_test o (logic t) k e = cc
known_test o (value v) k e = test_known o v e

connect_known : (o : Connective) (s t : Truth) → is_bottom (logic s) ≡ false → is_bottom (logic t) ≡ false → is_bottom (logic (connect_of o s t)) ≡ false
connect_known Connective.And True True d e = refl
connect_known Connective.And True Bottom d e = true_false e
connect_known Connective.And True False d e = refl
connect_known Connective.And Bottom t d e = true_false d
connect_known Connective.And False True d e = refl
connect_known Connective.And False Bottom d e = true_false e
connect_known Connective.And False False d e = refl
connect_known Connective.Xor True True d e = refl
connect_known Connective.Xor True Bottom d e = true_false e
connect_known Connective.Xor True False d e = refl
connect_known Connective.Xor Bottom t d e = true_false d
connect_known Connective.Xor False True d e = refl
connect_known Connective.Xor False Bottom d e = true_false e
connect_known Connective.Xor False False d e = refl
connect_known Connective.Or True True d e = refl
connect_known Connective.Or True Bottom d e = true_false e
connect_known Connective.Or True False d e = refl
connect_known Connective.Or Bottom t d e = true_false d
connect_known Connective.Or False True d e = refl
connect_known Connective.Or False Bottom d e = true_false e
connect_known Connective.Or False False d e = refl

pub known_connect : KnownConnect
known_connect e o (logic s) (logic t) j k c d = connect_known o s t c d
known_connect e o (logic s) (value w) j k c d = cc
known_connect e o (value v) y j k c d = cc

-- names and loads
found : (s : List ℕ) (r : Optional FoundField) (o : Option Field) → FoundIs s r o → found_value s r ≡ named_value o
found s None none h = refl
found s None (some f) h = absurd h
found s (Some r) none h = absurd h
found s (Some r) (some f) h = rw (h.0, h.2)

pub value_named_lem : ValueNamed
value_named_lem notice name = found notice (lookup_of notice name) (field_named name (fields_of notice)) (lookup notice name)

low_half : (z : ℤ) → SFits w32 z → to_z w32 (of_z w64 z % 2 ^ 32) ≡ z
low_half (pos n) f = let h = f.sfits in let e : n % 2 ^ 32 ≡ n = mod-eq_of_lt (omega arith) in ap (to_z w32) e ∙ to_z_pos w32 n h
low_half (negsuc n) f =
    let h = f.sfits in
    let l : 2 ^ 64 - suc n ≡ (2 ^ 32 - 1) * 2 ^ 32 + (2 ^ 32 - suc n) = omega arith in
    let e : (2 ^ 64 - suc n) % 2 ^ 32 ≡ 2 ^ 32 - suc n =
    ap (λ (m : ℕ). m % 2 ^ 32) l ∙ mul-add-mod_self_right (2 ^ 32 - 1) (2 ^ 32) (2 ^ 32 - suc n) ∙ mod-eq_of_lt (omega arith) in
    ap (to_z w32) e ∙ to_z-neg w32 n h

pub load_int32 : LoadInt32
load_int32 pool notice a z f = ap (λ (n : ℤ). value (int32 n)) (low_half z f)

pub load_int64 : LoadInt64
load_int64 pool notice a z f = ap (λ (n : ℤ). value (int64 n)) (to_z-of_z w64 z f)

pub load_real64 : LoadReal64
load_real64 pool notice a x f = ap (λ y. value (real y)) (real_bits x f)

at_offset : (pool : List ℕ) (a b : ℕ) → b < 2 ^ 16 → in_pool pool a b ≡ take a (drop b pool)
at_offset pool a b h = ap (λ (n : ℕ). take a (drop n pool)) (mod-eq_of_lt h)

pub load_text : LoadText
load_text pool notice a b h = ap (λ (s : List ℕ). value (text s)) (at_offset pool a b h)

pub load_name : LoadName
load_name pool notice a b h = ap (λ (s : List ℕ). value (value_named notice s)) (at_offset pool a b h)
