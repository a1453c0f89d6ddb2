-- The operator that a number of a group names: the group's last for every number that is not listed; and what an operator of a group is. Assumes nothing.
use mathlib.Core.Path.{◌≡◌, refl, sym, ap, ◌∙◌}
use mathlib.Core.Bool.{Bool, true, false, ◌||◌}
use mathlib.Core.List.{List, [], ◌∷◌}
use Prim.Native.Nat.{ℕ, ◌<◌}
use native.Mathlib.Decide.{dec_lt, ℕ_discrete}
use native.Mathlib.Omega.{arith}
use borrow.Author.Tests.{ne_eqb}
use lib.Dec.{eqb}
use lib.ListN.{length, get_or-eq_default}
use Rattle.common.proofs.Choice.{false_true}
use Rattle.opcode.specs.Opcode.{ops, op_of}
use Rattle.opcode.specs.Groups.{group_of, change_in, combine_in, is_not_equal, equality_by, order_in, test_in, many_in}
use Rattle.opcode.specs.declared.Arithmetic.{Arithmetic}
use Rattle.opcode.specs.declared.Order.{Order}
use Rattle.opcode.specs.declared.Load.{Load}
use Rattle.opcode.specs.declared.Change.{Change}
use Rattle.opcode.specs.declared.Test.{Test}
use Rattle.opcode.specs.declared.Unary.{Unary}
use Rattle.opcode.specs.declared.Combine.{Combine}
use Rattle.opcode.specs.declared.Compare.{Compare}
use Rattle.opcode.specs.declared.Connective.{Connective}
use Rattle.opcode.specs.declared.Binary.{Binary}
use Rattle.opcode.specs.declared.Fit.{Fit}
use Rattle.opcode.specs.declared.Many.{Many}
use Rattle.opcode.specs.declared.Skip.{Skip}
use Rattle.opcode.specs.declared.Op.{Op}
use Rattle.opcode.specs.declared.groups.Group.{Group}
use Rattle.opcode.proofs.Unknown.{Rest, among, all_below, below_but}

-- what is told of an operator is d for every number but some, if it is for those of the list and for an unknown operator
last_of : {A : Type 0} (f : Op → A) (d : A) (is : A → Bool) → ((x : A) → is x ≡ true → x ≡ d) → f Op.Unknown ≡ d
    → (ks : List ℕ) (n : ℕ) → all_below (λ m. among m ks || is (f (op_of m))) (length ops) ≡ true → Rest ks n → f (op_of n) ≡ d
last_of f d is sound u ks n e r = go (dec_lt n (length ops))
  where
    go : Dec (n < length ops) → f (op_of n) ≡ d
    go (yes h) = sound (f (op_of n)) (below_but (λ m. is (f (op_of m))) ks (length ops) n e r h)
    go (no h) = ap f (get_or-eq_default ops Op.Unknown {n = n} (omega arith)) ∙ u

abbrev is_complement : Change → Bool
is_complement Change.FoldCase = false
is_complement Change.Size = false
is_complement Change.Complement = true

complement_is : (o : Change) → is_complement o ≡ true → o ≡ Change.Complement
complement_is Change.FoldCase e = false_true e
complement_is Change.Size e = false_true e
complement_is Change.Complement e = refl

pub other_change : (n : ℕ) → Rest (7 ∷ 6 ∷ []) n → change_in (op_of n) ≡ Change.Complement
unfolding all_below among
other_change n r = last_of change_in Change.Complement is_complement complement_is refl (7 ∷ 6 ∷ []) n refl r

abbrev is_sub : Combine → Bool
is_sub (Combine.Shift s) = false
is_sub (Combine.Bitwise b) = false
is_sub (Combine.Arithmetic Arithmetic.Mul) = false
is_sub (Combine.Arithmetic Arithmetic.Div) = false
is_sub (Combine.Arithmetic Arithmetic.Rem) = false
is_sub (Combine.Arithmetic Arithmetic.Add) = false
is_sub (Combine.Arithmetic Arithmetic.Sub) = true

sub_is : (o : Combine) → is_sub o ≡ true → o ≡ Combine.Arithmetic Arithmetic.Sub
sub_is (Combine.Shift s) e = false_true e
sub_is (Combine.Bitwise b) e = false_true e
sub_is (Combine.Arithmetic Arithmetic.Mul) e = false_true e
sub_is (Combine.Arithmetic Arithmetic.Div) e = false_true e
sub_is (Combine.Arithmetic Arithmetic.Rem) e = false_true e
sub_is (Combine.Arithmetic Arithmetic.Add) e = false_true e
sub_is (Combine.Arithmetic Arithmetic.Sub) e = refl

pub other_combine : (n : ℕ) → Rest (25 ∷ 24 ∷ 23 ∷ 22 ∷ 21 ∷ 20 ∷ 19 ∷ 18 ∷ 17 ∷ 16 ∷ []) n → combine_in (op_of n) ≡ Combine.Arithmetic Arithmetic.Sub
unfolding all_below among
other_combine n r = last_of combine_in (Combine.Arithmetic Arithmetic.Sub) is_sub sub_is refl (25 ∷ 24 ∷ 23 ∷ 22 ∷ 21 ∷ 20 ∷ 19 ∷ 18 ∷ 17 ∷ 16 ∷ []) n refl r

abbrev is_greater_equal : Order → Bool
is_greater_equal Order.Less = false
is_greater_equal Order.LessEqual = false
is_greater_equal Order.Greater = false
is_greater_equal Order.GreaterEqual = true

greater_equal_is : (o : Order) → is_greater_equal o ≡ true → o ≡ Order.GreaterEqual
greater_equal_is Order.Less e = false_true e
greater_equal_is Order.LessEqual e = false_true e
greater_equal_is Order.Greater e = false_true e
greater_equal_is Order.GreaterEqual e = refl

pub other_order : (n : ℕ) → Rest (36 ∷ 35 ∷ 34 ∷ []) n → order_in (op_of n) ≡ Order.GreaterEqual
unfolding all_below among
other_order n r = last_of order_in Order.GreaterEqual is_greater_equal greater_equal_is refl (36 ∷ 35 ∷ 34 ∷ []) n refl r

abbrev is_require : Test → Bool
is_require Test.Int32 = false
is_require Test.Int64 = false
is_require Test.Real64 = false
is_require Test.Text = false
is_require Test.Opaque = false
is_require Test.Nan = false
is_require Test.Require = true

require_is : (o : Test) → is_require o ≡ true → o ≡ Test.Require
require_is Test.Int32 e = false_true e
require_is Test.Int64 e = false_true e
require_is Test.Real64 e = false_true e
require_is Test.Text e = false_true e
require_is Test.Opaque e = false_true e
require_is Test.Nan e = false_true e
require_is Test.Require e = refl

pub other_test : (n : ℕ) → Rest (53 ∷ 52 ∷ 51 ∷ 50 ∷ 49 ∷ 48 ∷ []) n → test_in (op_of n) ≡ Test.Require
unfolding all_below among
other_test n r = last_of test_in Test.Require is_require require_is refl (53 ∷ 52 ∷ 51 ∷ 50 ∷ 49 ∷ 48 ∷ []) n refl r

abbrev is_regex : Many → Bool
is_regex (Many.Fit Fit.BeginsWith) = false
is_regex (Many.Fit Fit.Contains) = false
is_regex (Many.Fit Fit.EndsWith) = false
is_regex (Many.Fit Fit.Wildcard) = false
is_regex (Many.Fit Fit.Regex) = true
is_regex Many.Equals = false

regex_is : (o : Many) → is_regex o ≡ true → o ≡ Many.Fit Fit.Regex
regex_is (Many.Fit Fit.BeginsWith) e = false_true e
regex_is (Many.Fit Fit.Contains) e = false_true e
regex_is (Many.Fit Fit.EndsWith) e = false_true e
regex_is (Many.Fit Fit.Wildcard) e = false_true e
regex_is (Many.Fit Fit.Regex) e = refl
regex_is Many.Equals e = false_true e

pub other_many : (n : ℕ) → Rest (60 ∷ 59 ∷ 58 ∷ 57 ∷ 56 ∷ []) n → many_in (op_of n) ≡ Many.Fit Fit.Regex
unfolding all_below among
other_many n r = last_of many_in (Many.Fit Fit.Regex) is_regex regex_is refl (60 ∷ 59 ∷ 58 ∷ 57 ∷ 56 ∷ []) n refl r

-- `!=` has the number 33 alone
abbrev is_not : Bool → Bool
is_not true = false
is_not false = true

not_is : (b : Bool) → is_not b ≡ true → b ≡ false
not_is true e = false_true e
not_is false e = refl

pub not_equal : (n : ℕ) → eqb n 33 ≡ is_not_equal (op_of n)
unfolding all_below among
not_equal n = go (ℕ_discrete n 33)
  where
    go : Dec (n ≡ 33) → eqb n 33 ≡ is_not_equal (op_of n)
    go (yes e) = rw e
    go (no e) = ne_eqb n 33 e ∙ sym (last_of is_not_equal false is_not not_is refl (33 ∷ []) n refl (tt, e))

-- ---- an operator by its group

-- the operator of a group that an operator is, where it is one of the group
abbrev pub op_by : Group → Op → Op
op_by Group.Int32 o = Op.Load Load.Int32
op_by Group.Int64 o = Op.Load Load.Int64
op_by Group.Real64 o = Op.Load Load.Real64
op_by Group.Text o = Op.Load Load.Text
op_by Group.Name o = Op.Load Load.Name
op_by Group.Change o = Op.Unary (Unary.Change (change_in o))
op_by Group.Combine o = Op.Binary (Binary.Combine (combine_in o))
op_by Group.Equality o = Op.Binary (Binary.Compare (equality_by (is_not_equal o)))
op_by Group.Order o = Op.Binary (Binary.Compare (Compare.Order (order_in o)))
op_by Group.Not o = Op.Unary Unary.Not
op_by Group.And o = Op.Binary (Binary.Connect Connective.And)
op_by Group.Xor o = Op.Binary (Binary.Connect Connective.Xor)
op_by Group.Or o = Op.Binary (Binary.Connect Connective.Or)
op_by Group.SkipIfFalse o = Op.Skip Skip.IfFalse
op_by Group.SkipIfTrue o = Op.Skip Skip.IfTrue
op_by Group.Test o = Op.Unary (Unary.Test (test_in o))
op_by Group.Many o = Op.Many (many_in o)
op_by Group.Unknown o = Op.Unknown

pub grouped : (o : Op) → o ≡ op_by (group_of o) o
grouped (Op.Load Load.Int32) = refl
grouped (Op.Load Load.Int64) = refl
grouped (Op.Load Load.Real64) = refl
grouped (Op.Load Load.Text) = refl
grouped (Op.Load Load.Name) = refl
grouped (Op.Unary Unary.Not) = refl
grouped (Op.Unary (Unary.Change c)) = refl
grouped (Op.Unary (Unary.Test c)) = refl
grouped (Op.Binary (Binary.Combine c)) = refl
grouped (Op.Binary (Binary.Compare Compare.Equal)) = refl
grouped (Op.Binary (Binary.Compare Compare.NotEqual)) = refl
grouped (Op.Binary (Binary.Compare (Compare.Order c))) = refl
grouped (Op.Binary (Binary.Connect Connective.And)) = refl
grouped (Op.Binary (Binary.Connect Connective.Xor)) = refl
grouped (Op.Binary (Binary.Connect Connective.Or)) = refl
grouped (Op.Many c) = refl
grouped (Op.Skip Skip.IfFalse) = refl
grouped (Op.Skip Skip.IfTrue) = refl
grouped Op.Unknown = refl
