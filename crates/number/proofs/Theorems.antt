-- The theorems that specs/Theorems.antt states. Assumes nothing.
use Rattle.std.proofs.Common.{◌≡◌, ℕ, zero, suc, ◌+◌, ◌-◌, ◌*◌, ◌/◌, ◌%◌, ◌^◌, ◌<◌, Bool, true, false, cond, ◌&&◌, ◌⊎◌, ℤ, pos, negsuc, ◌+ℤ◌, ◌-ℤ◌, ◌*ℤ◌, neg_ℤ, nat_abs, sym, refl, ap, ◌∙◌, ap₂, None as Nothing, inl, inr, mod-lt, mod-eq_of_lt, suc-mul, mul-zero, div-add-mod', zero-mul, arith, to_z, ltb-true, le-ltb, lt-ltb}
use lib.IntN.{neg_ℤ-+ℤ, pos-+ℤ-pos}
use lib.Signed.{quot_z, rem_z}
use lib.Ieee.{Float, nan, inf, fin, binary64, of_int, to_bits, unlike, eq, lt, le}
use lib.Ieee.Bits.{of_bits-to_bits, to_bits-of_bits, to_bits-lt}
use lib.Ieee.Back.{round_whole}
use mir.Val.{bits}
use mir.ValLaws.{half_full, to_z_pos, to_z-neg}
use Rattle.common.proofs.Choice.{true_false}
use Rattle.truth.specs.Truth.{of_bool}
use Rattle.number.specs.declared.Number.{Number}
use Rattle.number.specs.declared.Number.TheVariants.{Int32, Int64, Real, None}
use Rattle.opcode.specs.declared.Edition.{Edition}
use Rattle.opcode.specs.declared.Order.{Order}
use Rattle.opcode.specs.declared.Order.TheVariants.{Less, LessEqual, Greater, GreaterEqual}
use Rattle.nearest.specs.Nearest.{is_negative, signed_of}
use Rattle.mixed.specs.Mixed.{order_real}
use Rattle.mixed.proofs.Theorems.{integers}
use Rattle.number.specs.Number.{is_integer, is_real, is_number, value_of, divides, zero_divisor, in_arithmetic, remainder, count_in, shift_of}
use Rattle.number.specs.Theorems.{QuotientRemainder, Ends, Complement, LeftNone, RightNone, Remainder, MinusOne, CountsAgree, ZeroDivisor, NegativeZero, MixedExact, IntegersCompared, Odometer, NanFalse, ZerosEqual, WholesExact, PowersExact, RealBits, BitsReal, NanBits, BitsBounded}
use Rattle.number.proofs.Literals.{and_no}
use Rattle.number.proofs.Tens.{powers_hold}

-- a remainder by a width lies below it
remainder_below : (width : ℕ) (z : ℤ) → 0 < width → remainder width z < width
remainder_below width (pos n) h = mod-lt n h
remainder_below width (negsuc n) h = let l : n % width < width = mod-lt n h in omega arith

-- by sign and magnitude
product_of : (s t : Bool) (m n : ℕ) → signed_of s m *ℤ signed_of t n ≡ signed_of (unlike s t) (m * n)
product_of false false m n = refl
product_of false true m zero = rw mul-zero
product_of false true m (suc n) = refl
product_of true false zero n = rw zero-mul
product_of true false (suc m) n = refl
product_of true true zero zero = refl
product_of true true zero (suc n) = rw zero-mul
product_of true true (suc m) zero = rw mul-zero
product_of true true (suc m) (suc n) = refl

sum_of : (s : Bool) (m n : ℕ) → signed_of s m +ℤ signed_of s n ≡ signed_of s (m + n)
sum_of false m n = pos-+ℤ-pos m n
sum_of true m n = sym (neg_ℤ-+ℤ (pos m) (pos n)) ∙ ap neg_ℤ (pos-+ℤ-pos m n)

whole : (z : ℤ) → signed_of (is_negative z) (nat_abs z) ≡ z
whole (pos n) = refl
whole (negsuc n) = refl

quotient_of : (a b : ℤ) → quot_z a b ≡ signed_of (unlike (is_negative a) (is_negative b)) (nat_abs a / nat_abs b)
quotient_of (pos a) (pos b) = refl
quotient_of (pos a) (negsuc b) = refl
quotient_of (negsuc a) (pos b) = refl
quotient_of (negsuc a) (negsuc b) = refl

remainder_of : (a b : ℤ) → rem_z a b ≡ signed_of (is_negative a) (nat_abs a % nat_abs b)
remainder_of (pos a) b = refl
remainder_of (negsuc a) b = refl

sign_back : (s t : Bool) → unlike (unlike s t) t ≡ s
sign_back true true = refl
sign_back true false = refl
sign_back false true = refl
sign_back false false = refl

size_of : (s : Bool) (m : ℕ) → nat_abs (signed_of s m) ≡ m
size_of false m = refl
size_of true zero = refl
size_of true (suc m) = refl

sign_of : (s : Bool) (m : ℕ) → (signed_of s m ≡ pos 0) ⊎ (is_negative (signed_of s m) ≡ s)
sign_of false m = inr refl
sign_of true zero = inl refl
sign_of true (suc m) = inr refl

pub quotient_remainder : QuotientRemainder
quotient_remainder a b h = (back, rw (remainder_of a b, size_of (is_negative a) (nat_abs a % nat_abs b)) (mod-lt (nat_abs a) h), rw (remainder_of a b) (sign_of (is_negative a) (nat_abs a % nat_abs b)))
  where
    times : quot_z a b *ℤ b ≡ signed_of (is_negative a) (nat_abs a / nat_abs b * nat_abs b)
    times =
        ap₂ ◌*ℤ◌ (quotient_of a b) (sym (whole b))
        ∙ product_of (unlike (is_negative a) (is_negative b)) (is_negative b) (nat_abs a / nat_abs b) (nat_abs b)
        ∙ ap (λ (s : Bool). signed_of s (nat_abs a / nat_abs b * nat_abs b)) (sign_back (is_negative a) (is_negative b))

    back : quot_z a b *ℤ b +ℤ rem_z a b ≡ a
    back =
        ap₂ ◌+ℤ◌ times (remainder_of a b)
        ∙ sum_of (is_negative a) (nat_abs a / nat_abs b * nat_abs b) (nat_abs a % nat_abs b)
        ∙ ap (signed_of (is_negative a)) (div-add-mod' (nat_abs a) (nat_abs b))
        ∙ whole a

pub ends : Ends
unfolding of_int
ends = (refl, refl, refl, refl)

pub complement : Complement
complement w (pos n) f =
    let h : n < 2 ^ bits w = half_full w f.sfits in
    let e : 2 ^ bits w - 1 - n ≡ 2 ^ bits w - suc n = omega arith in
    ap (to_z w) e ∙ to_z-neg w n f.sfits ∙ opposite n
  where
    opposite : (n : ℕ) → negsuc n ≡ neg_ℤ (pos n) -ℤ pos 1
    opposite zero = refl
    opposite (suc n) = let e : suc n ≡ suc (n + 0) = omega arith in ap negsuc e
complement w (negsuc n) f =
    let h : n < 2 ^ bits w = half_full w f.sfits in
    let e : 2 ^ bits w - 1 - (2 ^ bits w - suc n) ≡ n = omega arith in
    let d : n ≡ suc n - 1 = omega arith in
    ap (to_z w) e ∙ to_z_pos w n f.sfits ∙ rw (le-ltb (suc n) 1 (omega arith)) (ap pos d)

-- a test that is never met, and one that does not matter
no : (t : Bool) → (t && false) ≡ false
no t = and_no t false refl

alike : {A : Type 0} (t : Bool) (x : A) → cond t x x ≡ x
alike true x = refl
alike false x = refl

pub left_none : LeftNone
left_none b o p e q r = (alike (zero_divisor o b) None, refl, refl, refl, refl)

-- what is no integer counts no places
none_counts : (e : Edition) (width : ℕ) → count_in e width None ≡ Nothing
none_counts Edition.First width = refl
none_counts Edition.Second width = refl

pub right_none : RightNone
right_none a o p e q r = (
  rw (no (divides o), no (is_integer a), no (is_real (in_arithmetic a))),
  rw (no (is_integer a)),
  shifts a,
  rw (no (is_number a)),
  rw (no (is_number a)),
)
  where
    shifts : (a : Number) → shift_of e q a None ≡ None
    shifts (Int32 z) = rw (none_counts e 32)
    shifts (Int64 z) = rw (none_counts e 64)
    shifts (Real x) = refl
    shifts None = refl

-- m below 0, and r on, is k + 1 below 0
up : (m r k : ℕ) → r + suc k ≡ m → negsuc k ≡ neg_ℤ (pos m) +ℤ pos r
up zero r k e = absurd (omega arith)
up (suc m) r k e = let d : k ≡ suc m - suc r = omega arith in rw (lt-ltb r (suc m) (omega arith)) (ap negsuc d)

pub remainder_is : Remainder
remainder_is width (pos k) h = (remainder_below width (pos k) h, (pos (k / width), ap pos (sym (div-add-mod' k width))))
remainder_is width (negsuc k) h =
    let l : k % width < width = mod-lt k h in let d : k / width * width + k % width ≡ k = div-add-mod' k width in let s : suc (k / width) * width ≡ k / width * width + width = suc-mul (k / width) width in
    (remainder_below width (negsuc k) h, (negsuc (k / width), up (suc (k / width) * width) (width - 1 - k % width) k (omega arith)))

pub minus_one : MinusOne
minus_one o z = refl

pub counts_agree : CountsAgree
counts_agree width (pos k) e = mod-eq_of_lt (ltb-true k width e)
counts_agree width (negsuc k) e = true_false (sym e)

pub zero_divisor_lem : ZeroDivisor
zero_divisor_lem a b e = (rw e, rw e)

pub negative_zero : NegativeZero
unfolding eq
negative_zero = refl

pub mixed_exact : MixedExact
mixed_exact z x r = (refl, refl, refl, refl)

pub integers_compared : IntegersCompared
integers_compared a b = let p = integers a b in (ap of_bool p.1, ap of_bool p.0)

pub odometer : Odometer
unfolding of_int eq
odometer = refl

pub nan_false : NanFalse
unfolding eq lt le
nan_false b r h =
    let x = value_of b in
    (rw h (ap of_bool (equal_left x)), rw h (ap of_bool (equal_right x)), rw h (ap of_bool (before r x)), rw h (ap of_bool (after r x)))
  where
    equal_left : (x : Float) → eq nan x ≡ false
    equal_left x = refl

    equal_right : (x : Float) → eq x nan ≡ false
    equal_right nan = refl
    equal_right (inf s) = refl
    equal_right (fin s m e) = refl

    less_right : (x : Float) → lt x nan ≡ false
    less_right nan = refl
    less_right (inf s) = refl
    less_right (fin s m e) = refl

    before : (r : Order) (x : Float) → order_real r nan x ≡ false
    before Less x = refl
    before LessEqual x = refl
    before Greater x = less_right x
    before GreaterEqual x = rw (less_right x, equal_right x)

    after : (r : Order) (x : Float) → order_real r x nan ≡ false
    after Less x = less_right x
    after LessEqual x = rw (less_right x, equal_right x)
    after Greater x = refl
    after GreaterEqual x = refl

pub zeros_equal : ZerosEqual
unfolding eq
zeros_equal = refl

pub real_bits : RealBits
real_bits x f = of_bits-to_bits binary64 x f

pub bits_real : BitsReal
bits_real n h e = to_bits-of_bits binary64 n (omega arith) (rw e tt)

pub nan_bits_lem : NanBits
unfolding to_bits
nan_bits_lem = refl

pub bits_bounded : BitsBounded
bits_bounded x f = omega (arith, to_bits-lt binary64 x f)

pub wholes_exact : WholesExact
unfolding of_int
wholes_exact (pos n) h = round_whole binary64 false n h
wholes_exact (negsuc n) h = round_whole binary64 true _ h

pub powers_exact : PowersExact
powers_exact e h = powers_hold e (omega arith)
