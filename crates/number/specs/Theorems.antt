-- What holds of numbers. The proofs are in proofs/Theorems.antt, under the same names.
use Rattle.std.specs.Prelude.{◌≡◌, ℕ, ◌^◌, ◌<◌, ◌≤◌, true, false, T, ◌⊎◌, ℤ, pos, negsuc, ◌+ℤ◌, ◌-ℤ◌, ◌*ℤ◌, neg_ℤ, FitsSigned, from_bits, int_div, int_lt, int_rem, is_nan, to_bits, unsigned_abs, Float}
use Rattle.std.specs.Float.Ieee.{eq, fits, of_int}
use Rattle.std.specs.Float.{nan, fin, binary64}
use Rattle.std.specs.Float.Ieee.Exact.{HasValue}
use Rattle.std.specs.Int.{Width}
use Rattle.truth.specs.Truth.{of_bool}
use Rattle.truth.specs.declared.Truth.TheVariants.{False, Bottom, True}
use Rattle.number.specs.declared.Number.{Number}
use Rattle.number.specs.declared.Number.TheVariants.{Int32, Int64, Real, None}
use Rattle.opcode.specs.declared.Arithmetic.{Arithmetic}
use Rattle.opcode.specs.declared.Arithmetic.TheVariants.{Add, Div, Rem}
use Rattle.opcode.specs.declared.Bitwise.{Bitwise}
use Rattle.opcode.specs.declared.Edition.{Edition}
use Rattle.opcode.specs.declared.Shift.{Shift}
use Rattle.opcode.specs.declared.Order.{Order}
use Rattle.opcode.specs.declared.Order.TheVariants.{Less}
use Rattle.mixed.specs.Mixed.{exactly, order_real}
use Rattle.mixed.specs.Theorems.{equal_z}
use Rattle.number.specs.Integer.{is_negative}
use Rattle.number.specs.Bits.{turned}
use Rattle.number.specs.Real.{ten_to}
use Rattle.number.specs.Number.{is_number, is_zero, arithmetic_of, bitwise_of, places_in, remainder, shift_of, equal_of, order_of}

-- "`/` cuts toward zero", "`%` .. has the sign of the left side": quotient and remainder give the left side back, the remainder is smaller than the
-- divisor, and it is negative only where the left side is, positive only where the left side is.
abbrev pub QuotientRemainder : Type 0
QuotientRemainder =
    (a b : ℤ) → 0 < unsigned_abs b
    → (int_div a b *ℤ b +ℤ int_rem a b ≡ a) × (unsigned_abs (int_rem a b) < unsigned_abs b) × ((int_rem a b ≡ pos 0) ⊎ (is_negative (int_rem a b) ≡ is_negative a))

-- The ends of the ranges: the least int32 and the least int64 by -1.
abbrev pub Ends : Type 0
Ends =
    (arithmetic_of Div (Int32 (negsuc 2147483647)) (Int32 (negsuc 0)) ≡ Int64 (pos 2147483648))
    × (arithmetic_of Rem (Int32 (negsuc 2147483647)) (Int32 (negsuc 0)) ≡ Int32 (pos 0))
    × (arithmetic_of Div (Int64 (negsuc 9223372036854775807)) (Int64 (negsuc 0)) ≡ Real (fin false 1 (pos 63)))
    × (arithmetic_of Rem (Int64 (negsuc 9223372036854775807)) (Int64 (negsuc 0)) ≡ Int64 (pos 0))

-- `~` of an integer is its opposite less 1, whatever the width.
abbrev pub Complement : Type 0
Complement = (w : Width) (z : ℤ) → FitsSigned w z → turned w z ≡ neg_ℤ z -ℤ pos 1

-- "bottom in a value makes the enclosing value or comparison bottom"
abbrev pub LeftNone : Type 0
LeftNone =
    (b : Number) (o : Arithmetic) (p : Bitwise) (e : Edition) (q : Shift) (r : Order)
    → (arithmetic_of o None b ≡ None) × (bitwise_of p None b ≡ None) × (shift_of e q None b ≡ None) × (equal_of None b ≡ Bottom) × (order_of r None b ≡ Bottom)

abbrev pub RightNone : Type 0
RightNone =
    (a : Number) (o : Arithmetic) (p : Bitwise) (e : Edition) (q : Shift) (r : Order)
    → (arithmetic_of o a None ≡ None) × (bitwise_of p a None ≡ None) × (shift_of e q a None ≡ None) × (equal_of a None ≡ Bottom) × (order_of r a None ≡ Bottom)

-- Request 9: "the count's remainder by the width, 0 to width less 1": what is left of the count below the width, once the width is taken from it some number of times, or added to it.
abbrev pub Remainder : Type 0
Remainder = (width : ℕ) (z : ℤ) → 0 < width → (remainder width z < width) × ((q : ℤ) × (z ≡ (q *ℤ pos width) +ℤ pos (remainder width z)))

-- ".. so -1 shifts an int32 by 31"
abbrev pub MinusOne : Type 0
MinusOne = (o : Shift) (z : ℤ) → shift_of Edition.Second o (Int32 z) (Int32 (negsuc 0)) ≡ shift_of Edition.First o (Int32 z) (Int32 (pos 31))

-- A count from 0 to width less 1 is its own remainder: there both editions shift alike.
abbrev pub CountsAgree : Type 0
CountsAgree = (width : ℕ) (z : ℤ) → places_in width z ≡ true → remainder width z ≡ unsigned_abs z

-- "A zero divisor, whole or real, gives bottom", whatever stands left of it.
abbrev pub ZeroDivisor : Type 0
ZeroDivisor = (a b : Number) → is_zero b ≡ true → (arithmetic_of Div a b ≡ None) × (arithmetic_of Rem a b ≡ None)

-- -0.0 is zero.
abbrev pub NegativeZero : Type 0
NegativeZero = is_zero (Real (fin true 0 (pos 0))) ≡ true

-- "An integer and a real are to be compared by exact value", on either side; two integers as integers. What `eq` and `lt` say of `exactly z` and a real is
-- told in specs/Theorems.antt of crate mixed.
abbrev pub MixedExact : Type 0
MixedExact =
    (z : ℤ) (x : Float) (r : Order)
    → (equal_of (Int64 z) (Real x) ≡ of_bool (eq (exactly z) x)) × (equal_of (Real x) (Int64 z) ≡ of_bool (eq x (exactly z)))
    × (order_of r (Int64 z) (Real x) ≡ of_bool (order_real r (exactly z) x)) × (order_of r (Real x) (Int64 z) ≡ of_bool (order_real r x (exactly z)))

abbrev pub IntegersCompared : Type 0
IntegersCompared = (a b : ℤ) → (equal_of (Int64 a) (Int64 b) ≡ of_bool (equal_z a b)) × (order_of Less (Int64 a) (Int64 b) ≡ of_bool (int_lt a b))

-- "The example with 9223372036854775807L turns from bottom to false": `9223372036854775807L + 1 == 0`.
abbrev pub Odometer : Type 0
Odometer = equal_of (arithmetic_of Add (Int64 (pos 9223372036854775807)) (Int32 (pos 1))) (Int32 (pos 0)) ≡ False

-- "NaN equals nothing and orders with nothing (false)", beside any number; request 6: "NaN stays unequal and unordered".
abbrev pub NanFalse : Type 0
NanFalse =
    (b : Number) (r : Order) → is_number b ≡ true
    → (equal_of (Real nan) b ≡ False) × (equal_of b (Real nan) ≡ False) × (order_of r (Real nan) b ≡ False) × (order_of r b (Real nan) ≡ False)

-- "Zeros of both signs are equal."
abbrev pub ZerosEqual : Type 0
ZerosEqual = equal_of (Real (fin false 0 (pos 0))) (Real (fin true 0 (pos 0))) ≡ True

-- An integer of at most 2^53 in size is in f64 what it is; so is the whole number of a literal, which is below 10^15.
abbrev pub WholesExact : Type 0
WholesExact = (z : ℤ) → unsigned_abs z ≤ 2 ^ 53 → HasValue (of_int binary64 z) (is_negative z) (unsigned_abs z) 1

-- So is a power of ten up to 10^22: "both operands exact".
abbrev pub PowersExact : Type 0
PowersExact = (e : ℕ) → e ≤ 22 → HasValue (ten_to e) false (10 ^ e) 1

-- A real's bits stand for the real. `fits` says that f64 holds x, as it holds every real of a run.
abbrev pub RealBits : Type 0
RealBits = (x : Float) → T (fits binary64 x) → from_bits binary64 (to_bits binary64 x) ≡ x

-- The bits that are read as a real and written again are the same, unless they are a NaN's.
abbrev pub BitsReal : Type 0
BitsReal = (n : ℕ) → n < 2 ^ 64 → is_nan (from_bits binary64 n) ≡ false → to_bits binary64 (from_bits binary64 n) ≡ n

-- NaN's one pattern.
abbrev pub NanBits : Type 0
NanBits = to_bits binary64 nan ≡ 0x7ff8_0000_0000_0000

-- A real's bits are 64.
abbrev pub BitsBounded : Type 0
BitsBounded = (x : Float) → T (fits binary64 x) → to_bits binary64 x < 2 ^ 64
