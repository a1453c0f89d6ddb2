-- Numbers and the operators on them. Document 01, "Meaning". `None` is no number: bottom, which every operator hands on.
use Rattle.std.specs.Prelude.{ℕ, ◌-◌, ◌%◌, Bool, true, false, cond, Option, Some, None as Outside, ◌&&◌, ◌||◌, ℤ, pos, negsuc, ◌==◌, nat_lt, unsigned_abs, Float}
use Rattle.std.specs.Float.{nan, fin, binary64}
use Rattle.std.specs.Float.Ieee.{add, sub, mul, div, eq}
use Rattle.std.specs.Int.{w32, w64}
use Rattle.truth.specs.declared.Truth.{Truth}
use Rattle.truth.specs.declared.Truth.TheVariants.{Bottom}
use Rattle.truth.specs.Truth.{of_bool}
use Rattle.number.specs.declared.Number.{Number}
use Rattle.number.specs.declared.Number.TheVariants.{Int32, Int64, Real, None}
use Rattle.opcode.specs.declared.Arithmetic.{Arithmetic}
use Rattle.opcode.specs.declared.Arithmetic.TheVariants.{Mul, Div, Rem, Add, Sub}
use Rattle.opcode.specs.declared.Bitwise.{Bitwise}
use Rattle.opcode.specs.declared.Edition.{Edition}
use Rattle.opcode.specs.declared.Shift.{Shift}
use Rattle.opcode.specs.declared.Order.{Order}
use Rattle.nearest.specs.Nearest.{nearest_real}
use Rattle.mixed.specs.Mixed.{exactly, order_real}
use Rattle.number.specs.Integer.{fits_in, exact_of}
use Rattle.number.specs.Bits.{on_bits, turned, shifted}

-- Kinds of numbers, and their values: 0 where there is none.
abbrev pub is_int32 : Number → Bool
is_int32 (Int32 z) = true
is_int32 (Int64 z) = false
is_int32 (Real x) = false
is_int32 None = false

abbrev pub is_integer : Number → Bool
is_integer (Int32 z) = true
is_integer (Int64 z) = true
is_integer (Real x) = false
is_integer None = false

abbrev pub is_real : Number → Bool
is_real (Int32 z) = false
is_real (Int64 z) = false
is_real (Real x) = true
is_real None = false

abbrev pub integer_of : Number → ℤ
integer_of (Int32 z) = z
integer_of (Int64 z) = z
integer_of (Real x) = pos 0
integer_of None = pos 0

abbrev pub zero_real : Float
zero_real = fin false 0 (pos 0)

abbrev pub real_of : Number → Float
real_of (Int32 z) = zero_real
real_of (Int64 z) = zero_real
real_of (Real x) = x
real_of None = zero_real

-- "The result is int32 if both are int32 and it fits, else int64", and request 6 of document 02: "An integer result of `+ - * /` outside int64 becomes
-- the nearest f64, ties to even".
abbrev pub typed : Bool → ℤ → Number
typed both z = cond (both && fits_in w32 z) (Int32 z) (cond (fits_in w64 z) (Int64 z) (Real (nearest_real z)))

-- Request 6: "In arithmetic with a real the integer is rounded to the nearest f64, ties to even."
abbrev pub in_arithmetic : Number → Number
in_arithmetic (Int32 z) = Real (nearest_real z)
in_arithmetic (Int64 z) = Real (nearest_real z)
in_arithmetic (Real x) = Real x
in_arithmetic None = None

-- two reals, or nothing where a side is none
abbrev pub on_reals : {A : Type 0} → Number → Number → (Float → Float → A) → A → A
on_reals a b f none = cond (is_real a && is_real b) (f (real_of a) (real_of b)) none

-- "Real with real is f64's own `+ - * /`, rounded once to the nearest, ties to even, with its infinities and NaN." "`%` with a real" is bottom.
abbrev pub real_arithmetic : Arithmetic → Float → Float → Number
real_arithmetic Mul x y = Real (mul binary64 x y)
real_arithmetic Div x y = Real (div binary64 x y)
real_arithmetic Rem x y = None
real_arithmetic Add x y = Real (add binary64 x y)
real_arithmetic Sub x y = Real (sub binary64 x y)

-- "A zero divisor, whole or real, gives bottom.": f64's own equality, under which zeros of both signs are equal
abbrev pub divides : Arithmetic → Bool
divides Mul = false
divides Div = true
divides Rem = true
divides Add = false
divides Sub = false

abbrev pub is_zero : Number → Bool
is_zero (Int32 z) = unsigned_abs z == 0
is_zero (Int64 z) = unsigned_abs z == 0
is_zero (Real x) = eq x zero_real
is_zero None = false

abbrev pub zero_divisor : Arithmetic → Number → Bool
zero_divisor op b = divides op && is_zero b

-- `+ - * / %`
abbrev pub arithmetic_of : Arithmetic → Number → Number → Number
arithmetic_of op a b =
    cond (zero_divisor op b)
    None
    (cond (is_integer a && is_integer b)
    (typed (is_int32 a && is_int32 b) (exact_of op (integer_of a) (integer_of b)))
    (on_reals (in_arithmetic a) (in_arithmetic b) (real_arithmetic op) None))

-- "integers only. Unlike integers are widened by sign.": two int32 have their bits in 32, other integers in 64
abbrev pub bitwise_of : Bitwise → Number → Number → Number
bitwise_of op a b =
    cond (is_integer a && is_integer b)
    (cond (is_int32 a && is_int32 b) (Int32 (on_bits op w32 (integer_of a) (integer_of b))) (Int64 (on_bits op w64 (integer_of a) (integer_of b))))
    None

abbrev pub complement_of : Number → Number
complement_of (Int32 z) = Int32 (turned w32 z)
complement_of (Int64 z) = Int64 (turned w64 z)
complement_of (Real x) = None
complement_of None = None

-- "the count must be 0 to width less 1, else bottom"
abbrev pub places_in : ℕ → ℤ → Bool
places_in width (pos k) = nat_lt k width
places_in width (negsuc k) = false

abbrev pub count_of : ℕ → Number → Option ℕ
count_of width b = cond (is_integer b && places_in width (integer_of b)) (Some (unsigned_abs (integer_of b))) Outside

-- Document 02, request 9: "the count's remainder by the width, 0 to width less 1, so -1 shifts an int32 by 31"
abbrev pub remainder : ℕ → ℤ → ℕ
remainder width (pos k) = k % width
remainder width (negsuc k) = width - 1 - k % width

abbrev pub remainder_of : ℕ → Number → Option ℕ
remainder_of width b = cond (is_integer b) (Some (remainder width (integer_of b))) Outside

-- the places of a shift in each edition
abbrev pub count_in : Edition → ℕ → Number → Option ℕ
count_in Edition.First width b = count_of width b
count_in Edition.Second width b = remainder_of width b

abbrev pub counted : Option ℕ → (ℕ → Number) → Number
counted (Some k) f = f k
counted Outside f = None

-- "A shift has its left side's width and type"
abbrev pub shift_of : Edition → Shift → Number → Number → Number
shift_of e op (Int32 z) b = counted (count_in e 32 b) (λ k. Int32 (shifted op w32 z k))
shift_of e op (Int64 z) b = counted (count_in e 64 b) (λ k. Int64 (shifted op w64 z k))
shift_of e op (Real x) b = None
shift_of e op None b = None

-- Request 6: "An integer and a real are to be compared by exact value": the value of a number, unrounded, and NaN where there is none.
abbrev pub value_of : Number → Float
value_of (Int32 z) = exactly z
value_of (Int64 z) = exactly z
value_of (Real x) = x
value_of None = nan

abbrev pub is_number : Number → Bool
is_number a = is_integer a || is_real a

abbrev pub compared_by : (Float → Float → Bool) → Number → Number → Truth
compared_by f a b = cond (is_number a && is_number b) (of_bool (f (value_of a) (value_of b))) Bottom

-- `==` and the orders are IEEE 754's: "NaN equals nothing and orders with nothing (false). Zeros of both signs are equal.", and request 6: "an infinity
-- lying beyond every integer on its side".
abbrev pub equal_of : Number → Number → Truth
equal_of a b = compared_by eq a b

abbrev pub order_of : Order → Number → Number → Truth
order_of op a b = compared_by (order_real op) a b

-- Inside the code: the integer that a number is, and the real that it is in arithmetic with a real.
abbrev pub integer_in : Number → Option ℤ
integer_in (Int32 z) = Some z
integer_in (Int64 z) = Some z
integer_in (Real x) = Outside
integer_in None = Outside

abbrev pub real_in : Number → Option Float
real_in (Int32 z) = Some (nearest_real z)
real_in (Int64 z) = Some (nearest_real z)
real_in (Real x) = Some x
real_in None = Outside
