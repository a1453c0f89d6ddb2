-- specs/Theorems.antt, proved. Assumes nothing.
use mathlib.Core.Path.{◌≡◌, refl}
use mathlib.Core.Bool.{true, false}
use Prim.Native.Nat.{ℕ, suc, ◌*◌}
use native.Mathlib.Nat.{mul-one}
use native.Mathlib.Omega.{arith}
use lib.IntN.{pos, negsuc}
use lib.Ieee.{lt, le, eq, up, down, of_bits}
use Rattle.mixed.specs.Theorems.{ByValue, Integers, Infinities, NanApart, Greatest}
use Rattle.mixed.proofs.Weights.{below_signed, level_signed}

pub by_value : ByValue
unfolding lt eq
by_value (pos a) s m e = (
  rw (mul-one a, mul-one (m * up e)) (below_signed false (a * down e) s (m * up e)),
  rw (mul-one a, mul-one (m * up e)) (below_signed s (m * up e) false (a * down e)),
  rw (mul-one a, mul-one (m * up e)) (level_signed false (a * down e) s (m * up e)),
)
by_value (negsuc a) s m e = (
  rw (mul-one (suc a), mul-one (m * up e)) (below_signed true (suc a * down e) s (m * up e)),
  rw (mul-one (suc a), mul-one (m * up e)) (below_signed s (m * up e) true (suc a * down e)),
  rw (mul-one (suc a), mul-one (m * up e)) (level_signed true (suc a * down e) s (m * up e)),
)

once : (a : ℕ) → a * 1 * 1 ≡ a
once a = omega arith

pub integers : Integers
unfolding lt eq
integers (pos a) (pos b) = rw (once a, once b) (below_signed false a false b, level_signed false a false b)
integers (pos a) (negsuc b) = rw (once a, once (suc b)) (below_signed false a true (suc b), level_signed false a true (suc b))
integers (negsuc a) (pos b) = rw (once (suc a), once b) (below_signed true (suc a) false b, level_signed true (suc a) false b)
integers (negsuc a) (negsuc b) = rw (once (suc a), once (suc b)) (below_signed true (suc a) true (suc b), level_signed true (suc a) true (suc b))

pub infinities : Infinities
unfolding lt eq
infinities (pos n) = (refl, refl, refl, refl, refl, refl)
infinities (negsuc n) = (refl, refl, refl, refl, refl, refl)

pub nan_apart : NanApart
unfolding lt le eq
nan_apart (pos n) = (refl, refl, refl, refl, refl)
nan_apart (negsuc n) = (refl, refl, refl, refl, refl)

pub greatest : Greatest
unfolding eq of_bits
greatest = refl
