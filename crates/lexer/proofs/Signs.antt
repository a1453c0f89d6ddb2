-- Integers by a sign and a size, which may be capped. Assumes nothing.
use mathlib.Core.Path.{◌≡◌, refl}
use mathlib.Core.Bool.{Bool, true, false}
use Prim.Native.Nat.{ℕ, zero, suc, ◌-◌, ◌^◌, ◌≤◌, ◌<◌}
use native.Mathlib.Decide.{dec_le}
use native.Mathlib.Omega.{arith}
use lib.Signed.{mag}
use borrow.Author.Tests.{le-ltb}
use Rattle.number.specs.Integer.{signed_of}
use Rattle.lexer.specs.Digits.{capped}
use Rattle.lexer.specs.Integer.{held}

mag_negative : (m : ℕ) → mag (signed_of true m) ≡ m - 1
mag_negative zero = refl
mag_negative (suc k) = omega arith

-- a size past 2 ^ 63 fits under neither sign, capped or not
size_of : (n : Bool) (m : ℕ) → 2 ^ 63 < m → 2 ^ 63 ≤ mag (signed_of n m)
size_of true m h = rw (mag_negative m) (omega arith)
size_of false m h = omega arith

-- an integer where 64 bits hold it, by a size that may be capped
module _ (n : Bool) (m : ℕ) where
  pub held_capped : held (signed_of n (capped m)) ≡ held (signed_of n m)
  held_capped = go (dec_le m (2 ^ 63))
    where
      go : Dec (m ≤ 2 ^ 63) → held (signed_of n (capped m)) ≡ held (signed_of n m)
      go (yes l) = let e : capped m ≡ m = omega arith in rw e
      go (no l) =
          let p = size_of n m (omega arith) in
          let q = size_of n (capped m) (omega arith) in
          rw (le-ltb (mag (signed_of n m)) (2 ^ 63) p, le-ltb (mag (signed_of n (capped m))) (2 ^ 63) q)
