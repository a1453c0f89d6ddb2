-- An int32 in 64 bits, and beside a real as the real that it is. Assumes nothing.
use Rattle.std.proofs.Common.{◌^◌, ◌≤◌, ℤ, nat_abs, arith, w32, SFits, to_z, of_z}
use lib.Ieee.{Float, binary64, of_int}
use lib.Signed.{nat_abs-le}
use mir.ValLaws.{to_z-of_z}
use Rattle.mixed.specs.Mixed.{exactly, Same}
use Rattle.mixed.proofs.Compare.{exact_left, exact_right}

module _ (z : ℤ) (f : SFits w32 z) where
  small : nat_abs z ≤ 2 ^ 53
  small = omega (arith, nat_abs-le z f.sfits)

  pub left : (x : Float) → Same (of_int binary64 (to_z w32 (of_z w32 z))) x (exactly z) x
  left x = rw (to_z-of_z w32 z f) (exact_left z small x)

  pub right : (x : Float) → Same x (of_int binary64 (to_z w32 (of_z w32 z))) x (exactly z)
  right x = rw (to_z-of_z w32 z f) (exact_right z small x)
