-- Which side a choice takes, and that true is not false. Assumes nothing.
use mathlib.Core.Path.{◌≡◌}
use mathlib.Core.Bool.{Bool, true, false}
use Prim.Native.Nat.{ℕ}
use native.Mathlib.Omega.{arith}
use Rattle.common.specs.Choice.{pick}

pub pick_yes : {A : Type 0} (b : Bool) (x y : Unit {0} → A) → b ≡ true → pick b x y ≡ x tt
pick_yes b x y e = rw e

pub pick_no : {A : Type 0} (b : Bool) (x y : Unit {0} → A) → b ≡ false → pick b x y ≡ y tt
pick_no b x y e = rw e

pub true_false : {A : Type 0} → true ≡ false → A
true_false e = let z : ◌≡◌ {A = ℕ} 0 1 = cc in absurd (omega arith)

pub false_true : {A : Type 0} → false ≡ true → A
false_true e = let z : ◌≡◌ {A = ℕ} 0 1 = cc in absurd (omega arith)
