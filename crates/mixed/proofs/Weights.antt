-- Comparisons of signed numbers as those of two natural numbers: a number weighs on its own side where it is positive, and on the other where it is
-- negative. Assumes nothing.
use mathlib.Core.Path.{◌≡◌, refl, sym, ◌∙◌}
use mathlib.Core.Bool.{Bool, true, false, ◌&&◌}
use Prim.Native.Nat.{ℕ, suc, ◌+◌, ◌*◌}
use native.Mathlib.Nat.{zero-mul, add-mul}
use native.Mathlib.Omega.{arith}
use lib.IntN.{ℤ, pos, negsuc}
use lib.Signed.{lt_z}
use lib.Dec.{ltb, eqb, leb-suc-suc}
use lib.Ieee.{below, level}
use borrow.Author.Tests.{eqb-true, lt-ltb, le-ltb, eq-eqb, ne_eqb}
use Rattle.common.proofs.Choice.{false_true}
use Rattle.nearest.specs.Nearest.{signed_of}
use Rattle.mixed.proofs.Ints.{up, dn, neg}
use Rattle.mixed.specs.Theorems.{equal_z}

-- ---- what ±a weighs on its own side, and on the other
abbrev pub own : Bool → ℕ → ℕ
own false a = a
own true a = 0

abbrev pub other : Bool → ℕ → ℕ
other false a = 0
other true a = a

pub weights_scale : (s : Bool) (a : ℕ) (t : Bool) (b c : ℕ) → own s (a * c) + other t (b * c) ≡ (own s a + other t b) * c
weights_scale false a false b c = let e : (a + 0) * c ≡ a * c + 0 * c = add-mul a 0 c in let z : 0 * c ≡ 0 = zero-mul c in omega arith
weights_scale false a true b c = sym (add-mul a b c)
weights_scale true a false b c = let z : 0 * c ≡ 0 = zero-mul c in omega arith
weights_scale true a true b c = let e : (0 + b) * c ≡ 0 * c + b * c = add-mul 0 b c in let z : 0 * c ≡ 0 = zero-mul c in omega arith

pub signed_up : (s : Bool) (a : ℕ) → up (signed_of s a) ≡ own s a
signed_up false a = refl
signed_up true a = (neg (pos a)).0

pub signed_down : (s : Bool) (a : ℕ) → dn (signed_of s a) ≡ other s a
signed_down false a = refl
signed_down true a = (neg (pos a)).1

-- ---- lib.Ieee's comparison of ±a and ±b, and that of integers, by weights
pub told : (t : Bool) (a b : ℕ) → (t ≡ true → a ≡ b) → (a ≡ b → t ≡ true) → t ≡ eqb a b
told true a b h k = sym (eq-eqb a b (h refl))
told false a b h k = sym (ne_eqb a b (λ e. false_true (k e)))

pub and-true : (b : Bool) → (b && true) ≡ b
and-true true = refl
and-true false = refl

pub both : (p q : Bool) → (p && q) ≡ true → (p ≡ true) × (q ≡ true)
both true q h = (refl, h)
both false q h = false_true h

pub below_is : (s : Bool) (a : ℕ) (t : Bool) (b : ℕ) → below s a t b ≡ ltb (own s a + other t b) (own t b + other s a)
below_is false a false b = let p : a + 0 ≡ a = omega arith in let q : b + 0 ≡ b = omega arith in rw (p, q)
below_is false a true b = sym (le-ltb (a + b) (0 + 0) (omega arith))
below_is true a false b = let p : b + a ≡ a + b = omega arith in rw p
below_is true a true b = let p : 0 + a ≡ a = omega arith in let q : 0 + b ≡ b = omega arith in rw (p, q)

pub level_is : (s : Bool) (a : ℕ) (t : Bool) (b : ℕ) → level s a t b ≡ eqb (own s a + other t b) (own t b + other s a)
level_is false a false b = let p : a + 0 ≡ a = omega arith in let q : b + 0 ≡ b = omega arith in rw (p, q) (and-true (eqb a b))
level_is false a true b =
    told (eqb a b && eqb a 0) (a + b) (0 + 0)
    (λ h. let k = both (eqb a b) (eqb a 0) h in let d = eqb-true a b k.0 in let e = eqb-true a 0 k.1 in omega arith)
    (λ h. let d : a ≡ b = omega arith in let e : a ≡ 0 = omega arith in rw (eq-eqb a b d, eq-eqb a 0 e))
level_is true a false b =
    told (eqb a b && eqb a 0) (0 + 0) (b + a)
    (λ h. let k = both (eqb a b) (eqb a 0) h in let d = eqb-true a b k.0 in let e = eqb-true a 0 k.1 in omega arith)
    (λ h. let d : a ≡ b = omega arith in let e : a ≡ 0 = omega arith in rw (eq-eqb a b d, eq-eqb a 0 e))
level_is true a true b = and-true (eqb a b) ∙ told (eqb a b) (0 + b) (0 + a) (λ h. let d = eqb-true a b h in omega arith) (λ h. eq-eqb a b (omega arith))

pub lt_z_is : (a b : ℤ) → lt_z a b ≡ ltb (up a + dn b) (up b + dn a)
lt_z_is (pos a) (pos b) = let p : a + 0 ≡ a = omega arith in let q : b + 0 ≡ b = omega arith in rw (p, q)
lt_z_is (pos a) (negsuc b) = sym (le-ltb (a + suc b) (0 + 0) (omega arith))
lt_z_is (negsuc a) (pos b) = sym (lt-ltb (0 + 0) (b + suc a) (omega arith))
lt_z_is (negsuc a) (negsuc b) = let p : 0 + suc a ≡ suc a = omega arith in let q : 0 + suc b ≡ suc b = omega arith in rw (p, q) (sym (leb-suc-suc (suc b) a))

pub equal_z_is : (a b : ℤ) → equal_z a b ≡ eqb (up a + dn b) (up b + dn a)
equal_z_is (pos a) (pos b) = let p : a + 0 ≡ a = omega arith in let q : b + 0 ≡ b = omega arith in rw (p, q)
equal_z_is (pos a) (negsuc b) = sym (ne_eqb (a + suc b) (0 + 0) (λ e. omega arith))
equal_z_is (negsuc a) (pos b) = sym (ne_eqb (0 + 0) (b + suc a) (λ e. omega arith))
equal_z_is (negsuc a) (negsuc b) = told (eqb a b) (0 + suc b) (0 + suc a) (λ h. let d = eqb-true a b h in omega arith) (λ h. eq-eqb a b (omega arith))

-- so ±a and ±b compare as integers do
pub below_signed : (s : Bool) (a : ℕ) (t : Bool) (b : ℕ) → below s a t b ≡ lt_z (signed_of s a) (signed_of t b)
below_signed s a t b = below_is s a t b ∙ sym (rw (sym (signed_up s a), sym (signed_down s a), sym (signed_up t b), sym (signed_down t b)) (lt_z_is (signed_of s a) (signed_of t b)))

pub level_signed : (s : Bool) (a : ℕ) (t : Bool) (b : ℕ) → level s a t b ≡ equal_z (signed_of s a) (signed_of t b)
level_signed s a t b = level_is s a t b ∙ sym (rw (sym (signed_up s a), sym (signed_down s a), sym (signed_up t b), sym (signed_down t b)) (equal_z_is (signed_of s a) (signed_of t b)))
