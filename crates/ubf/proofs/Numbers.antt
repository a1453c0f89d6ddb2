-- Numbers of 4 and 8 bytes: which sizes fit, and their bits in two's complement. Assumes nothing.
use mathlib.Core.Path.{◌≡◌, refl, sym, ap, ◌∙◌}
use mathlib.Core.Bool.{Bool, true, false, not, ◌&&◌}
use mathlib.Core.Logic.{◌⊎◌, inl, inr}
use Prim.Native.Nat.{ℕ, ◌+◌, ◌-◌, ◌≤◌, ◌<◌}
use native.Mathlib.Omega.{arith}
use borrow.Author.Tests.{ne_eqb, eqb-true, eqb-false, leb-true, ltb-true, lt-leb, le-ltb}
use lib.Dec.{eqb}
use Rattle.common.proofs.Choice.{true_false, false_true}
use Rattle.word.specs.Word.{word_bytes}
use Rattle.ubf.specs.Fields.{half, fits, number_bytes}
use Rattle.ubf.specs.Scan.{Capped}

-- ---- sizes that are exact or too large for any number

pub capped_zero : (n c : ℕ) → Capped n c → eqb n 0 ≡ eqb c 0
capped_zero n c (inl e) = ap (λ (m : ℕ). eqb m 0) (sym e)
capped_zero n c (inr h) = ne_eqb n 0 (λ e. omega (arith, h.1)) ∙ sym (ne_eqb c 0 (λ e. omega (arith, h.0)))

pub capped_fits : (k : ℕ) (negative : Bool) (n c : ℕ) → half k ≤ 18446744073709551614 → Capped n c → fits k negative n ≡ fits k negative c
capped_fits k negative n c s (inl e) = ap (fits k negative) (sym e)
capped_fits k true n c s (inr h) = lt-leb n (half k) (omega (arith, h.1)) ∙ sym (lt-leb c (half k) (omega (arith, h.0)))
capped_fits k false n c s (inr h) = le-ltb n (half k) (omega (arith, h.1)) ∙ sym (le-ltb c (half k) (omega (arith, h.0)))

fits_small : (k : ℕ) (negative : Bool) (c : ℕ) → fits k negative c ≡ true → c ≤ half k
fits_small k true c e = leb-true c (half k) e
fits_small k false c e = let l = ltb-true c (half k) e in omega arith

pub capped_same : (k : ℕ) (negative : Bool) (n c : ℕ) → half k ≤ 18446744073709551614 → fits k negative c ≡ true → Capped n c → n ≡ c
capped_same k negative n c s f (inl e) = sym e
capped_same k negative n c s f (inr h) = absurd (omega (arith, h.0, fits_small k negative c f))

-- ---- bits

-- a sign counts, or not: there is no number below 0 of size 0
pub minus_some : (negative : Bool) (n : ℕ) → (negative && not (eqb n 0)) ≡ true → (negative ≡ true) × (0 < n)
minus_some true n e = (refl, go (eqb n 0) refl e)
  where
    go : (x : Bool) → eqb n 0 ≡ x → not x ≡ true → 0 < n
    go true x f = false_true f
    go false x f = let z = eqb-false n 0 x in omega arith
minus_some false n e = false_true e

minus_none : (negative : Bool) (n : ℕ) → (negative && not (eqb n 0)) ≡ false → (negative ≡ false) ⊎ ((negative ≡ true) × (n ≡ 0))
minus_none false n e = inl refl
minus_none true n e = inr (refl, go (eqb n 0) refl e)
  where
    go : (x : Bool) → eqb n 0 ≡ x → not x ≡ false → n ≡ 0
    go true x f = eqb-true n 0 x
    go false x f = true_false f

module _ (negative : Bool) (n : ℕ) where
  pub bits4_low : fits 4 negative n ≡ true → n ≤ 4294967296
  bits4_low f = let s = fits_small 4 negative n f in omega arith

  pub bits4_minus : (negative && not (eqb n 0)) ≡ true → (word_bytes 4 (4294967296 - n) ≡ number_bytes 4 negative n) × (4294967296 - n < 4294967296)
  bits4_minus e = let m = minus_some negative n e in (ap (λ (x : Bool). number_bytes 4 x n) (sym m.0), omega (arith, m.1))

  pub bits4_plain : fits 4 negative n ≡ true → (negative && not (eqb n 0)) ≡ false → (word_bytes 4 n ≡ number_bytes 4 negative n) × (n < 4294967296)
  unfolding word_bytes
  bits4_plain f e = go (minus_none negative n e)
    where
      go : (negative ≡ false) ⊎ ((negative ≡ true) × (n ≡ 0)) → (word_bytes 4 n ≡ number_bytes 4 negative n) × (n < 4294967296)
      go (inl m) = let s = fits_small 4 negative n f in (ap (λ (x : Bool). number_bytes 4 x n) (sym m), omega arith)
      go (inr m) = let s = fits_small 4 negative n f in (rw (m.0, m.1), omega arith)

  pub bits8_minus : fits 8 negative n ≡ true → (negative && not (eqb n 0)) ≡ true → word_bytes 8 (18446744073709551615 - n + 1) ≡ number_bytes 8 negative n
  bits8_minus f e =
      let m = minus_some negative n e in
      let s = fits_small 8 negative n f in
      let z : 18446744073709551615 - n + 1 ≡ 18446744073709551616 - n = omega arith in
      ap (word_bytes 8) z ∙ ap (λ (x : Bool). number_bytes 8 x n) (sym m.0)

  pub bits8_low : fits 8 negative n ≡ true → (negative && not (eqb n 0)) ≡ true → (0 < n) × (n ≤ 9223372036854775808)
  bits8_low f e = let s = fits_small 8 negative n f in ((minus_some negative n e).1, omega arith)

  pub bits8_plain : (negative && not (eqb n 0)) ≡ false → word_bytes 8 n ≡ number_bytes 8 negative n
  unfolding word_bytes
  bits8_plain e = go (minus_none negative n e)
    where
      go : (negative ≡ false) ⊎ ((negative ≡ true) × (n ≡ 0)) → word_bytes 8 n ≡ number_bytes 8 negative n
      go (inl m) = ap (λ (x : Bool). number_bytes 8 x n) (sym m)
      go (inr m) = rw (m.0, m.1)
