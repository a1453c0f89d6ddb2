-- Bytes in a range, the bytes that most names have, and the values of digits. Assumes nothing.
use mathlib.Core.Path.{◌≡◌, refl, sym, ◌∙◌}
use mathlib.Core.Logic.{◌⊎◌, inl, inr}
use mathlib.Core.Bool.{Bool, true, false, ◌||◌}
use Prim.Native.Nat.{ℕ, ◌+◌, ◌-◌, ◌≤◌, ◌<◌}
use native.Mathlib.Omega.{arith}
use lib.Dec.{eqb, leb, lit<}
use borrow.Author.Tests.{leb-true, le-leb, lt-ltb, le-ltb, ne_eqb}
use Rattle.octets.proofs.Theorems.{and_parts}
use Rattle.lexer.specs.Byte.{within, is_delimiter, is_plain, is_common, digit_of, is_digit_in}

pub range : (low high b : ℕ) → within low high b ≡ true → (low ≤ b) × (b ≤ high)
range low high b e =
    let p = and_parts (leb low b) (leb b high) e in
    (leb-true low b p.0, leb-true b high p.1)

-- the bytes that most names have
module _ (b : ℕ) (e : is_common b ≡ true) where
  common_range : (within 45 90 b ≡ true) ⊎ (within 94 126 b ≡ true)
  common_range = go (within 45 90 b) refl
    where
      go : (p : Bool) → within 45 90 b ≡ p → (within 45 90 b ≡ true) ⊎ (within 94 126 b ≡ true)
      go true f = inl f
      go false f = inr (rw f at e)

  common_bound : (45 ≤ b) × (b ≤ 126) × (b ≡ 91 → ⊥) × (b ≡ 92 → ⊥) × (b ≡ 93 → ⊥)
  common_bound = go common_range
    where
      go : (within 45 90 b ≡ true) ⊎ (within 94 126 b ≡ true) → (45 ≤ b) × (b ≤ 126) × (b ≡ 91 → ⊥) × (b ≡ 92 → ⊥) × (b ≡ 93 → ⊥)
      go (inl f) = let h = range 45 90 b f in (omega arith, omega arith, (λ z. omega arith), (λ z. omega arith), (λ z. omega arith))
      go (inr f) = let h = range 94 126 b f in (omega arith, omega arith, (λ z. omega arith), (λ z. omega arith), (λ z. omega arith))

  above : (k : ℕ) → k < 45 → eqb b k ≡ false
  above k h = ne_eqb b k (λ z. omega (arith, common_bound.0))

  pub common_ends_none : is_delimiter b ≡ false
  common_ends_none =
      rw (above 32 (lit< tt), above 9 (lit< tt), above 10 (lit< tt), above 13 (lit< tt), above 40 (lit< tt), above 41 (lit< tt), above 44 (lit< tt))

  pub common_takes_none : eqb b 92 ≡ false
  common_takes_none = ne_eqb b 92 common_bound.3

  pub common_plain : is_plain b ≡ true
  common_plain =
      let low = le-leb 33 b (omega (arith, common_bound.0)) in
      let high = le-leb b 126 common_bound.1 in
      rw (low, high, ne_eqb b 91 common_bound.2, ne_eqb b 93 common_bound.4, above 39 (lit< tt), above 34 (lit< tt))

pub low_common : (b : ℕ) → 94 ≤ b → b ≤ 126 → is_common b ≡ true
low_common b h k = rw (le-leb 94 b h, le-leb b 126 k) (go (within 45 90 b))
  where
    go : (x : Bool) → (x || true) ≡ true
    go true = refl
    go false = refl

-- a digit of each of the three ranges, and none
abbrev Digit : ℕ → ℕ → Type 0
Digit b v = (v ≡ digit_of b) × (v ≤ 16)

module _ (b : ℕ) where
  pub tens : within 48 57 b ≡ true → Digit b (b - 48)
  tens e = let h = range 48 57 b e in (rw e, omega arith)

  pub decimal : within 48 57 b ≡ is_digit_in 10 b
  decimal = go (within 48 57 b) refl (within 97 102 b) refl (within 65 70 b) refl
    where
      go : (p : Bool) → within 48 57 b ≡ p → (q : Bool) → within 97 102 b ≡ q → (r : Bool) → within 65 70 b ≡ r → within 48 57 b ≡ is_digit_in 10 b
      go true e q f r g = let h = range 48 57 b e in rw e (sym (lt-ltb (b - 48) 10 (omega arith)))
      go false e true f r g = rw (e, f) (sym (le-ltb (b - 97 + 10) 10 (omega arith)))
      go false e false f true g = rw (e, f, g) (sym (le-ltb (b - 65 + 10) 10 (omega arith)))
      go false e false f false g = rw (e, f, g)

-- a digit is a byte that most names have
pub digit_common : (b : ℕ) → is_digit_in 10 b ≡ true → is_common b ≡ true
digit_common b e =
    let r = range 48 57 b (decimal b ∙ e) in
    rw (le-leb 45 b (omega arith), le-leb b 90 (omega arith))
