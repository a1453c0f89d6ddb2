-- Bytes that have no escape, told eight at once over the width, and run by run. Assumes nothing.
use mathlib.Core.Path.{◌≡◌, refl, sym, ap, ap₂, ◌∙◌}
use mathlib.Core.Bool.{Bool, true, false, not, ◌&&◌, ◌||◌}
use mathlib.Core.List.{List}
use Prim.Native.Nat.{ℕ, zero, suc, ◌+◌, ◌*◌, ◌/◌, ◌%◌, ◌^◌, ◌≤◌, ◌<◌}
use native.Mathlib.Nat.{pow-suc}
use native.Mathlib.Decide.{dec_lt}
use native.Mathlib.Omega.{arith}
use lib.Bits.{bit_and, bit_or, bit_xor, and_block, or_block, xor_block, and_high, and_mask, and_le_l, and_le_r, and_zero_r, or_lt, or_shr, or_add_and, xor_lt, xor_self, xor_add_and}
use lib.Dec.{eqb, lit<}
use lib.ListN.{get_or}
use borrow.Author.Tests.{eqb-true, eqb-false, eq-eqb, ne_eqb, not-true}
use Rattle.word.specs.Word.{word_at, word_bytes, Bytes}
use Rattle.octets.proofs.Theorems.{and_parts}
use Rattle.octets.proofs.Folds.{each}
use Rattle.ubf.specs.Escape.{needs_escape, lacking, Plain}

-- ---- a word that lacks a byte

-- the high bits of the bytes of y that are not 0, of k bytes and of one
abbrev highs : ℕ → ℕ → ℕ
highs k y = bit_and (bit_or (bit_and y (each 127 k) + each 127 k) y) (each 128 k)

abbrev high : ℕ → ℕ
high a = bit_and (bit_or (bit_and a 127 + 127) a) 128

high_set : (a : ℕ) → a < 256 → 0 < a → high a ≡ 128
high_set a l p =
    let u = bit_and a 127 + 127 in
    let m : bit_and a 127 ≡ a % 128 = and_mask a 7 in
    let x = u / 128 in
    let y = a / 128 in
    let s : bit_or u a / 128 ≡ bit_or x y = or_shr u a 7 in
    let o : bit_or x y < 2 = or_lt 1 x y (omega (arith, m)) (omega arith) in
    let b : bit_or x y ≡ 1 = omega (arith, m, o, or_add_and x y, and_le_l x y, and_le_r x y) in
    let h : high a ≡ bit_or u a / 128 % 2 * 128 = and_high (bit_or u a) 1 7 in
    omega (arith, h, s, b)

byte_high : (a : ℕ) → a < 256 → eqb (high a) 128 ≡ not (eqb a 0)
byte_high a l = go (dec_lt 0 a)
  where
    go : Dec (0 < a) → eqb (high a) 128 ≡ not (eqb a 0)
    go (yes p) = eq-eqb (high a) 128 (high_set a l p) ∙ sym (ap not (ne_eqb a 0 (λ e. omega arith)))
    go (no p) = let z : a ≡ 0 = omega arith in rw z

byte_same : (b q : ℕ) → eqb (bit_xor b q) 0 ≡ eqb b q
byte_same b q = go (eqb b q) refl
  where
    go : (t : Bool) → eqb b q ≡ t → eqb (bit_xor b q) 0 ≡ t
    go true e = eq-eqb (bit_xor b q) 0 (ap (λ (n : ℕ). bit_xor n q) (eqb-true b q e) ∙ xor_self q)
    go false e = ne_eqb (bit_xor b q) 0 (λ z. eqb-false b q e (omega (arith, z, xor_add_and b q, and_le_l b q, and_le_r b q)))

same_parts : (m n a b : ℕ) → a < 256 → b < 256 → eqb (m * 256 + a) (n * 256 + b) ≡ (eqb a b && eqb m n)
same_parts m n a b l h = go (eqb a b) (eqb m n) refl refl
  where
    go : (t u : Bool) → eqb a b ≡ t → eqb m n ≡ u → eqb (m * 256 + a) (n * 256 + b) ≡ (t && u)
    go true true e f = eq-eqb (m * 256 + a) (n * 256 + b) (omega (arith, eqb-true a b e, eqb-true m n f))
    go true false e f = ne_eqb (m * 256 + a) (n * 256 + b) (λ z. eqb-false m n f (omega (arith, z)))
    go false u e f = ne_eqb (m * 256 + a) (n * 256 + b) (λ z. eqb-false a b e (omega (arith, z)))

-- each step goes byte by byte: of the lowest byte a and of the rest r
high_parts : (k r a : ℕ) → a < 256 → highs (suc k) (r * 256 + a) ≡ highs k r * 256 + high a
high_parts k r a l =
    let low : bit_and (r * 256 + a) (each 127 (suc k)) ≡ bit_and r (each 127 k) * 256 + bit_and a 127 = and_block 8 r (each 127 k) a 127 l (lit< tt) in
    let small : bit_and a 127 ≤ 127 = and_le_r a 127 in
    let u = bit_and r (each 127 k) + each 127 k in
    let v = bit_and a 127 + 127 in
    let sum : bit_and (r * 256 + a) (each 127 (suc k)) + each 127 (suc k) ≡ u * 256 + v = omega (arith, low) in
    ap (λ (n : ℕ). bit_and (bit_or n (r * 256 + a)) (each 128 (suc k))) sum
    ∙ (ap (λ (n : ℕ). bit_and n (each 128 (suc k))) (or_block 8 u r v a (omega (arith, small)) l)
    ∙ and_block 8 (bit_or u r) (each 128 k) (bit_or v a) 128 (or_lt 8 v a (omega (arith, small)) l) (lit< tt))

lacked : (k x q : ℕ) → q < 256 → x < 256 ^ k → eqb (highs k (bit_xor x (each q k))) (each 128 k) ≡ lacking q (word_bytes k x)
unfolding word_bytes
lacked zero x q l h = eq-eqb (highs zero (bit_xor x 0)) 0 (and_zero_r (bit_or (bit_and (bit_xor x 0) 0 + 0) (bit_xor x 0)))
lacked (suc k) x q l h =
    let m : x < 256 ^ k * 256 = rw (pow-suc 256 k) at h in
    let r = x / 256 in
    let b = x % 256 in
    let e : x ≡ r * 256 + b = omega arith in
    let a = bit_xor b q in
    let y = bit_xor r (each q k) in
    let f : bit_xor x (each q (suc k)) ≡ y * 256 + a = ap (λ (n : ℕ). bit_xor n (each q (suc k))) e ∙ xor_block 8 r (each q k) b q (omega arith) l in
    let s : a < 256 = xor_lt 8 b q (omega arith) l in
    let z : high a ≤ 128 = and_le_r (bit_or (bit_and a 127 + 127) a) 128 in
    ap (λ (n : ℕ). eqb n (each 128 (suc k))) (ap (highs (suc k)) f ∙ high_parts k y a s)
    ∙ (same_parts (highs k y) (each 128 k) (high a) 128 (omega (arith, z)) (lit< tt)
    ∙ ap₂ ◌&&◌ (byte_high a s ∙ ap not (byte_same b q)) (lacked k r q l (omega arith)))

-- the answers of `lacks`
module _ (x q : ℕ) where
  abbrev other : ℕ
  other = bit_xor x (q * 0x0101_0101_0101_0101)

  pub sum_fits : bit_and other 0x7f7f_7f7f_7f7f_7f7f + 0x7f7f_7f7f_7f7f_7f7f < 0x1_0000_0000_0000_0000
  sum_fits = let s : bit_and other 0x7f7f_7f7f_7f7f_7f7f ≤ 0x7f7f_7f7f_7f7f_7f7f = and_le_r other 0x7f7f_7f7f_7f7f_7f7f in omega (arith, s)

  pub word_lacks : x < 0x1_0000_0000_0000_0000 → q < 256 → eqb (bit_and (bit_or (bit_and other 0x7f7f_7f7f_7f7f_7f7f + 0x7f7f_7f7f_7f7f_7f7f) other) 0x8080_8080_8080_8080) 0x8080_8080_8080_8080 ≡ lacking q (word_bytes 8 x)
  word_lacks h l =
      let e : q * 0x0101_0101_0101_0101 ≡ each q 8 = omega arith in
      ap (λ (n : ℕ). eqb (highs 8 (bit_xor x n)) 0x8080_8080_8080_8080) e ∙ lacked 8 x q l h

-- ---- the bytes of such a word

lacks_byte : (k at q i : ℕ) (s : List ℕ) → Bytes s → lacking q (word_bytes k (word_at k s at)) ≡ true → at ≤ i → i < at + k → eqb (get_or s i 0) q ≡ false
unfolding word_at word_bytes
lacks_byte zero at q i s b e l h = absurd (omega arith)
lacks_byte (suc k) at q i s b e l h =
    let c = b at in
    let m : (get_or s at 0 + 256 * word_at k s (suc at)) % 256 ≡ get_or s at 0 = omega arith in
    let d : (get_or s at 0 + 256 * word_at k s (suc at)) / 256 ≡ word_at k s (suc at) = omega arith in
    let p = and_parts (not (eqb (get_or s at 0) q)) (lacking q (word_bytes k (word_at k s (suc at)))) (rw (m, d) at e) in
    go (dec_lt at i) p.0 (λ f. lacks_byte k (suc at) q i s b p.1 f (omega arith))
  where
    go : Dec (at < i) → not (eqb (get_or s at 0) q) ≡ true → (at < i → eqb (get_or s i 0) q ≡ false) → eqb (get_or s i 0) q ≡ false
    go (yes f) p r = r f
    go (no f) p r = let z : i ≡ at = omega arith in ap (λ (n : ℕ). eqb (get_or s n 0) q) z ∙ not-true (eqb (get_or s at 0) q) p

-- the answers of `plain_at`
pub word_plain : (s : List ℕ) (at q x : ℕ) → Bytes s → x ≡ word_at 8 s at → (lacking q (word_bytes 8 x) && lacking 92 (word_bytes 8 x)) ≡ true → Plain s q at (at + 8)
word_plain s at q x b e h i l m =
    let p = and_parts (lacking q (word_bytes 8 x)) (lacking 92 (word_bytes 8 x)) h in
    let f = lacks_byte 8 at q i s b (ap (λ (n : ℕ). lacking q (word_bytes 8 n)) (sym e) ∙ p.0) l m in
    let g = lacks_byte 8 at 92 i s b (ap (λ (n : ℕ). lacking 92 (word_bytes 8 n)) (sym e) ∙ p.1) l m in
    ap₂ ◌||◌ f g

-- ---- one run after the other

module _ (s : List ℕ) (q at : ℕ) where
  pub plain_none : Plain s q at at
  plain_none i l h = absurd (omega arith)

  pub plain_more : (i end : ℕ) → Plain s q at i → Plain s q i end → Plain s q at end
  plain_more i end p r j l h = go (dec_lt j i)
    where
      go : Dec (j < i) → needs_escape q (get_or s j 0) ≡ false
      go (yes f) = p j l f
      go (no f) = r j (omega arith) h

  pub plain_one : (i : ℕ) → Plain s q at i → needs_escape q (get_or s i 0) ≡ false → Plain s q at (i + 1)
  plain_one i p e = plain_more i (i + 1) p (λ j l h. let z : j ≡ i = omega arith in ap (λ (n : ℕ). needs_escape q (get_or s n 0)) z ∙ e)
