-- The bytes of a word judged at once, over the width. Assumes nothing.
use Rattle.std.proofs.Common.{◌≡◌, ℕ, zero, suc, ◌+◌, ◌-◌, ◌*◌, ◌/◌, ◌%◌, ◌^◌, ◌<◌, ◌≤◌, Bool, true, false, ◌&&◌, eqb, leb, sym, refl, ap, ◌∙◌, ap₂, mul-le-mul_right, mod-eq_of_lt, mul_assoc, add-mul, pow-suc, arith, lit<, pow_pos, pow-add, eq-eqb, eqb-true, le-leb, leb-true}
use native.Mathlib.Nat.{pow-zero}
use lib.Bits.{bit_and, and_block, and_high, and_zero_r}
use Rattle.word.specs.Word.{word_bytes}
use Rattle.octets.proofs.Theorems.{and_parts}
use Rattle.octets.proofs.Folds.{each}
use Rattle.notice.specs.Field.{printable}

high_bit : (b : ℕ) → b < 256 → bit_and b 128 ≡ b / 128 * 128
high_bit b h = let q : b / 128 < 2 = omega arith in and_high b 1 7 ∙ ap (λ (n : ℕ). n * 128) (mod-eq_of_lt q)

-- the high bits of a word: those of its lowest byte b and those of the rest r
module _ (k b r : ℕ) (h : b < 256) where
  high_bits : bit_and (r * 256 + b) (each 128 (suc k)) ≡ bit_and r (each 128 k) * 256 + bit_and b 128
  high_bits = and_block 8 r (each 128 k) b 128 h (lit< tt)

  clear_parts : bit_and (r * 256 + b) (each 128 (suc k)) ≡ 0 → (b < 128) × (bit_and r (each 128 k) ≡ 0)
  clear_parts e = (omega (arith, e, high_bits, high_bit b h), omega (arith, e, high_bits))

  parts_clear : b < 128 → bit_and r (each 128 k) ≡ 0 → bit_and (r * 256 + b) (each 128 (suc k)) ≡ 0
  parts_clear l e = omega (arith, e, l, high_bits, high_bit b h)

parts : (x : ℕ) → x ≡ x / 256 * 256 + x % 256
parts x = omega arith

clear_small : (k x : ℕ) → x < 256 ^ k → bit_and x (each 128 k) ≡ 0 → x ≤ each 127 k
clear_small zero x h e = let m : x < 1 = rw (pow-zero 256) at h in omega arith
clear_small (suc k) x h e =
    let m : x < 256 ^ k * 256 = rw (pow-suc 256 k) at h in
    let p = clear_parts k (x % 256) (x / 256) (omega arith) (ap (λ (y : ℕ). bit_and y (each 128 (suc k))) (sym (parts x)) ∙ e) in
    let ih = clear_small k (x / 256) (omega arith) p.1 in
    omega (arith, ih, p.0)

-- the tests: no byte has its high bit, nor has it with 1 more, nor has what is left of 159
record Clear (k x : ℕ) : Type 0 where
  pub plain : bit_and x (each 128 k) ≡ 0
  pub high : bit_and (x + each 1 k) (each 128 k) ≡ 0
  pub low : bit_and (each 159 k - x) (each 128 k) ≡ 0

each_le : (k : ℕ) → each 127 k ≤ each 159 k
each_le zero = omega arith
each_le (suc k) = let ih = each_le k in omega arith

clear_right : (k x : ℕ) → x < 256 ^ k → Clear k x → printable (word_bytes k x) ≡ true
unfolding word_bytes
clear_right zero x h c = refl
clear_right (suc k) x h c =
    let m : x < 256 ^ k * 256 = rw (pow-suc 256 k) at h in
    let r = x / 256 in
    let b = x % 256 in
    let p = clear_parts k b r (omega arith) (ap (λ (y : ℕ). bit_and y (each 128 (suc k))) (sym (parts x)) ∙ c.plain) in
    let s = clear_small k r (omega arith) p.1 in
    let eh : (r + each 1 k) * 256 + (b + 1) ≡ x + each 1 (suc k) = omega arith in
    let el : (each 159 k - r) * 256 + (159 - b) ≡ each 159 (suc k) - x = omega (arith, s, each_le k, p.0) in
    let q = clear_parts k (b + 1) (r + each 1 k) (omega (arith, p.0)) (ap (λ (y : ℕ). bit_and y (each 128 (suc k))) eh ∙ c.high) in
    let t = clear_parts k (159 - b) (each 159 k - r) (omega arith) (ap (λ (y : ℕ). bit_and y (each 128 (suc k))) el ∙ c.low) in
    let ih = clear_right k r (omega arith) (record { plain = p.1; high = q.1; low = t.1 }) in
    rw (le-leb 32 b (omega (arith, t.0)), le-leb b 126 (omega (arith, q.0))) ih

right_clear : (k x : ℕ) → x < 256 ^ k → printable (word_bytes k x) ≡ true → Clear k x
unfolding word_bytes
right_clear zero x h e = record { plain = and_zero_r x; high = and_zero_r (x + 0); low = and_zero_r (0 - x) }
right_clear (suc k) x h e =
    let m : x < 256 ^ k * 256 = rw (pow-suc 256 k) at h in
    let r = x / 256 in
    let b = x % 256 in
    let p = and_parts (leb 32 b && leb b 126) (printable (word_bytes k r)) e in
    let q = and_parts (leb 32 b) (leb b 126) p.0 in
    let l : 32 ≤ b = leb-true 32 b q.0 in
    let u : b ≤ 126 = leb-true b 126 q.1 in
    let ih = right_clear k r (omega arith) p.1 in
    let s = clear_small k r (omega arith) ih.plain in
    let eh : (r + each 1 k) * 256 + (b + 1) ≡ x + each 1 (suc k) = omega arith in
    let el : (each 159 k - r) * 256 + (159 - b) ≡ each 159 (suc k) - x = omega (arith, s, each_le k, u) in
    record {
      plain = ap (λ (y : ℕ). bit_and y (each 128 (suc k))) (parts x) ∙ parts_clear k b r (omega arith) (omega arith) ih.plain;
      high = ap (λ (y : ℕ). bit_and y (each 128 (suc k))) (sym eh) ∙ parts_clear k (b + 1) (r + each 1 k) (omega arith) (omega arith) ih.high;
      low = ap (λ (y : ℕ). bit_and y (each 128 (suc k))) (sym el) ∙ parts_clear k (159 - b) (each 159 k - r) (omega arith) (omega arith) ih.low;
    }

-- the word of k + m bytes c: its k highest and its m lowest
each_parts : (c k m : ℕ) → each c (k + m) ≡ each c k * 256 ^ m + each c m
each_parts c k zero = let z : k + 0 ≡ k = omega arith in rw (pow-zero 256) (ap (each c) z ∙ omega arith)
each_parts c k (suc m) =
    let z : k + suc m ≡ suc (k + m) = omega arith in
    let ih = each_parts c k m in
    let p : each c k * 256 ^ suc m ≡ each c k * 256 ^ m * 256 = ap (λ (n : ℕ). each c k * n) (pow-suc 256 m) ∙ sym (mul_assoc (each c k) (256 ^ m) 256) in
    ap (each c) z ∙ omega (arith, ih, p)

pub two_power : (m : ℕ) → 2 ^ (m * 8) ≡ 256 ^ m
two_power zero = refl
two_power (suc m) = let z : suc m * 8 ≡ m * 8 + 8 = omega arith in rw (z, pow-add 2 (m * 8) 8, pow-suc 256 m, two_power m) refl

-- the high bits of all bytes but the m lowest
abbrev mask : ℕ → ℕ
mask m = (0x8080_8080_8080_8080 * 2 ^ (m * 8)) % 2 ^ 64

mask_is : (m : ℕ) → m < 8 → mask m ≡ each 128 (8 - m) * 2 ^ (m * 8)
mask_is zero h = refl
mask_is (suc zero) h = refl
mask_is (suc (suc zero)) h = refl
mask_is (suc (suc (suc zero))) h = refl
mask_is (suc (suc (suc (suc zero)))) h = refl
mask_is (suc (suc (suc (suc (suc zero))))) h = refl
mask_is (suc (suc (suc (suc (suc (suc zero)))))) h = refl
mask_is (suc (suc (suc (suc (suc (suc (suc zero))))))) h = refl
mask_is (suc (suc (suc (suc (suc (suc (suc (suc m)))))))) h = absurd (omega arith)

no_part : (z p : ℕ) → 0 < p → z * p ≡ 0 → z ≡ 0
no_part zero p h e = refl
no_part (suc z) p h e = let o : suc z ≡ z + 1 = omega arith in let f : z * p + 1 * p ≡ 0 = sym (add-mul z 1 p) ∙ (ap (λ (n : ℕ). n * p) (sym o) ∙ e) in absurd (omega (arith, f, h))

-- the answer of `word_right`, for a word of the bytes of y over m bytes 0
module _ (m y : ℕ) (h : m < 8) (f : y < 256 ^ (8 - m)) where
  abbrev k : ℕ
  k = 8 - m

  abbrev x : ℕ
  x = y * 256 ^ m

  some : 0 < 256 ^ m
  some = rw (← two_power m) (pow_pos (m * 8))

  split : (c : ℕ) → each c 8 ≡ each c k * 256 ^ m + each c m
  split c = let z : 8 ≡ k + m = omega arith in ap (each c) z ∙ each_parts c k m

  -- the bits of the mask in a number of the parts a and r
  masked : (a r : ℕ) → r < 256 ^ m → bit_and (a * 256 ^ m + r) (mask m) ≡ bit_and a (each 128 k) * 256 ^ m
  masked a r l =
      let e : mask m ≡ each 128 k * 2 ^ (m * 8) + 0 = mask_is m h ∙ omega arith in
      let l2 : r < 2 ^ (m * 8) = rw (two_power m) l in
      rw (e, ← two_power m) (and_block (m * 8) a (each 128 k) r 0 l2 (pow_pos (m * 8)) ∙ (ap (λ (n : ℕ). bit_and a (each 128 k) * 2 ^ (m * 8) + n) (and_zero_r r) ∙ omega arith))

  plain_is : bit_and x (mask m) ≡ bit_and y (each 128 k) * 256 ^ m
  plain_is = let z : x ≡ x + 0 = omega arith in ap (λ (n : ℕ). bit_and n (mask m)) z ∙ masked y 0 some

  -- the sum and the difference, where no byte has its high bit
  module _ (e : bit_and y (each 128 k) ≡ 0) where
    small : y ≤ each 127 k
    small = clear_small k y f e

    few : x ≤ each 127 8
    few = let p : x ≤ each 127 k * 256 ^ m = mul-le-mul_right (256 ^ m) small in omega (arith, p, split 127)

    high_is : (high : ℕ) → high ≡ (x + each 1 8) % 2 ^ 64 → high ≡ (y + each 1 k) * 256 ^ m + each 1 m
    high_is high d = let q : x + each 1 8 < 2 ^ 64 = omega (arith, few) in d ∙ (mod-eq_of_lt q ∙ omega (arith, split 1, add-mul y (each 1 k) (256 ^ m)))

    low_is : (low : ℕ) → low < 2 ^ 64 → (low + x) % 2 ^ 64 ≡ each 159 8 → low ≡ (each 159 k - y) * 256 ^ m + each 159 m
    low_is low l d =
        let q : each 159 k - y + y ≡ each 159 k = omega (arith, small, each_le k) in
        let p : (each 159 k - y) * 256 ^ m + x ≡ each 159 k * 256 ^ m = sym (add-mul (each 159 k - y) y (256 ^ m)) ∙ ap (λ (n : ℕ). n * 256 ^ m) q in
        omega (arith, l, d, few, p, split 159)

  each_short : (c j : ℕ) → c < 256 → each c j < 256 ^ j
  each_short c zero l = rw (pow-zero 256) (omega arith)
  each_short c (suc j) l = let ih = each_short c j l in rw (pow-suc 256 j) (omega (arith, ih, l))

  module _ (high low : ℕ) (d : high ≡ (x + each 1 8) % 2 ^ 64) (l : low < 2 ^ 64) (g : (low + x) % 2 ^ 64 ≡ each 159 8) where
    high_bits_is : bit_and y (each 128 k) ≡ 0 → bit_and high (mask m) ≡ bit_and (y + each 1 k) (each 128 k) * 256 ^ m
    high_bits_is e = ap (λ (n : ℕ). bit_and n (mask m)) (high_is e high d) ∙ masked (y + each 1 k) (each 1 m) (each_short 1 m (lit< tt))

    low_bits_is : bit_and y (each 128 k) ≡ 0 → bit_and low (mask m) ≡ bit_and (each 159 k - y) (each 128 k) * 256 ^ m
    low_bits_is e = ap (λ (n : ℕ). bit_and n (mask m)) (low_is e low l g) ∙ masked (each 159 k - y) (each 159 m) (each_short 159 m (lit< tt))

    pub by_tests : (eqb (bit_and x (mask m)) 0 && (eqb (bit_and high (mask m)) 0 && eqb (bit_and low (mask m)) 0)) ≡ printable (word_bytes k y)
    by_tests = go (printable (word_bytes k y)) (eqb (bit_and x (mask m)) 0) (eqb (bit_and high (mask m)) 0) (eqb (bit_and low (mask m)) 0) refl refl refl refl
      where
        none : (n z : ℕ) → n ≡ z * 256 ^ m → z ≡ 0 → eqb n 0 ≡ true
        none n z p q = eq-eqb n 0 (p ∙ (ap (λ (i : ℕ). i * 256 ^ m) q ∙ omega arith))

        go : (t a b c : Bool) → printable (word_bytes k y) ≡ t → eqb (bit_and x (mask m)) 0 ≡ a → eqb (bit_and high (mask m)) 0 ≡ b → eqb (bit_and low (mask m)) 0 ≡ c → (a && (b && c)) ≡ t
        go true a b c p q r s =
            let w = right_clear k y f p in
            ap₂ ◌&&◌ (sym q ∙ none _ _ plain_is w.plain) (ap₂ ◌&&◌ (sym r ∙ none _ _ (high_bits_is w.plain) w.high) (sym s ∙ none _ _ (low_bits_is w.plain) w.low))
        go false true true true p q r s =
            let e = no_part (bit_and y (each 128 k)) (256 ^ m) some (sym plain_is ∙ eqb-true _ 0 q) in
            let u = no_part (bit_and (y + each 1 k) (each 128 k)) (256 ^ m) some (sym (high_bits_is e) ∙ eqb-true _ 0 r) in
            let v = no_part (bit_and (each 159 k - y) (each 128 k)) (256 ^ m) some (sym (low_bits_is e) ∙ eqb-true _ 0 s) in
            sym (clear_right k y f (record { plain = e; high = u; low = v })) ∙ p
        go false true true false p q r s = refl
        go false true false c p q r s = refl
        go false false b c p q r s = refl
