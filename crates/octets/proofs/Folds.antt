-- The bytes of a word folded at once, over the width. Assumes nothing.
use mathlib.Core.Path.{◌≡◌, refl, sym, ap, ap₂, ◌∙◌}
use mathlib.Core.Logic.{◌↔◌}
use mathlib.Core.Bool.{Bool, true, false, cond, ◌&&◌}
use mathlib.Core.List.{List, [], ◌∷◌, map}
use Prim.Native.Nat.{ℕ, zero, suc, ◌+◌, ◌*◌, ◌/◌, ◌%◌, ◌^◌, ◌≤◌, ◌<◌}
use native.Mathlib.Nat.{pow-zero, pow-suc}
use native.Mathlib.Decide.{dec_lt}
use native.Mathlib.Omega.{arith}
use lib.Bits.{bit_and, bit_or, bit_xor, and_block, xor_block, and_le_r, and_zero_r, or_zero_r, and_lt, xor_lt}
use lib.Dec.{eqb, leb, ltb, lit<}
use lib.ListN.{get_or, get_or-map}
use borrow.Author.Tests.{eqb-true, ltb-true}
use Rattle.word.specs.Word.{word_at, word_bytes, Bytes}
use Rattle.word.proofs.Theorems.{word_shift}
use Rattle.octets.specs.Octets.{lower, fold, folded}
use Rattle.octets.proofs.Theorems.{and_parts, not_folded}

-- the word of k bytes c
abbrev pub each : ℕ → ℕ → ℕ
each c zero = 0
each c (suc k) = each c k * 256 + c

-- the high bits of the bytes A..Z of x, by words of bytes 127, 63, 37 and 128
abbrev upper_by : ℕ → ℕ → ℕ → ℕ → ℕ → ℕ
upper_by ones from past high x = bit_and (bit_and (bit_xor (bit_and x ones + from) (bit_and x ones + past)) (bit_xor x high)) high

abbrev upper : ℕ → ℕ → ℕ
upper k x = upper_by (each 127 k) (each 63 k) (each 37 k) (each 128 k) x

-- of one byte, by a test of all 256
abbrev upper_byte : ℕ → ℕ
upper_byte b = upper_by 127 63 37 128 b

abbrev right : ℕ → Bool
right b = eqb (b + upper_byte b / 4) (lower b) && (eqb (upper_byte b % 4) 0 && ltb (lower b) 256)

abbrev tested : (ℕ → Bool) → ℕ → Bool
tested q zero = true
tested q (suc n) = q n && tested q n

tested_each : (q : ℕ → Bool) (n b : ℕ) → tested q n ≡ true → b < n → q b ≡ true
tested_each q zero b e h = absurd (omega arith)
tested_each q (suc n) b e h = go (dec_lt b n) (and_parts (q n) (tested q n) e) (tested_each q n b)
  where
    go : Dec (b < n) → (q n ≡ true) × (tested q n ≡ true) → (tested q n ≡ true → b < n → q b ≡ true) → q b ≡ true
    go (yes l) p ih = ih p.1 l
    go (no f) p ih = let e2 : b ≡ n = omega arith in ap q e2 ∙ p.0

byte_right : (b : ℕ) → b < 256 → (b + upper_byte b / 4 ≡ lower b) × (upper_byte b % 4 ≡ 0) × (lower b < 256)
byte_right b h =
    let p = and_parts (eqb (b + upper_byte b / 4) (lower b)) (eqb (upper_byte b % 4) 0 && ltb (lower b) 256) (tested_each right 256 b refl h) in
    let q = and_parts (eqb (upper_byte b % 4) 0) (ltb (lower b) 256) p.1 in
    (eqb-true _ _ p.0, eqb-true _ _ q.0, ltb-true _ _ q.1)

-- the bit in which a..z differ from A..Z, if b is a letter
abbrev bit : ℕ → ℕ
bit b = cond (leb 97 (bit_or b 32) && leb (bit_or b 32) 122) 32 0

abbrev bit_right : ℕ → Bool
bit_right c = eqb (lower c) (bit_or c (bit c)) && (eqb (bit (lower c)) (bit c) && eqb (bit (bit_or c 32)) (bit c))

byte_bit : (c : ℕ) → c < 256 → (lower c ≡ bit_or c (bit c)) × (bit (lower c) ≡ bit c) × (bit (bit_or c 32) ≡ bit c)
byte_bit c h =
    let p = and_parts (eqb (lower c) (bit_or c (bit c))) (eqb (bit (lower c)) (bit c) && eqb (bit (bit_or c 32)) (bit c)) (tested_each bit_right 256 c refl h) in
    let q = and_parts (eqb (bit (lower c)) (bit c)) (eqb (bit (bit_or c 32)) (bit c)) p.1 in
    (eqb-true _ _ p.0, eqb-true _ _ q.0, eqb-true _ _ q.1)

-- which bytes fold to b: those that are b with its bit
module _ (b c : ℕ) (h : c < 256) where
  same_bit : bit_or c (bit b) ≡ b → bit b ≡ bit c
  same_bit = go (leb 97 (bit_or b 32) && leb (bit_or b 32) 122) refl
    where
      go : (l : Bool) → (leb 97 (bit_or b 32) && leb (bit_or b 32) 122) ≡ l → bit_or c (cond l 32 0) ≡ b → bit b ≡ bit c
      go true m e = ap bit (sym e) ∙ (byte_bit c h).2
      go false m e = ap bit (sym e ∙ or_zero_r c)

  lower_told : (bit_or c (bit b) ≡ b) ↔ (lower c ≡ b)
  lower_told =
      let p = byte_bit c h in (
        λ e. p.0 ∙ (ap (bit_or c) (sym (same_bit e)) ∙ e),
        λ e. ap (bit_or c) (ap bit (sym e) ∙ p.1) ∙ (sym p.0 ∙ e),
      )

pub folds_to : (mark : Bool) (b c : ℕ) → c < 256 → (bit_or c (cond ((mark && leb 97 (bit_or b 32)) && leb (bit_or b 32) 122) 32 0) ≡ b) ↔ (fold mark c ≡ b)
folds_to true b c h = lower_told b c h
folds_to false b c h = (λ e. sym (or_zero_r c) ∙ e, λ e. or_zero_r c ∙ e)

-- each step goes byte by byte: of the lowest byte b and of the rest r
module _ (k b r : ℕ) (h : b < 256) where
  abbrev low : ℕ
  low = bit_and b 127

  abbrev lows : ℕ
  lows = bit_and r (each 127 k)

  low_small : low ≤ 127
  low_small = and_le_r b 127

  low_parts : bit_and (r * 256 + b) (each 127 (suc k)) ≡ lows * 256 + low
  low_parts = and_block 8 r (each 127 k) b 127 h (lit< tt)

  sum_parts : (c : ℕ) → bit_and (r * 256 + b) (each 127 (suc k)) + each c (suc k) ≡ (lows + each c k) * 256 + (low + c)
  sum_parts c = omega (arith, low_parts)

  xor_parts : bit_xor ((lows + each 63 k) * 256 + (low + 63)) ((lows + each 37 k) * 256 + (low + 37)) ≡ bit_xor (lows + each 63 k) (lows + each 37 k) * 256 + bit_xor (low + 63) (low + 37)
  xor_parts = xor_block 8 (lows + each 63 k) (lows + each 37 k) (low + 63) (low + 37) (omega (arith, low_small)) (omega (arith, low_small))

  xor_small : bit_xor (low + 63) (low + 37) < 256
  xor_small = xor_lt 8 (low + 63) (low + 37) (omega (arith, low_small)) (omega (arith, low_small))

  high_parts : bit_xor (r * 256 + b) (each 128 (suc k)) ≡ bit_xor r (each 128 k) * 256 + bit_xor b 128
  high_parts = xor_block 8 r (each 128 k) b 128 h (lit< tt)

  upper_parts : upper (suc k) (r * 256 + b) ≡ upper k r * 256 + upper_byte b
  upper_parts =
      ap₂ (λ (y z : ℕ). bit_and (bit_and y z) (each 128 (suc k))) (ap₂ bit_xor (sum_parts 63) (sum_parts 37) ∙ xor_parts) high_parts
      ∙ (ap (λ (y : ℕ). bit_and y (each 128 (suc k))) (and_block 8 (bit_xor (lows + each 63 k) (lows + each 37 k)) (bit_xor r (each 128 k)) (bit_xor (low + 63) (low + 37)) (bit_xor b 128) xor_small (xor_lt 8 b 128 h (lit< tt)))
      ∙ and_block 8 (bit_and (bit_xor (lows + each 63 k) (lows + each 37 k)) (bit_xor r (each 128 k))) (each 128 k) (bit_and (bit_xor (low + 63) (low + 37)) (bit_xor b 128)) 128 (and_lt 8 (bit_xor (low + 63) (low + 37)) (bit_xor b 128) xor_small (xor_lt 8 b 128 h (lit< tt))) (lit< tt))

lowered : (k x : ℕ) → x < 256 ^ k → (x + upper k x / 4 ≡ word_at k (map lower (word_bytes k x)) 0) × (upper k x % 4 ≡ 0) × (x + upper k x / 4 < 256 ^ k)
unfolding word_at word_bytes
lowered zero x h =
    let m : x < 1 = rw (pow-zero 256) at h in
    let u : upper zero x ≡ 0 = and_zero_r (bit_and (bit_xor (bit_and x 0 + 0) (bit_and x 0 + 0)) (bit_xor x 0)) in
    (omega (arith, u), omega (arith, u), rw (pow-zero 256) (omega (arith, u)))
lowered (suc k) x h =
    let m : x < 256 ^ k * 256 = rw (pow-suc 256 k) at h in
    let r = x / 256 in
    let b = x % 256 in
    let e : x ≡ r * 256 + b = omega arith in
    let u : upper (suc k) x ≡ upper k r * 256 + upper_byte b = ap (λ (y : ℕ). upper (suc k) y) e ∙ upper_parts k b r (omega arith) in
    let ih = lowered k r (omega arith) in
    let p = byte_right b (omega arith) in
    let sh : word_at k (lower b ∷ map lower (word_bytes k r)) 1 ≡ word_at k (map lower (word_bytes k r)) 0 = word_shift k 0 (lower b ∷ []) (map lower (word_bytes k r)) in
    (omega (arith, u, ih.0, ih.1, p.0, p.1, sh), omega (arith, u, p.1), rw (pow-suc 256 k) (omega (arith, u, ih.1, ih.2, p.0, p.1, p.2)))

-- the answers of `lower_word`
module _ (x : ℕ) where
  abbrev low_bits : ℕ
  low_bits = bit_and x 0x7f7f_7f7f_7f7f_7f7f

  pub sum_fits : (c : ℕ) → c ≤ 0x8080_8080_8080_8080 → low_bits + c < 0x1_0000_0000_0000_0000
  sum_fits c l = let s : low_bits ≤ 0x7f7f_7f7f_7f7f_7f7f = and_le_r x 0x7f7f_7f7f_7f7f_7f7f in omega (arith, s)

  abbrev word : ℕ
  word = x + bit_and (bit_and (bit_xor (low_bits + 0x3f3f_3f3f_3f3f_3f3f) (low_bits + 0x2525_2525_2525_2525)) (bit_xor x 0x8080_8080_8080_8080)) 0x8080_8080_8080_8080 / 4

  module _ (h : x < 0x1_0000_0000_0000_0000) where
    pub word_fits : word < 0x1_0000_0000_0000_0000
    word_fits = (lowered 8 x h).2

    pub word_lower : word ≡ word_at 8 (map lower (word_bytes 8 x)) 0
    word_lower = (lowered 8 x h).0

-- the answers of `word_under`
lower_read : (k at : ℕ) (s : List ℕ) → Bytes s → word_at k (map lower (word_bytes k (word_at k s at))) 0 ≡ word_at k (map lower s) at
unfolding word_at word_bytes
lower_read zero at s b = refl
lower_read (suc k) at s b =
    let l = b at in
    let m : (get_or s at 0 + 256 * word_at k s (suc at)) % 256 ≡ get_or s at 0 = omega arith in
    let d : (get_or s at 0 + 256 * word_at k s (suc at)) / 256 ≡ word_at k s (suc at) = omega arith in
    let ih = lower_read k (suc at) s b in
    let g : get_or (map lower s) at 0 ≡ lower (get_or s at 0) = get_or-map lower s at 0 in
    let sh : word_at k (lower (get_or s at 0) ∷ map lower (word_bytes k (word_at k s (suc at)))) 1 ≡ word_at k (map lower (word_bytes k (word_at k s (suc at)))) 0 = word_shift k 0 (lower (get_or s at 0) ∷ []) (map lower (word_bytes k (word_at k s (suc at)))) in
    rw (m, d, sh, ih, g)

module _ (mark : Bool) (s : List ℕ) (at x : ℕ) (e : x ≡ word_at 8 s at) where
  pub under_mark : mark ≡ true → Bytes s → word_at 8 (map lower (word_bytes 8 x)) 0 ≡ word_at 8 (folded mark s) at
  under_mark m b = rw (m, e) (lower_read 8 at s b)

  pub under_none : mark ≡ false → x ≡ word_at 8 (folded mark s) at
  under_none m = rw (m, not_folded s) e

-- what is folded are bytes
pub folded_bytes : (mark : Bool) (s : List ℕ) → Bytes s → Bytes (folded mark s)
folded_bytes true s b i = let g : get_or (map lower s) i 0 ≡ lower (get_or s i 0) = get_or-map lower s i 0 in rw g (byte_right (get_or s i 0) (b i)).2
folded_bytes false s b i = rw (not_folded s) (b i)
