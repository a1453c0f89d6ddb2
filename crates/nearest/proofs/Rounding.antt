-- What rounding to the nearest sees of an integer. Assumes nothing.
-- `whole_sum`, `add_at`, `whole_scaled`, `scale_at`, `negated` are those of std's proofs/num/Nearest.antt, which keeps them private; `scale_at` is over the sign here.
use Rattle.std.proofs.Common.{◌≡◌, ℕ, zero, suc, ◌+◌, ◌-◌, ◌*◌, ◌/◌, ◌%◌, ◌^◌, ◌<◌, ◌≤◌, min, Bool, true, false, cond, not, T, eqb, ltb, ◌⊎◌, pos, negsuc, sym, refl, ap, ◌∙◌, subst, inl, inr, le_trans, le_of_eq, lt_of_lt_of_le, lt_of_le_of_lt, le_of_lt, lt_irrefl, mul-le-mul_right, zero-lt-suc, mul_assoc, suc-mul, mul_comm, add-mul, le_antisymm, lt_of_mul-lt-mul_right, mul-pos, one-mul, lt_of_not-le, zero-mul, mul-one, mul_right_comm, div-one, arith, lit≤, eqb→eq, leb→le, pow_pos, pow_mono, pow-add, shl_lt}
use Prim.Native.Nat.{compare, Ordering}
use native.Mathlib.Nat.{div-div-eq-div-mul}
use lib.Dec.{is_le, compare_is_eq, nleb→lt, eqb_refl}
use lib.Arith.{lt_of_le-ne}
use lib.IntN.{nat_abs}
use lib.Signed.{lt_z}
use mir.Syntax.{w128}
use mir.Val.{SFits, to_z, of_z}
use mir.ValLaws.{to_z-of_z}
use borrow.Author.Tests.{ltb-true}
use Rattle.std.proofs.Common.{ℤ}
use lib.Pow.{high, low, mod-pow-add}
use lib.Ieee.{Float, nan, inf, fin, Format, binary64, prec, emax, up, down, size, odd, units, round, neg, add, sum, mul, of_int, in_float, of_bits}
use lib.Ieee as I
use lib.Ieee.Fits.{down_pos, round_is, core}
use lib.Ieee.Digits.{size-lt, size-le}
use lib.Ieee.Exact.{HasValue, round_exact}
use lib.Ieee.Nearest.{closest}
use lib.Ieee.Scale.{round_same}
use lib.Ieee.Back.{round_whole}
use Rattle.common.proofs.Choice.{true_false, false_true}

-- ---- a sum of whole numbers that are not negative, and a scaling of one of either sign
whole_sum : (m g n e a b : ℕ) → m * 1 ≡ a * e → n * 1 ≡ b * g → (m * g + n * e) * 1 ≡ (a + b) * (e * g)
whole_sum m g n e a b p q =
    mul-one (m * g + n * e)
    ∙ ap (λ (z : ℕ). z * g + n * e) (sym (mul-one m) ∙ p)
    ∙ ap (λ (z : ℕ). a * e * g + z * e) (sym (mul-one n) ∙ q)
    ∙ ap (λ (z : ℕ). z + b * g * e) (mul_assoc a e g)
    ∙ ap (λ (z : ℕ). a * (e * g) + z) (mul_assoc b g e ∙ ap (λ (z : ℕ). b * z) (mul_comm g e))
    ∙ sym (add-mul a b (e * g))

add_at : (f : Format) (x y : Float) (a b : ℕ) → HasValue x false a 1 → HasValue y false b 1 → add f x y ≡ round f false (a + b) 1
unfolding add sum
add_at f nan y a b h k = absurd h
add_at f (inf s) y a b h k = absurd h
add_at f (fin s m e) nan a b h k = absurd k
add_at f (fin s m e) (inf t) a b h k = absurd k
add_at f (fin true m e) (fin t n d) a b h k = true_false h.0
add_at f (fin false m e) (fin true n d) a b h k = true_false k.0
add_at f (fin false m e) (fin false n d) a b h k =
    round_same f false (m * up e * down d + n * up d * down e) (down e * down d) (a + b) 1 (mul-pos (down_pos e) (down_pos d)) (zero-lt-suc 0)
    (whole_sum (m * up e) (down d) (n * up d) (down e) a b h.1 k.1)

whole_scaled : (m e a p : ℕ) → m * 1 ≡ a * e → m * (1 * p) * 1 ≡ a * p * (e * 1)
whole_scaled m e a p h =
    mul-one (m * (1 * p))
    ∙ ap (λ (z : ℕ). m * z) (one-mul p)
    ∙ ap (λ (z : ℕ). z * p) (sym (mul-one m) ∙ h)
    ∙ mul_right_comm a e p
    ∙ sym (ap (λ (z : ℕ). a * p * z) (mul-one e))

scale_at : (f : Format) (s : Bool) (x : Float) (a k : ℕ) → HasValue x s a 1 → mul f x (fin false 1 (pos k)) ≡ round f s (a * 2 ^ k) 1
unfolding mul
scale_at f s nan a k h = absurd h
scale_at f s (inf t) a k h = absurd h
scale_at f true (fin false m e) a k h = false_true h.0
scale_at f false (fin true m e) a k h = true_false h.0
scale_at f true (fin true m e) a k h =
    round_same f true (m * up e * (1 * 2 ^ k)) (down e * 1) (a * 2 ^ k) 1 (mul-pos (down_pos e) (zero-lt-suc 0)) (zero-lt-suc 0) (whole_scaled (m * up e) (down e) a (2 ^ k) h.1)
scale_at f false (fin false m e) a k h =
    round_same f false (m * up e * (1 * 2 ^ k)) (down e * 1) (a * 2 ^ k) 1 (mul-pos (down_pos e) (zero-lt-suc 0)) (zero-lt-suc 0) (whole_scaled (m * up e) (down e) a (2 ^ k) h.1)

of_int_is : (f : Format) (n : ℕ) → of_int f (pos n) ≡ round f false n 1
unfolding of_int
of_int_is f n = refl

-- a real of 53 digits, and its product with a power of two, exactly
pub held : (a : ℕ) → a < 2 ^ 53 → HasValue (of_int binary64 (pos a)) false a 1
held a h = subst (λ (z : Float). HasValue z false a 1) (sym (of_int_is binary64 a)) (round_whole binary64 false a (le_of_lt h))

pub scaled_by : (s : Bool) (x : Float) (a k : ℕ) (c : Float) → HasValue x s a 1 → c ≡ fin false 1 (pos k) → a < 2 ^ 53 → k ≤ 900 → HasValue (mul binary64 x c) s (a * 2 ^ k) 1
scaled_by s x a k c v e h K =
    subst (λ (z : Float). HasValue z s (a * 2 ^ k) 1) (sym (ap (mul binary64 x) e ∙ scale_at binary64 s x a k v))
    (round_exact binary64 s (a * 2 ^ k) 1 a (k + 1074) (zero-lt-suc 0) h
    (lt_of_lt_of_le (shl_lt 53 (k + 1074) h) (pow_mono (room k K)))
    (mul_assoc a (2 ^ k) (2 ^ 1074) ∙ ap (λ (z : ℕ). a * z) (sym (pow-add 2 k 1074)) ∙ sym (mul-one (a * 2 ^ (k + 1074)))))
  where
    room : (k : ℕ) → k ≤ 900 → 53 + (k + 1074) ≤ 1074 + 1024
    room k h = omega arith

pub scaled : (a k : ℕ) (c : Float) → c ≡ fin false 1 (pos k) → a < 2 ^ 53 → k ≤ 900 → HasValue (mul binary64 (of_int binary64 (pos a)) c) false (a * 2 ^ k) 1
scaled a k c e h K = scaled_by false (of_int binary64 (pos a)) a k c (held a h) e h K

-- the one rounded sum of two parts that are reals
pub joined : (x y : Float) (a b n : ℕ) → HasValue x false a 1 → HasValue y false b 1 → a + b ≡ n → add binary64 x y ≡ of_int binary64 (pos n)
joined x y a b n h k e = add_at binary64 x y a b h k ∙ ap (λ (z : ℕ). round binary64 false z 1) e ∙ sym (of_int_is binary64 n)

-- ---- what `compare` says
abbrev pub Cmp : Ordering → ℕ → ℕ → Type 0
Cmp Ordering.lt a b = a < b
Cmp Ordering.eq a b = a ≡ b
Cmp Ordering.gt a b = b < a

pub cmp : (a b : ℕ) → Cmp (compare a b) a b
cmp a b = go (compare a b) (leb→le a b) (nleb→lt a b) (eqb→eq a b) (λ (e : a ≡ b). subst (λ (x : ℕ). T (eqb a x)) e (eqb_refl a))
  where
    go : (o : Ordering) → (T (is_le o) → a ≤ b) → (T (not (is_le o)) → b < a) → (T (compare_is_eq o) → a ≡ b) → (a ≡ b → T (compare_is_eq o)) → Cmp o a b
    go Ordering.lt h k e n = lt_of_le-ne (h tt) n
    go Ordering.eq h k e n = e tt
    go Ordering.gt h k e n = k tt

pub parts : (a b : ℕ) → (a < b) ⊎ ((a ≡ b) ⊎ (b < a))
parts a b = go (compare a b) (cmp a b)
  where
    go : (o : Ordering) → Cmp o a b → (a < b) ⊎ ((a ≡ b) ⊎ (b < a))
    go Ordering.lt k = inl k
    go Ordering.eq k = inr (inl k)
    go Ordering.gt k = inr (inr k)

pub is_lt : (a b : ℕ) → a < b → compare a b ≡ Ordering.lt
is_lt a b h = go (compare a b) (cmp a b)
  where
    go : (o : Ordering) → Cmp o a b → o ≡ Ordering.lt
    go Ordering.lt k = refl
    go Ordering.eq k = absurd (omega arith)
    go Ordering.gt k = absurd (omega arith)

is_gt : (a b : ℕ) → b < a → compare a b ≡ Ordering.gt
is_gt a b h = go (compare a b) (cmp a b)
  where
    go : (o : Ordering) → Cmp o a b → o ≡ Ordering.gt
    go Ordering.lt k = absurd (omega arith)
    go Ordering.eq k = absurd (omega arith)
    go Ordering.gt k = refl

-- ---- Two numbers that differ only in their last i digits, which are all 0 in both or in neither, round alike if more than prec + 1 digits stand before those.
pow_lt_back : (i p : ℕ) → 2 ^ i < 2 ^ p → i < p
pow_lt_back i p h = lt_of_not-le (λ (g : p ≤ i). lt_irrefl (2 ^ i) (lt_of_lt_of_le h (pow_mono g)))

rejoin : (i z : ℕ) → i ≤ z → z - i + i ≡ z
rejoin i z h = omega arith

module _ (q i : ℕ) where
  abbrev U : ℕ
  U = 2 ^ i

  below_next : (r : ℕ) → r < U → q * U + r < suc q * U
  below_next r h = subst (λ (x : ℕ). q * U + r < x) (sym (suc-mul q U)) (more (q * U) r U h)
    where
      more : (x r u : ℕ) → r < u → x + r < x + u
      more x r u h = omega arith

  size_below : (r s : ℕ) → 0 < q → r < U → size (q * U + r) ≤ size (q * U + s)
  size_below r s Q R =
      let n = q * U + s in
      let z = size n in
      let from : q * U ≤ n = omega arith in
      let one : U ≤ q * U = le_trans (le_of_eq (sym (one-mul U))) (mul-le-mul_right U Q) in
      let iz : i < z = pow_lt_back i z (lt_of_le_of_lt (le_trans one from) (size-lt n)) in
      let e : 2 ^ z ≡ 2 ^ (z - i) * U = ap (λ (x : ℕ). 2 ^ x) (sym (rejoin i z (le_of_lt iz))) ∙ pow-add 2 (z - i) i in
      let l : q < 2 ^ (z - i) = lt_of_mul-lt-mul_right U (lt_of_le_of_lt from (subst (λ (x : ℕ). n < x) e (size-lt n))) in
      size-le (q * U + r) z (subst (λ (x : ℕ). q * U + r < x) (sym e) (lt_of_lt_of_le (below_next r R) (mul-le-mul_right U l)))

  same_size : (r s : ℕ) → 0 < q → r < U → s < U → size (q * U + r) ≡ size (q * U + s)
  same_size r s Q R S = le_antisymm (size_below r s Q R) (size_below s r Q S)

  -- how t * U + r compares with h * U, under r and s that are both 0 or both not
  same_half : (t h r s : ℕ) → r < U → s < U → (r ≡ 0 → s ≡ 0) → (s ≡ 0 → r ≡ 0) → compare ((t * U + r) * 2) (h * 2 * U) ≡ compare ((t * U + s) * 2) (h * 2 * U)
  same_half t h r s R S z w = elim (parts t h) [
    | inl l ↦ let g = steps t h l in is_lt ((t * U + r) * 2) (h * 2 * U) (under r R g) ∙ sym (is_lt ((t * U + s) * 2) (h * 2 * U) (under s S g))
    | inr (inl e) ↦ at e
    | inr (inr l) ↦ let g = steps h t l in is_gt ((t * U + r) * 2) (h * 2 * U) (over r R g) ∙ sym (is_gt ((t * U + s) * 2) (h * 2 * U) (over s S g))
  ]
    where
      steps : (a b : ℕ) → a < b → a * U + U ≤ b * U
      steps a b l = le_trans (le_of_eq (sym (suc-mul a U))) (mul-le-mul_right U l)

      tidy : h * 2 * U ≡ h * U * 2
      tidy = mul_right_comm h 2 U

      under : (x : ℕ) → x < U → t * U + U ≤ h * U → (t * U + x) * 2 < h * 2 * U
      under x X g = let e = tidy in omega arith

      over : (x : ℕ) → x < U → h * U + U ≤ t * U → h * 2 * U < (t * U + x) * 2
      over x X g = let e = tidy in let p : 0 < U = pow_pos i in omega arith

      at : t ≡ h → compare ((t * U + r) * 2) (h * 2 * U) ≡ compare ((t * U + s) * 2) (h * 2 * U)
      at e = let d : t * U ≡ h * U = ap (λ (x : ℕ). x * U) e in go r s z w d refl
        where
          go : (r' s' : ℕ) → (r' ≡ 0 → s' ≡ 0) → (s' ≡ 0 → r' ≡ 0) → t * U ≡ h * U → h ≡ h → compare ((t * U + r') * 2) (h * 2 * U) ≡ compare ((t * U + s') * 2) (h * 2 * U)
          go zero zero z w d k = refl
          go zero (suc s') z w d k = absurd (let y : suc s' ≡ 0 = z refl in omega arith)
          go (suc r') zero z w d k = absurd (let y : suc r' ≡ 0 = w refl in omega arith)
          go (suc r') (suc s') z w d k =
              let f = tidy in
              is_gt ((t * U + suc r') * 2) (h * 2 * U) (omega arith) ∙ sym (is_gt ((t * U + suc s') * 2) (h * 2 * U) (omega arith))

  -- the kept number: d digits are dropped, more than i
  same_kept : (r s d : ℕ) → i < d → r < U → s < U → (r ≡ 0 → s ≡ 0) → (s ≡ 0 → r ≡ 0) → closest (q * U + r) (1 * 2 ^ d) ≡ closest (q * U + s) (1 * 2 ^ d)
  same_kept r s d D R S z w =
      let j = d - suc i in
      let e : 1 * 2 ^ d ≡ 2 ^ (suc j + i) = one-mul (2 ^ d) ∙ ap (λ (x : ℕ). 2 ^ x) (split-up d i D) in
      let v : 2 ^ (suc j + i) ≡ 2 ^ j * 2 * U = pow-add 2 (suc j) i ∙ ap (λ (x : ℕ). x * U) (native.Mathlib.Nat.pow-suc 2 j) in
      let whole : (x : ℕ) → x < U → (q * U + x) / 2 ^ (suc j + i) ≡ q / 2 ^ suc j = λ x X.
      ap (λ (y : ℕ). (q * U + x) / y) (ap (λ (y : ℕ). 2 ^ y) (flip (suc j) i) ∙ pow-add 2 i (suc j)) ∙ sym (div-div-eq-div-mul (q * U + x) U (2 ^ suc j)) ∙ ap (λ (y : ℕ). y / 2 ^ suc j) (high q i X) in
      let rest : (x : ℕ) → x < U → (q * U + x) % 2 ^ (suc j + i) ≡ (q % 2 ^ suc j) * U + x = λ x X.
      mod-pow-add (q * U + x) (suc j) i ∙ ap (λ (y : ℕ). (y % 2 ^ suc j) * U + (q * U + x) % U) (high q i X) ∙ ap (λ (y : ℕ). (q % 2 ^ suc j) * U + y) (low q i X) in
      let t = q % 2 ^ suc j in
      let one : (x : ℕ) → x < U → closest (q * U + x) (2 ^ (suc j + i)) ≡ I.nearest (q / 2 ^ suc j) (compare ((t * U + x) * 2) (2 ^ j * 2 * U)) = λ x X.
      ap (λ (y : ℕ). I.nearest y (compare ((q * U + x) % 2 ^ (suc j + i) * 2) (2 ^ (suc j + i)))) (whole x X)
      ∙ ap (λ (y : ℕ). I.nearest (q / 2 ^ suc j) (compare (y * 2) (2 ^ (suc j + i)))) (rest x X)
      ∙ ap (λ (y : ℕ). I.nearest (q / 2 ^ suc j) (compare ((t * U + x) * 2) y)) v in
      ap (closest (q * U + r)) e
      ∙ one r R
      ∙ ap (I.nearest (q / 2 ^ suc j)) (same_half t (2 ^ j) r s R S z w)
      ∙ sym (one s S)
      ∙ sym (ap (closest (q * U + s)) e)
    where
      split-up : (d i : ℕ) → i < d → d ≡ suc (d - suc i) + i
      split-up d i h = omega arith

      flip : (a b : ℕ) → a + b ≡ b + a
      flip a b = omega arith

-- `r` and `s` decide nothing but a tie
pub sticky : (f : Format) (g : Bool) (q k r s : ℕ) → 2 ^ prec f ≤ q → r < 2 ^ k → s < 2 ^ k → (r ≡ 0 → s ≡ 0) → (s ≡ 0 → r ≡ 0)
    → round f g (q * 2 ^ k + r) 1 ≡ round f g (q * 2 ^ k + s) 1
sticky f g q k r s Q R S z w =
    let l = I.low f in
    let p = prec f in
    let i = k + l in
    let u = 2 ^ i in
    let at : (x : ℕ) → (q * 2 ^ k + x) * 2 ^ l ≡ q * u + x * 2 ^ l = λ x.
    add-mul (q * 2 ^ k) x (2 ^ l) ∙ ap (λ (y : ℕ). y + x * 2 ^ l) (mul_assoc q (2 ^ k) (2 ^ l) ∙ ap (λ (y : ℕ). q * y) (sym (pow-add 2 k l))) in
    let n = q * u + r * 2 ^ l in
    let m = q * u + s * 2 ^ l in
    let R' : r * 2 ^ l < u = shl_lt k l R in
    let S' : s * 2 ^ l < u = shl_lt k l S in
    let Q0 : 0 < q = lt_of_lt_of_le (pow_pos p) Q in
    let e : size (n / 1) - p ≡ size (m / 1) - p = ap (λ (y : ℕ). y - p) (ap size (div-one n) ∙ same_size q i (r * 2 ^ l) (s * 2 ^ l) Q0 R' S' ∙ sym (ap size (div-one m))) in
    let d = size (n / 1) - p in
    let many : p + i < size (n / 1) = subst (λ (y : ℕ). p + i < size y) (sym (div-one n)) (size_gt n (p + i) (le_trans (le_of_eq (pow-add 2 p i)) (le_trans (mul-le-mul_right u Q) (le_more (q * u) (r * 2 ^ l))))) in
    round_is f g (q * 2 ^ k + r) 1
    ∙ ap (λ (y : ℕ). core f g y 1 (size (y / 1) - p)) (at r)
    ∙ ap (λ (y : ℕ). units f g y d) (same_kept q i (r * 2 ^ l) (s * 2 ^ l) d (dropped p i (size (n / 1)) many) R' S' (λ h. none (z (back r h))) (λ h. none (w (back s h))))
    ∙ ap (λ (y : ℕ). units f g (closest m (1 * 2 ^ y)) y) e
    ∙ sym (ap (λ (y : ℕ). core f g y 1 (size (y / 1) - p)) (at s))
    ∙ sym (round_is f g (q * 2 ^ k + s) 1)
  where
    size_gt : (n j : ℕ) → 2 ^ j ≤ n → j < size n
    size_gt n j h = lt_of_not-le (λ (g : size n ≤ j). lt_irrefl n (lt_of_lt_of_le (size-lt n) (le_trans (pow_mono g) h)))

    le_more : (x y : ℕ) → x ≤ x + y
    le_more x y = omega arith

    dropped : (p i z : ℕ) → p + i < z → i < z - p
    dropped p i z h = omega arith

    back : (x : ℕ) → x * 2 ^ I.low f ≡ 0 → x ≡ 0
    back zero h = refl
    back (suc x) h = absurd (lt_irrefl 0 (lt_of_lt_of_le (mul-pos (zero-lt-suc x) (pow_pos (I.low f))) (le_of_eq h)))

    none : {x : ℕ} → x ≡ 0 → x * 2 ^ I.low f ≡ 0
    none h = ap (λ (y : ℕ). y * 2 ^ I.low f) h ∙ zero-mul (2 ^ I.low f)

-- ---- a negative number's real is its magnitude's, negated
neg_odd : (d q k l : ℕ) → neg (odd d false q k l) ≡ odd d true q k l
unfolding neg odd
neg_odd d zero k l = refl
neg_odd d (suc q) k l = refl

neg_units : (f : Format) (q k : ℕ) → neg (units f false q k) ≡ units f true q k
unfolding units neg
neg_units f q k = go (ltb (q * 2 ^ k) (2 ^ (I.low f + suc (emax f))))
  where
    go : (b : Bool) → neg (cond b (odd (suc (prec f)) false q k (I.low f)) (inf false)) ≡ cond b (odd (suc (prec f)) true q k (I.low f)) (inf true)
    go true = neg_odd (suc (prec f)) q k (I.low f)
    go false = refl

pub neg_round : (f : Format) (n d : ℕ) → neg (round f false n d) ≡ round f true n d
neg_round f n d = ap neg (round_is f false n d) ∙ neg_units f _ _ ∙ sym (round_is f true n d)

pub negated : (f : Format) (n : ℕ) → neg (of_int f (pos (suc n))) ≡ of_int f (negsuc n)
unfolding of_int
negated f n = neg_round f (suc n) 1

neg_zero : (z : ℤ) → lt_z z (pos 0) ≡ true → neg (of_int binary64 (pos (nat_abs z))) ≡ of_int binary64 z
neg_zero (pos n) h = absurd (let l : n < 0 = ltb-true n 0 h in omega arith)
neg_zero (negsuc n) h = negated binary64 n

-- as the machine has it
pub below_zero : (z : ℤ) → SFits w128 z → lt_z (to_z w128 (of_z w128 z)) (pos 0) ≡ true → (m : ℕ) → m ≡ nat_abs (to_z w128 (of_z w128 z)) → neg (of_int binary64 (pos m)) ≡ of_int binary64 z
below_zero z f h m e = let r = to_z-of_z w128 z f in rw (e, r) (neg_zero z (rw r at h))

-- ---- `magnitude_real`, by its two ranges
pub two_to_53 : of_bits binary64 0x4340_0000_0000_0000 ≡ fin false 1 (pos 53)
unfolding of_bits
two_to_53 = refl

pub two_to_84 : of_bits binary64 0x4530_0000_0000_0000 ≡ fin false 1 (pos 84)
unfolding of_bits
two_to_84 = refl

pub two_to_31 : of_bits binary64 0x41e0_0000_0000_0000 ≡ fin false 1 (pos 31)
unfolding of_bits
two_to_31 = refl

pub few : (n : ℕ) → n < 2 ^ 106 → add binary64 (mul binary64 (of_int binary64 (pos (n / 2 ^ 53))) (of_bits binary64 0x4340_0000_0000_0000)) (of_int binary64 (pos (n % 2 ^ 53))) ≡ of_int binary64 (pos n)
few n h =
    joined (mul binary64 (of_int binary64 (pos (n / 2 ^ 53))) (of_bits binary64 0x4340_0000_0000_0000)) (of_int binary64 (pos (n % 2 ^ 53)))
    (n / 2 ^ 53 * 2 ^ 53) (n % 2 ^ 53) n
    (scaled (n / 2 ^ 53) 53 (of_bits binary64 0x4340_0000_0000_0000) two_to_53 (omega arith) (lit≤ tt)) (held (n % 2 ^ 53) (omega arith)) (omega arith)

-- t is 1 where any of the last 32 digits is 1
module _ (n t : ℕ) where
  abbrev b : ℕ
  b = n / 2 ^ 32 % 2 ^ 52 * 2 + t

  pub many : 2 ^ 106 ≤ n → n < 2 ^ 128 → t ≡ min (n % 2 ^ 32) 1
      → add binary64 (mul binary64 (of_int binary64 (pos (n / 2 ^ 84))) (of_bits binary64 0x4530_0000_0000_0000)) (mul binary64 (of_int binary64 (pos b)) (of_bits binary64 0x41e0_0000_0000_0000)) ≡ of_int binary64 (pos n)
  many h f e =
      let q = n / 2 ^ 32 in
      let back : q * 2 ^ 32 + n % 2 ^ 32 ≡ n = omega arith in
      joined (mul binary64 (of_int binary64 (pos (n / 2 ^ 84))) (of_bits binary64 0x4530_0000_0000_0000)) (mul binary64 (of_int binary64 (pos b)) (of_bits binary64 0x41e0_0000_0000_0000))
      (n / 2 ^ 84 * 2 ^ 84) (b * 2 ^ 31) (q * 2 ^ 32 + t * 2 ^ 31)
      (scaled (n / 2 ^ 84) 84 (of_bits binary64 0x4530_0000_0000_0000) two_to_84 (omega arith) (lit≤ tt))
      (scaled b 31 (of_bits binary64 0x41e0_0000_0000_0000) two_to_31 (omega arith) (lit≤ tt))
      (omega arith)
      ∙ of_int_is binary64 (q * 2 ^ 32 + t * 2 ^ 31)
      ∙ sticky binary64 false q 32 (t * 2 ^ 31) (n % 2 ^ 32) (omega arith) (omega arith) (omega arith) (λ z. omega arith) (λ z. omega arith)
      ∙ ap (λ (y : ℕ). round binary64 false y 1) back
      ∙ sym (of_int_is binary64 n)
