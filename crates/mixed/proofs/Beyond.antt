-- An integer past 2 ^ 53 in size beside a real, by what is left of both: the code takes the integer's multiple of 2 ^ 32 from both. Assumes nothing.
use mathlib.Core.Path.{◌≡◌, refl, sym, ap, ◌∙◌, subst}
use mathlib.Core.Logic.{◌⊎◌, inl, inr}
use mathlib.Core.Bool.{Bool, true, false, not, ◌&&◌, ◌||◌, cond}
use Prim.Native.Nat.{ℕ, zero, suc, ◌+◌, ◌-◌, ◌*◌, ◌/◌, ◌%◌, ◌^◌, ◌≤◌, ◌<◌, Ordering}
use native.Mathlib.Nat.{le_trans, le_of_eq, le_of_lt, lt_irrefl, lt_of_le_of_lt, mul-one, zero-mul, mul_assoc, mul_comm, mul_right_comm, mul-pos, mul-lt-mul_of_pos_right, add-mul, suc-mul, mul-le-mul_right, le_of_mul-le-mul_right, div-add-mod', div-le_self, zero-lt-suc, mod-lt}
use native.Mathlib.Omega.{arith}
use lib.IntN.{ℤ, pos, negsuc, nat_abs}
use lib.Signed.{lt_z, mag, mag_shr, shr_z}
use lib.Dec.{T, ltb, leb, eqb, ltb→lt, eqb→eq, le→leb}
use lib.Bits.{bit_and, and_mask}
use lib.Ieee.{Float, nan, inf, fin, binary64, up, down, lt, le, eq, fits, of_int, of_bits, in_float, neg, add, round, sum, sub, mul}
use lib.Ieee.Fits.{down_pos, and_l, and_r}
use lib.Ieee.Exact.{HasValue}
use lib.Ieee.Back.{round_whole}
use lib.Ieee.Order.{round_mono}
use lib.Ieee.Scale.{round_same}
use mir.Syntax.{w64}
use mir.Val.{SFits, to_z, of_z}
use mir.ValLaws.{to_z-of_z}
use borrow.Author.Tests.{ltb-false, ltb-true, eqb-true, lt-ltb, le-ltb}
use Rattle.common.proofs.Choice.{true_false}
use Rattle.mixed.proofs.Ints.{R}
use Rattle.nearest.proofs.Rounding.{Cmp, parts, held, scaled_by, neg_round}
use Rattle.common.proofs.Choice.{true_false}
use Rattle.mixed.specs.Mixed.{exactly, Same}
use Rattle.mixed.proofs.Compare.{left, Stands, alike, fins_stand, at_value, exact_left, exchanged, joined}

-- ---- from 2 ^ 53 on a real is whole
fits_digits : (s : Bool) (m : ℕ) (e : ℤ) → T (fits binary64 (fin s m e)) → m < 2 ^ 53
unfolding fits
fits_digits s zero e h = omega arith
fits_digits s (suc m) e h =
    ltb→lt (suc m) (2 ^ 53) (and_r (eqb (suc m % 2) 1) (ltb (suc m) (2 ^ 53)) (and_l (eqb (suc m % 2) 1 && ltb (suc m) (2 ^ 53)) (leb (down e) (2 ^ 1074)) (and_l (eqb (suc m % 2) 1 && ltb (suc m) (2 ^ 53) && leb (down e) (2 ^ 1074)) (ltb (suc m * up e) (2 ^ 1024 * down e)) h)))

no_fraction : (m : ℕ) (e : ℤ) → m < 2 ^ 53 → 2 ^ 53 ≤ m * up e / down e → m * up e % down e ≡ 0
no_fraction m (pos k) h g = none (m * 2 ^ k)
  where
    none : (n : ℕ) → n % 1 ≡ 0
    none n = omega arith
no_fraction m (negsuc k) h g = absurd (lt_irrefl (2 ^ 53) (lt_of_le_of_lt (le_trans g (le_trans (div-le_self (m * 1) (2 ^ suc k)) (le_of_eq (mul-one m)))) h))

-- ---- a whole number l beside a real r that is l, or lies one or more from it; u is a real of the bound's value
at_most : (a b : ℕ) → T (ltb a b || (eqb a b && true)) → a ≤ b
at_most a b t = go (ltb a b) (eqb a b) (ltb-true a b) (eqb-true a b) t
  where
    go : (p q : Bool) → (p ≡ true → a < b) → (q ≡ true → a ≡ b) → T (p || (q && true)) → a ≤ b
    go true q h k t = le_of_lt (h refl)
    go false true h k t = le_of_eq (k refl)
    go false false h k t = absurd t

-- p / c is n / 1
cleared : (n p c x y : ℕ) → 0 < c → p * 1 ≡ n * c → p * y ≤ x * c → n * y ≤ x
cleared n p c x y C v h =
    le_of_mul-le-mul_right (le_trans (le_of_eq (mul_right_comm n y c)) (le_trans (le_of_eq (ap (λ z. z * y) (sym v ∙ mul-one p))) h)) C

cleared_down : (n p c x y : ℕ) → 0 < c → p * 1 ≡ n * c → x * c ≤ p * y → x ≤ n * y
cleared_down n p c x y C v h =
    le_of_mul-le-mul_right (le_trans h (le_trans (le_of_eq (ap (λ z. z * y) (sym (mul-one p) ∙ v))) (le_of_eq (mul_right_comm n c y)))) C

-- a value above 0
some : (p : ℕ) (k : ℤ) (n d : ℕ) → p * up k * 1 ≡ suc n * down k → 0 < d → 0 < p * up k * d
some p k n d h D = subst (λ x. 0 < x * d) (sym (sym (mul-one (p * up k)) ∙ h)) (mul-pos (mul-pos (zero-lt-suc n) (down_pos k)) D)

module _ (l : ℕ) where
  abbrev L : Float
  L = fin false l (pos 0)

  -- r from l + 1 on
  over_it : (u r : Float) → HasValue u false (suc l) 1 → T (le u r) → Stands Ordering.lt L r
  unfolding lt le eq
  over_it nan r h t = absurd h
  over_it (inf s) r h t = absurd h
  over_it (fin true p k) r h t = true_false h.0
  over_it (fin false p k) nan h t = absurd t
  over_it (fin false p k) (inf true) h t = absurd t
  over_it (fin false p k) (inf false) h t = (refl, refl, refl)
  over_it (fin false p k) (fin true m e) h t =
      let A = p * up k * down e in
      absurd (omega (arith, some p k l (down e) h.1 (down_pos e), eqb→eq A 0 (and_r (eqb A (m * up e * down k)) (eqb A 0) t)))
  over_it (fin false p k) (fin false m e) h t =
      let g = cleared (suc l) (p * up k) (down k) (m * up e) (down e) (down_pos k) h.1 (at_most (p * up k * down e) (m * up e * down k) t) in
      fins_stand false l (pos 0) false m e Ordering.lt (go (m * up e) (down e) (down_pos e) g)
    where
      go : (x d : ℕ) → 0 < d → suc l * d ≤ x → l * 1 * d + 0 < x * 1 + 0
      go x d D g = let y : l * 1 * d ≡ l * d = ap (λ z. z * d) (mul-one l) in let z = suc-mul l d in omega arith

  -- r up to l - 1
  under_it : (k : ℕ) → l ≡ suc k → (u r : Float) → HasValue u false k 1 → T (le r u) → Stands Ordering.gt L r
  unfolding lt le eq
  under_it n b nan r h t = absurd h
  under_it n b (inf s) r h t = absurd h
  under_it n b (fin true p k) r h t = true_false h.0
  under_it n b (fin false p k) nan h t = absurd t
  under_it n b (fin false p k) (inf true) h t = (refl, refl, refl)
  under_it n b (fin false p k) (inf false) h t = absurd t
  under_it n b (fin false p k) (fin true m e) h t = fins_stand false l (pos 0) true m e Ordering.gt (go (m * up e) (down e) (down_pos e))
    where
      go : (x d : ℕ) → 0 < d → 0 + 0 < l * 1 * d + x * 1
      go x d D = let y : l * 1 * d ≡ suc n * d = ap (λ z. z * d) (mul-one l ∙ b) in let z = suc-mul n d in omega arith
  under_it n b (fin false p k) (fin false m e) h t =
      let g = cleared_down n (p * up k) (down k) (m * up e) (down e) (down_pos k) h.1 (at_most (m * up e * down k) (p * up k * down e) t) in
      fins_stand false l (pos 0) false m e Ordering.gt (go (m * up e) (down e) (down_pos e) g)
    where
      go : (x d : ℕ) → 0 < d → x ≤ n * d → x * 1 + 0 < l * 1 * d + 0
      go x d D g = let y : l * 1 * d ≡ suc n * d = ap (λ z. z * d) (mul-one l ∙ b) in let z = suc-mul n d in omega arith

  -- r of l's value
  level_it : (r : Float) → HasValue r false l 1 → Stands Ordering.eq L r
  level_it r h =
      let s = exchanged (at_value r false l h L) in let q = fins_stand false l (pos 0) false l (pos 0) Ordering.eq refl in
      (s.under ∙ q.0, s.over ∙ q.1, s.same ∙ q.2)

  -- r below 0, by its size, which is c or more
  below_it : (c : ℕ) → 0 < c + l → (u r : Float) → HasValue u false c 1 → T (le u r) → Stands Ordering.gt L (neg r)
  unfolding lt le eq neg
  below_it c b nan r h t = absurd h
  below_it c b (inf s) r h t = absurd h
  below_it c b (fin true p k) r h t = true_false h.0
  below_it c b (fin false p k) nan h t = absurd t
  below_it c b (fin false p k) (inf true) h t = absurd t
  below_it c b (fin false p k) (inf false) h t = (refl, refl, refl)
  below_it c b (fin false p k) (fin true m e) h t =
      let A = p * up k * down e in let B = m * up e * down k in
      let z = le_of_eq (eqb→eq A 0 (and_r (eqb A B) (eqb A 0) t)) in let w = le_of_eq (sym (eqb→eq A B (and_l (eqb A B) (eqb A 0) t))) in
      fins_stand false l (pos 0) false m e Ordering.gt
      (go (m * up e) (down e) (down_pos e) (cleared c (p * up k) (down k) 0 (down e) (down_pos k) h.1 (le_trans z (le_of_eq (sym (zero-mul (down k)))))) (cleared_down c (p * up k) (down k) (m * up e) (down e) (down_pos k) h.1 w))
    where
      go : (x d : ℕ) → 0 < d → c * d ≤ 0 → x ≤ c * d → x * 1 + 0 < l * 1 * d + 0
      go x d D g i =
          let y : l * 1 * d ≡ l * d = ap (λ z. z * d) (mul-one l) in
          let w : (c + l) * d ≡ c * d + l * d = add-mul c l d in let q : 0 < (c + l) * d = mul-pos b D in
          omega arith
  below_it c b (fin false p k) (fin false m e) h t =
      let g = cleared c (p * up k) (down k) (m * up e) (down e) (down_pos k) h.1 (at_most (p * up k * down e) (m * up e * down k) t) in
      fins_stand false l (pos 0) true m e Ordering.gt (go (m * up e) (down e) (down_pos e) g)
    where
      go : (x d : ℕ) → 0 < d → c * d ≤ x → 0 + 0 < l * 1 * d + x * 1
      go x d D g =
          let y : l * 1 * d ≡ l * d = ap (λ z. z * d) (mul-one l) in
          let w : (c + l) * d ≡ c * d + l * d = add-mul c l d in let q : 0 < (c + l) * d = mul-pos b D in
          omega arith

-- ---- (P - Q) / D, rounded
abbrev rounded : ℕ → ℕ → ℕ → Float
rounded P Q D = cond (ltb P Q) (round binary64 true (Q - P) D) (round binary64 false (P - Q) D)

module _ (P Q D N : ℕ) where
  rounded_up : P ≡ Q + N → rounded P Q D ≡ round binary64 false N D
  rounded_up h = let e : P - Q ≡ N = omega arith in rw (le-ltb P Q (omega arith), e)

  rounded_down : Q ≡ P + N → 0 < N → rounded P Q D ≡ round binary64 true N D
  rounded_down h n = let e : Q - P ≡ N = omega arith in rw (lt-ltb P Q (omega arith), e)

-- l beside it, where it is l or lies one or more from l
module _ (P Q D l : ℕ) (dp : 0 < D) (lp : l < 2 ^ 53) where
  over_rounded : Q + suc l * D ≤ P → Stands Ordering.lt (L l) (rounded P Q D)
  over_rounded h =
      rw (rounded_up P Q D (P - Q) (omega arith))
      (over_it l (round binary64 false (suc l) 1) (round binary64 false (P - Q) D) (round_whole binary64 false (suc l) lp)
      (round_mono binary64 (suc l) 1 (P - Q) D (zero-lt-suc 0) dp (omega arith)))

  level_rounded : P ≡ Q + l * D → Stands Ordering.eq (L l) (rounded P Q D)
  level_rounded h =
      let e : (P - Q) * 1 ≡ l * D = omega arith in
      rw (rounded_up P Q D (P - Q) (omega arith), round_same binary64 false (P - Q) D l 1 dp (zero-lt-suc 0) e)
      (level_it l (round binary64 false l 1) (round_whole binary64 false l (le_of_lt lp)))

module _ (P Q D : ℕ) (dp : 0 < D) where
  negative_rounded : (l c : ℕ) → 0 < c + l → c ≤ 1 → P < Q → c * D ≤ Q - P → Stands Ordering.gt (L l) (rounded P Q D)
  negative_rounded l c b cp h g =
      rw (rounded_down P Q D (Q - P) (omega arith) (omega arith), ← neg_round binary64 (Q - P) D)
      (below_it l c b (round binary64 false c 1) (round binary64 false (Q - P) D) (round_whole binary64 false c (omega arith))
      (round_mono binary64 c 1 (Q - P) D (zero-lt-suc 0) dp (le_trans g (le_of_eq (sym (mul-one (Q - P)))))))

  under_rounded : (l : ℕ) → l < 2 ^ 53 → P + D ≤ Q + l * D → Stands Ordering.gt (L l) (rounded P Q D)
  under_rounded zero lp h = negative_rounded 0 1 (zero-lt-suc 0) (zero-lt-suc 0) (omega arith) (omega arith)
  under_rounded (suc k) lp h = elim (parts P Q) [
    | inl g ↦ negative_rounded (suc k) 0 (omega arith) (omega arith) g (omega arith)
    | inr g ↦
        let q : Q ≤ P = elim g [ inl e ↦ le_of_eq (sym e) | inr w ↦ le_of_lt w ] in let y = suc-mul k D in
        rw (rounded_up P Q D (P - Q) (omega arith))
        (under_it (suc k) k refl (round binary64 false k 1) (round binary64 false (P - Q) D) (round_whole binary64 false k (omega arith))
        (round_mono binary64 (P - Q) D k 1 dp (zero-lt-suc 0) (omega arith)))
  ]

-- ---- lib.Ieee's sum of ±X / D and the opposite of ±Y / D, both brought to the denominator D * c
module _ (X Y D c : ℕ) (yp : 0 < Y) (dp : 0 < D) (cp : 0 < c) where
  brought : (s : Bool) (N n : ℕ) → n ≡ N * c → round binary64 s n (D * c) ≡ round binary64 s N D
  brought s N n e =
      round_same binary64 s n (D * c) N D (mul-pos dp cp) dp (ap (λ x. x * D) e ∙ mul_assoc N c D ∙ ap (λ x. N * x) (mul_comm c D))

  less : (A B : ℕ) → A ≤ B → B * c - A * c ≡ (B - A) * c
  less A B h = let e : B * c ≡ A * c + (B - A) * c = ap (λ x. x * c) (whole A B h) ∙ add-mul A (B - A) c in omega arith
    where
      whole : (A B : ℕ) → A ≤ B → B ≡ A + (B - A)
      whole A B h = omega arith

  under : (A B : ℕ) → A < B → ltb (A * c) (B * c) ≡ true
  under A B h = lt-ltb (A * c) (B * c) (mul-lt-mul_of_pos_right h cp)

  not_under : (A B : ℕ) → B ≤ A → ltb (A * c) (B * c) ≡ false
  not_under A B h = le-ltb (A * c) (B * c) (mul-le-mul_right c h)

  both : X * c + Y * c ≡ (X + Y) * c
  both = sym (add-mul X Y c)

  sums : (t s : Bool) → sum binary64 t (X * c) (not s) (Y * c) (D * c) ≡ rounded (left t X s Y) (left s Y t X) D
  unfolding sum
  sums false true = brought false (X + Y) (X * c + Y * c) both ∙ sym (rounded_up (X + Y) (0 + 0) D (X + Y) (omega arith))
  sums true false = brought true (X + Y) (X * c + Y * c) both ∙ sym (rounded_down (0 + 0) (Y + X) D (X + Y) (omega arith) (omega arith))
  sums false false = elim (parts X Y) [
    | inl h ↦ rw (under X Y h) (brought true (Y - X) (Y * c - X * c) (less X Y (le_of_lt h)) ∙ sym (rounded_down (X + 0) (Y + 0) D (Y - X) (omega arith) (omega arith)))
    | inr g ↦
        let h : Y ≤ X = elim g [ inl e ↦ le_of_eq (sym e) | inr w ↦ le_of_lt w ] in
        rw (not_under X Y h) (brought false (X - Y) (X * c - Y * c) (less Y X h) ∙ sym (rounded_up (X + 0) (Y + 0) D (X - Y) (omega arith)))
  ]
  sums true true = elim (parts X Y) [
    | inl h ↦ rw (under X Y h) (brought false (Y - X) (Y * c - X * c) (less X Y (le_of_lt h)) ∙ sym (rounded_up (0 + Y) (0 + X) D (Y - X) (omega arith)))
    | inr (inl e) ↦
        rw (not_under X Y (le_of_eq (sym e)), not_under Y X (le_of_eq e))
        (brought false (X - Y) (X * c - Y * c) (less Y X (le_of_eq (sym e))) ∙ sym (rounded_up (0 + Y) (0 + X) D (X - Y) (omega arith)))
    | inr (inr h) ↦
        rw (not_under X Y (le_of_lt h), under Y X h)
        (brought true (X - Y) (X * c - Y * c) (less Y X (le_of_lt h)) ∙ sym (rounded_down (0 + Y) (0 + X) D (X - Y) (omega arith) (omega arith)))
  ]

-- ---- p and q are the same, or D or more apart
abbrev Steps : ℕ → ℕ → ℕ → Type 0
Steps D p q = (p + D ≤ q) ⊎ ((p ≡ q) ⊎ (q + D ≤ p))

-- an integer a over 2 ^ 53 in size and the real X / D, which is whole from 2 ^ 53 on, in parts of D
gap : (a X D : ℕ) → 0 < D → 2 ^ 53 < a → (2 ^ 53 ≤ X / D → X % D ≡ 0) → Steps D (a * D) X
gap a X D dp big whole =
    let q = X / D in let x : q * D + X % D ≡ X = div-add-mod' X D in let r = mod-lt X dp in
    elim (parts a q) [
      | inl l ↦ inl (let g = mul-le-mul_right D l in let y = suc-mul a D in omega arith)
      | inr (inl e) ↦ inr (inl (let z = whole (omega arith) in let y = ap (λ n. n * D) e in omega arith))
      | inr (inr l) ↦
          inr (inr (elim (parts (suc q) a) [
            | inl k ↦ let g = mul-le-mul_right D k in let y = suc-mul q D in let z = suc-mul (suc q) D in omega arith
            | inr (inl e) ↦ let z = whole (omega arith) in let g = ap (λ n. n * D) e in let y = suc-mul q D in omega arith
            | inr (inr k) ↦ absurd (omega (arith, l, k))
          ]))
    ]

-- with signs
apart : (s t : Bool) (a X D : ℕ) → 0 < D → 2 ^ 53 < a → (2 ^ 53 ≤ X / D → X % D ≡ 0) → Steps D (left s (a * D) t X) (left t X s (a * D))
apart s t a X D dp big whole = go s t (gap a X D dp big whole) (mul-le-mul_right D (le_trans (zero-lt-suc (2 ^ 53 - 1)) (le_of_lt big)))
  where
    go : (s t : Bool) → Steps D (a * D) X → 1 * D ≤ a * D → Steps D (left s (a * D) t X) (left t X s (a * D))
    go false false h k = elim h [ inl l ↦ inl (omega (arith, l)) | inr (inl e) ↦ inr (inl (omega (arith, e))) | inr (inr l) ↦ inr (inr (omega (arith, l))) ]
    go false true h k = inr (inr (omega arith))
    go true false h k = inl (omega arith)
    go true true h k = elim h [ inl l ↦ inr (inr (omega (arith, l))) | inr (inl e) ↦ inr (inl (omega (arith, e))) | inr (inr l) ↦ inl (omega (arith, l)) ]

-- ---- ±a is ±h and l more: l beside the real less ±h compares as ±a beside the real
abbrev Parted : Bool → ℕ → ℕ → ℕ → Type 0
Parted false a h l = a ≡ h + l
Parted true a h l = h ≡ a + l

-- both sides in parts of D, moved by as much
moved : (s : Bool) (a h l : ℕ) → Parted s a h l → (t : Bool) (X D : ℕ) → (w : ℕ) × (left s (h * D) t X + l * D ≡ left s (a * D) t X + w) × (left t X s (h * D) ≡ left t X s (a * D) + w)
moved false a h l e t X D = let d : a * D ≡ h * D + l * D = ap (λ n. n * D) e ∙ add-mul h l D in (0, omega arith, omega arith)
moved true a h l e t X D = let d : h * D ≡ a * D + l * D = ap (λ n. n * D) e ∙ add-mul a l D in (l * D, omega arith, omega arith)

module _ (s : Bool) (a h l : ℕ) (big : 2 ^ 53 < a) (lp : l < 2 ^ 53) (parted : Parted s a h l) (hp : 0 < h) where
  module _ (t : Bool) (m : ℕ) (e : ℤ) where
    abbrev X : ℕ
    X = m * up e

    abbrev D : ℕ
    D = down e

    exact_stand : (o : Ordering) → Cmp o (left s (a * D) t X) (left t X s (a * D)) → Stands o (fin s a (pos 0)) (fin t m e)
    exact_stand o h = fins_stand s a (pos 0) t m e o (rw (mul-one a, mul-one X) h)

    -- the rounded difference stands to l as the real to ±a
    rounded_same : T (fits binary64 (fin t m e)) → Same (L l) (rounded (left t X s (h * D)) (left s (h * D) t X) D) (fin s a (pos 0)) (fin t m e)
    rounded_same f =
        let P = left t X s (h * D) in let Q = left s (h * D) t X in let dp = down_pos e in let y = suc-mul l D in
        let w = moved s a h l parted t X D in let u = w.1 in let v = w.2 in
        let x = fin t m e in let z = fin s a (pos 0) in
        elim (apart s t a X D dp big (no_fraction m e (fits_digits t m e f))) [
          | inl k ↦ alike Ordering.lt (L l) (rounded P Q D) z x (over_rounded P Q D l dp lp (omega (arith, k))) (exact_stand Ordering.lt (omega (arith, k, dp)))
          | inr (inl k) ↦ alike Ordering.eq (L l) (rounded P Q D) z x (level_rounded P Q D l dp lp (omega (arith, k))) (exact_stand Ordering.eq k)
          | inr (inr k) ↦ alike Ordering.gt (L l) (rounded P Q D) z x (under_rounded P Q D dp l lp (omega (arith, k))) (exact_stand Ordering.gt (omega (arith, k, dp)))
        ]

    -- lib.Ieee's difference is that one
    less_fin : (n : ℕ) (d : ℤ) → n * up d * 1 ≡ h * down d → sub binary64 (fin t m e) (fin s n d) ≡ rounded (left t X s (h * D)) (left s (h * D) t X) D
    unfolding sub add neg
    less_fin n d v =
        let y : n * up d * D ≡ h * D * down d = ap (λ i. i * D) (sym (mul-one (n * up d)) ∙ v) ∙ mul_right_comm h (down d) D in
        ap (λ i. sum binary64 t (X * down d) (not s) i (D * down d)) y ∙ sums X (h * D) D (down d) (mul-pos hp (down_pos e)) (down_pos e) (down_pos d) t s

  beside : (H x : Float) → HasValue H s h 1 → T (fits binary64 x) → Same (L l) (sub binary64 x H) (fin s a (pos 0)) x
  unfolding lt eq sub add neg
  beside nan x v f = absurd v
  beside (inf r) x v f = absurd v
  beside (fin r n d) nan v f = record { under = refl; over = refl; same = refl; back = refl }
  beside (fin r n d) (inf t) v f = record { under = refl; over = refl; same = refl; back = refl }
  beside (fin r n d) (fin t m e) v f =
      subst (λ i. Same (L l) (sub binary64 (fin t m e) (fin i n d)) (fin s a (pos 0)) (fin t m e)) (sym v.0)
      (subst (λ i. Same (L l) i (fin s a (pos 0)) (fin t m e)) (sym (less_fin t m e n d v.1)) (rounded_same t m e f))

-- ---- the code's test
small : (z : ℤ) → lt_z (negsuc 9007199254740992) z ≡ true → lt_z z (pos 9007199254740993) ≡ true → nat_abs z ≤ 2 ^ 53
small (pos n) l h = omega (arith, ltb-true n 9007199254740993 h)
small (negsuc n) l h = omega (arith, ltb-true n 9007199254740992 l)

above : (z : ℤ) → lt_z z (pos 9007199254740993) ≡ false → 2 ^ 53 < nat_abs z
above (pos n) h = omega (arith, ltb-false n 9007199254740993 h)
above (negsuc n) h = true_false h

beneath : (z : ℤ) → lt_z (negsuc 9007199254740992) z ≡ false → 2 ^ 53 < nat_abs z
beneath (pos n) h = true_false h
beneath (negsuc n) h = omega (arith, ltb-false n 9007199254740992 h)

-- ---- as the machine has it: an int64 z is its shift by 32 places times 2 ^ 32, and its last 32 digits
abbrev low_of : ℤ → ℕ
low_of (pos n) = n % 4294967296
low_of (negsuc n) = 4294967295 - n % 4294967296

two_to_32 : of_bits binary64 0x41f0_0000_0000_0000 ≡ fin false 1 (pos 32)
unfolding of_bits
two_to_32 = refl

abbrev High : ℤ → Float
High z = mul binary64 (of_int binary64 (shr_z z 4294967296)) (of_bits binary64 0x41f0_0000_0000_0000)

far_high : (z : ℤ) → mag z < 2 ^ 63 → 2 ^ 53 < nat_abs z → (x : Float) → T (fits binary64 x) → Same (of_int binary64 (pos (low_of z))) (sub binary64 x (High z)) (exactly z) x
unfolding of_int
far_high (pos n) f big x fx =
    let k = n / 4294967296 in
    joined (at_value (of_int binary64 (pos (n % 4294967296))) false (n % 4294967296) (held (n % 4294967296) (omega arith)) (sub binary64 x (High (pos n))))
    (beside false n (k * 2 ^ 32) (n % 4294967296) big (omega arith) (omega arith) (omega arith) (High (pos n)) x
    (scaled_by false (of_int binary64 (pos k)) k 32 (of_bits binary64 0x41f0_0000_0000_0000) (held k (omega arith)) two_to_32 (omega arith) (omega arith)) fx)
far_high (negsuc n) f big x fx =
    let k = n / 4294967296 in let l = 4294967295 - n % 4294967296 in
    joined (at_value (of_int binary64 (pos l)) false l (held l (omega arith)) (sub binary64 x (High (negsuc n))))
    (beside true (suc n) (suc k * 2 ^ 32) l big (omega arith) (omega arith) (omega arith) (High (negsuc n)) x
    (scaled_by true (of_int binary64 (negsuc k)) (suc k) 32 (of_bits binary64 0x41f0_0000_0000_0000) (round_whole binary64 true (suc k) (omega arith)) two_to_32 (omega arith) (omega arith)) fx)

module _ (z : ℤ) (f : SFits w64 z) where
  masked_is : to_z w64 (bit_and (of_z w64 z) 4294967295) ≡ pos (low_of z)
  masked_is = ap (to_z w64) (and_mask (of_z w64 z) 32 ∙ go z f.sfits) ∙ to_z-of_z w64 (pos (low_of z)) (record { sfits = low z })
    where
      go : (z : ℤ) → mag z < 2 ^ 63 → of_z w64 z % 2 ^ 32 ≡ low_of z
      go (pos n) h = refl
      go (negsuc n) h = omega arith

      low : (z : ℤ) → low_of z < 2 ^ 63
      low (pos n) = omega arith
      low (negsuc n) = omega arith

  shifted_is : R (shr_z (R z) 4294967296) ≡ shr_z z 4294967296
  shifted_is = ap (λ (y : ℤ). R (shr_z y 4294967296)) (to_z-of_z w64 z f) ∙ to_z-of_z w64 (shr_z z 4294967296) (record { sfits = lt_of_le_of_lt (mag_shr z 4294967296) f.sfits })

  pub masked_holds : T (in_float binary64 (to_z w64 (bit_and (of_z w64 z) 4294967295)))
  unfolding in_float
  masked_holds = rw masked_is (le→leb (low_of z) (2 ^ 53) (go z))
    where
      go : (z : ℤ) → low_of z ≤ 2 ^ 53
      go (pos n) = omega arith
      go (negsuc n) = omega arith

  pub shifted_holds : T (in_float binary64 (R (shr_z (R z) 4294967296)))
  unfolding in_float
  shifted_holds = rw shifted_is (go z f.sfits)
    where
      go : (z : ℤ) → mag z < 2 ^ 63 → T (in_float binary64 (shr_z z 4294967296))
      go (pos n) h = le→leb (n / 4294967296) (2 ^ 53) (omega arith)
      go (negsuc n) h = le→leb (suc (n / 4294967296)) (2 ^ 53) (omega arith)

  pub near : lt_z (negsuc 9007199254740992) (R z) ≡ true → lt_z (R z) (pos 9007199254740993) ≡ true → (x : Float) → Same (of_int binary64 (R z)) x (exactly z) x
  near l h x = let r = to_z-of_z w64 z f in rw r (exact_left z (small z (rw r at l) (rw r at h)) x)

  far : 2 ^ 53 < nat_abs z → (x : Float) → T (fits binary64 x)
      → Same (of_int binary64 (to_z w64 (bit_and (of_z w64 z) 4294967295))) (sub binary64 x (mul binary64 (of_int binary64 (R (shr_z (R z) 4294967296))) (of_bits binary64 0x41f0_0000_0000_0000))) (exactly z) x
  far h x fx = rw (masked_is, shifted_is) (far_high z f.sfits h x fx)

  pub far_up : lt_z (R z) (pos 9007199254740993) ≡ false → (x : Float) → T (fits binary64 x)
      → Same (of_int binary64 (to_z w64 (bit_and (of_z w64 z) 4294967295))) (sub binary64 x (mul binary64 (of_int binary64 (R (shr_z (R z) 4294967296))) (of_bits binary64 0x41f0_0000_0000_0000))) (exactly z) x
  far_up h = far (above z (rw (to_z-of_z w64 z f) at h))

  pub far_down : lt_z (negsuc 9007199254740992) (R z) ≡ false → (x : Float) → T (fits binary64 x)
      → Same (of_int binary64 (to_z w64 (bit_and (of_z w64 z) 4294967295))) (sub binary64 x (mul binary64 (of_int binary64 (R (shr_z (R z) 4294967296))) (of_bits binary64 0x41f0_0000_0000_0000))) (exactly z) x
  far_down h = far (beneath z (rw (to_z-of_z w64 z f) at h))
