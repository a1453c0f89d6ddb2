-- Comparisons that agree: of two integers, and of an integer as the real that it is. Assumes nothing.
use mathlib.Core.Path.{◌≡◌, refl, sym, ap, ◌∙◌, subst}
use mathlib.Core.Logic.{inl, inr}
use mathlib.Core.Bool.{Bool, true, false, ◌||◌}
use Prim.Native.Nat.{ℕ, suc, ◌+◌, ◌-◌, ◌*◌, ◌^◌, ◌≤◌, ◌<◌, compare, Ordering}
use native.Mathlib.Nat.{le_of_eq, le_of_lt, mul-one, mul_right_comm, mul-lt-mul_of_pos_right}
use native.Mathlib.Omega.{arith}
use lib.IntN.{ℤ, pos, negsuc, nat_abs}
use lib.Signed.{lt_z, le_z}
use lib.Dec.{ltb, leb, eqb}
use lib.Ieee.{Float, nan, inf, fin, binary64, up, down, lt, le, eq, of_int, round}
use lib.Ieee.Fits.{down_pos}
use lib.Ieee.Exact.{HasValue}
use lib.Ieee.Back.{round_whole}
use mir.Syntax.{Width, w64}
use mir.Val.{bits, SFits, of_z}
use mir.ValLaws.{to_z-of_z, pow-bits}
use borrow.Author.Tests.{eqb-true, eqb-false, lt-ltb, le-ltb, le-leb, lt-leb, eq-eqb, ne_eqb}
use Rattle.mixed.proofs.Ints.{R}
use Rattle.nearest.proofs.Rounding.{Cmp, cmp, parts}
use Rattle.mixed.specs.Mixed.{exactly, Same}
use Rattle.mixed.specs.Theorems.{equal_z}
use Rattle.mixed.proofs.Theorems.{integers}
use Rattle.mixed.proofs.Weights.{own, other, weights_scale, told, below_is, level_is}

-- ---- equal either way round
eqb_back : (a b : ℕ) → eqb a b ≡ eqb b a
eqb_back a b = told (eqb a b) b a (λ h. sym (eqb-true a b h)) (λ h. eq-eqb a b (sym h))

abbrev pub left : Bool → ℕ → Bool → ℕ → ℕ
left s a t b = own s a + other t b

pub eq_back : (x y : Float) → eq x y ≡ eq y x
unfolding eq
eq_back nan nan = refl
eq_back nan (inf t) = refl
eq_back nan (fin t n d) = refl
eq_back (inf s) nan = refl
eq_back (inf true) (inf true) = refl
eq_back (inf true) (inf false) = refl
eq_back (inf false) (inf true) = refl
eq_back (inf false) (inf false) = refl
eq_back (inf s) (fin t n d) = refl
eq_back (fin s m e) nan = refl
eq_back (fin s m e) (inf t) = refl
eq_back (fin s m e) (fin t n d) =
    let A = m * up e * down d in let B = n * up d * down e in
    level_is s A t B ∙ eqb_back (left s A t B) (left t B s A) ∙ sym (level_is t B s A)

-- ---- u beside v compares as x beside y
pub exchanged : {u v x y : Float} → Same u v x y → Same v u y x
exchanged {u} {v} {x} {y} s = record { under = s.over; over = s.under; same = s.back; back = s.same }

pub joined : {u v x y p q : Float} → Same u v x y → Same x y p q → Same u v p q
joined s t = record { under = s.under ∙ t.under; over = s.over ∙ t.over; same = s.same ∙ t.same; back = s.back ∙ t.back }

-- ---- how u stands to v
abbrev pub Stands : Ordering → Float → Float → Type 0
Stands Ordering.lt u v = (lt u v ≡ true) × (lt v u ≡ false) × (eq u v ≡ false)
Stands Ordering.eq u v = (lt u v ≡ false) × (lt v u ≡ false) × (eq u v ≡ true)
Stands Ordering.gt u v = (lt u v ≡ false) × (lt v u ≡ true) × (eq u v ≡ false)

pub alike : (o : Ordering) (u v x y : Float) → Stands o u v → Stands o x y → Same u v x y
alike Ordering.lt u v x y p q = record { under = p.0 ∙ sym q.0; over = p.1 ∙ sym q.1; same = p.2 ∙ sym q.2; back = eq_back v u ∙ p.2 ∙ sym q.2 ∙ eq_back x y }
alike Ordering.eq u v x y p q = record { under = p.0 ∙ sym q.0; over = p.1 ∙ sym q.1; same = p.2 ∙ sym q.2; back = eq_back v u ∙ p.2 ∙ sym q.2 ∙ eq_back x y }
alike Ordering.gt u v x y p q = record { under = p.0 ∙ sym q.0; over = p.1 ∙ sym q.1; same = p.2 ∙ sym q.2; back = eq_back v u ∙ p.2 ∙ sym q.2 ∙ eq_back x y }

module _ (s : Bool) (m : ℕ) (e : ℤ) (t : Bool) (n : ℕ) (d : ℤ) where
  abbrev A : ℕ
  A = m * up e * down d

  abbrev B : ℕ
  B = n * up d * down e

  pub fins_stand : (o : Ordering) → Cmp o (left s A t B) (left t B s A) → Stands o (fin s m e) (fin t n d)
  unfolding lt eq
  fins_stand Ordering.lt l = (
    below_is s A t B ∙ lt-ltb (left s A t B) (left t B s A) l,
    below_is t B s A ∙ le-ltb (left t B s A) (left s A t B) (le_of_lt l),
    level_is s A t B ∙ ne_eqb (left s A t B) (left t B s A) (λ e. omega (arith, l, e)),
  )
  fins_stand Ordering.eq k = (
    below_is s A t B ∙ le-ltb (left s A t B) (left t B s A) (le_of_eq (sym k)),
    below_is t B s A ∙ le-ltb (left t B s A) (left s A t B) (le_of_eq k),
    level_is s A t B ∙ eq-eqb (left s A t B) (left t B s A) k,
  )
  fins_stand Ordering.gt l = (
    below_is s A t B ∙ le-ltb (left s A t B) (left t B s A) (le_of_lt l),
    below_is t B s A ∙ lt-ltb (left t B s A) (left s A t B) l,
    level_is s A t B ∙ ne_eqb (left s A t B) (left t B s A) (λ e. omega (arith, l, e)),
  )

-- ---- two integers
leb_is : (a b : ℕ) → leb a b ≡ (ltb a b || eqb a b)
leb_is a b = elim (parts a b) [
  | inl l ↦ rw (lt-ltb a b l) (le-leb a b (le_of_lt l))
  | inr (inl e) ↦ rw (le-ltb a b (le_of_eq (sym e)), eq-eqb a b e) (le-leb a b (le_of_eq e))
  | inr (inr l) ↦ rw (le-ltb a b (le_of_lt l), ne_eqb a b (λ e. omega (arith, l, e))) (lt-leb a b l)
]

le_z_is : (a b : ℤ) → le_z a b ≡ (lt_z a b || equal_z a b)
le_z_is (pos a) (pos b) = leb_is a b
le_z_is (pos a) (negsuc b) = refl
le_z_is (negsuc a) (pos b) = refl
le_z_is (negsuc a) (negsuc b) = leb_is b a ∙ ap (λ t. ltb b a || t) (eqb_back b a)

le_integers : (a b : ℤ) → le (exactly a) (exactly b) ≡ le_z a b
unfolding le
le_integers a b = let p = integers a b in rw (p.0, p.1) (sym (le_z_is a b))

-- two integers are the same where their bits are, over the width
same_bits : (w : Width) (a b : ℤ) → SFits w a → SFits w b → eqb (of_z w a) (of_z w b) ≡ equal_z a b
same_bits w (pos m) (pos n) f g = refl
same_bits w (pos m) (negsuc n) f g =
    let h = f.sfits in let k = g.sfits in let p = pow-bits w in ne_eqb m (2 ^ bits w - suc n) (λ e. omega arith)
same_bits w (negsuc m) (pos n) f g =
    let h = f.sfits in let k = g.sfits in let p = pow-bits w in ne_eqb (2 ^ bits w - suc m) n (λ e. omega arith)
same_bits w (negsuc m) (negsuc n) f g = go (eqb m n) refl
  where
    go : (t : Bool) → eqb m n ≡ t → eqb (2 ^ bits w - suc m) (2 ^ bits w - suc n) ≡ t
    go true e = let d : m ≡ n = eqb-true m n e in eq-eqb (2 ^ bits w - suc m) (2 ^ bits w - suc n) (omega arith)
    go false e =
        let h = f.sfits in let k = g.sfits in let p = pow-bits w in
        ne_eqb (2 ^ bits w - suc m) (2 ^ bits w - suc n) (λ d. eqb-false m n e (omega arith))

module _ (a b : ℤ) (fa : SFits w64 a) (fb : SFits w64 b) where
  pub equal_integers : eqb (of_z w64 a) (of_z w64 b) ≡ eq (exactly a) (exactly b)
  equal_integers = same_bits w64 a b fa fb ∙ sym (integers a b).1

  pub below_integers : lt_z (R a) (R b) ≡ lt (exactly a) (exactly b)
  below_integers = rw (to_z-of_z w64 a fa, to_z-of_z w64 b fb) (sym (integers a b).0)

  pub at_most_integers : le_z (R a) (R b) ≡ le (exactly a) (exactly b)
  at_most_integers = rw (to_z-of_z w64 a fa, to_z-of_z w64 b fb) (sym (le_integers a b))

-- ---- a real of the integer's value compares as the integer
cmp_scaled : (o : Ordering) (p q c : ℕ) → 0 < c → Cmp o p q → Cmp o (p * c) (q * c)
cmp_scaled Ordering.lt p q c C h = mul-lt-mul_of_pos_right h C
cmp_scaled Ordering.eq p q c C h = ap (λ x. x * c) h
cmp_scaled Ordering.gt p q c C h = mul-lt-mul_of_pos_right h C

module _ (s : Bool) (m : ℕ) (e : ℤ) (a : ℕ) (h : m * up e * 1 ≡ a * down e) (t : Bool) (n : ℕ) (d : ℤ) where
  lefts : m * up e * down d ≡ a * 1 * down d * down e
  lefts = ap (λ x. x * down d) (sym (mul-one (m * up e)) ∙ h ∙ ap (λ x. x * down e) (sym (mul-one a))) ∙ mul_right_comm (a * 1) (down e) (down d)

  rights : n * up d * down e ≡ n * up d * 1 * down e
  rights = ap (λ x. x * down e) (sym (mul-one (n * up d)))

  at_fin : Same (fin s m e) (fin t n d) (fin s a (pos 0)) (fin t n d)
  at_fin =
      let X = a * 1 * down d in let Y = n * up d * 1 in let c = down e in let P = left s X t Y in let Q = left t Y s X in let o = compare P Q in
      alike o (fin s m e) (fin t n d) (fin s a (pos 0)) (fin t n d)
      (fins_stand s m e t n d o (rw (lefts, rights, weights_scale s X t Y c, weights_scale t Y s X c) (cmp_scaled o P Q c (down_pos e) (cmp P Q))))
      (fins_stand s a (pos 0) t n d o (cmp P Q))

pub at_value : (u : Float) (s : Bool) (a : ℕ) → HasValue u s a 1 → (x : Float) → Same u x (fin s a (pos 0)) x
unfolding lt eq
at_value nan s a h x = absurd h
at_value (inf t) s a h x = absurd h
at_value (fin t m e) s a h nan = record { under = refl; over = refl; same = refl; back = refl }
at_value (fin t m e) s a h (inf r) = record { under = refl; over = refl; same = refl; back = refl }
at_value (fin t m e) s a h (fin r n d) = subst (λ y. Same (fin y m e) (fin r n d) (fin s a (pos 0)) (fin r n d)) (sym h.0) (at_fin s m e a h.1 r n d)

pub exact_left : (z : ℤ) → nat_abs z ≤ 2 ^ 53 → (x : Float) → Same (of_int binary64 z) x (exactly z) x
unfolding of_int
exact_left (pos n) h x = at_value (round binary64 false n 1) false n (round_whole binary64 false n h) x
exact_left (negsuc n) h x = at_value (round binary64 true (suc n) 1) true (suc n) (round_whole binary64 true (suc n) h) x

pub exact_right : (z : ℤ) → nat_abs z ≤ 2 ^ 53 → (x : Float) → Same x (of_int binary64 z) x (exactly z)
exact_right z h x = exchanged (exact_left z h x)
