-- Reals as they are written: the places of their parts, how large decimal digits are, the count of those without leading zeros, and E. Assumes nothing.
use mathlib.Core.Path.{◌≡◌, refl, sym, ap, ◌∙◌}
use mathlib.Core.Bool.{Bool, true, false, not, cond, ◌&&◌, ◌||◌, and-true}
use mathlib.Core.List.{List, [], ◌∷◌, ◌++◌}
use Prim.Native.Nat.{ℕ, zero, suc, ◌+◌, ◌-◌, ◌*◌, ◌^◌, ◌≤◌, ◌<◌}
use native.Mathlib.Nat.{add-zero, pow-zero, pow-suc, pow-le-pow_right, add-mul, mul_assoc, mul_comm, mul-le-mul_right}
use native.Mathlib.Decide.{dec_le}
use native.Mathlib.Omega.{arith}
use lib.Dec.{eqb, leb, ltb, lit<}
use lib.ListN.{length, get_or, drop}
use lib.Seq.{drop-drop, get_or-drop}
use lib.IntN.{ℤ, pos, nat_abs, ◌-ℤ◌}
use borrow.Author.Tests.{lt-ltb, le-ltb, le-leb, lt-leb, ltb-true, leb-true, eqb-true, eqb-false, eq-eqb, ne_eqb}
use Rattle.number.specs.Integer.{is_negative, signed_of}
use Rattle.lexer.specs.Byte.{within, digit_of, is_digit_in}
use Rattle.lexer.specs.Run.{is_empty}
use Rattle.lexer.specs.Digits.{is_minus, sign_length, digits_of, whole_from, whole_of, capped}
use Rattle.lexer.specs.Real.{whole_digits, from_point, fraction_digits, exponent_part, point_at, exponent_at, exponent_digits, is_exponent, is_real, real_digits, no_zeros, scale_of, real_fits}
use Rattle.octets.proofs.Theorems.{and_parts}
use Rattle.lexer.proofs.Bytes.{range}
use Rattle.lexer.proofs.Wholes.{digits_fit, capped_whole}

-- the places of a real's parts
pub same_place : (n k : ℕ) → eqb (n + k) n ≡ eqb k 0
same_place n zero = eq-eqb (n + 0) n (omega arith)
same_place n (suc k) = ne_eqb (n + suc k) n (λ z. omega arith) ∙ sym (ne_eqb (suc k) 0 (λ z. omega arith))

module _ (run : List ℕ) where
  from_point_lem : drop (point_at run) run ≡ from_point run
  from_point_lem = sym (drop-drop (length (whole_digits run)) (sign_length run) run)

  pub after_point : drop (point_at run + 1) run ≡ drop 1 (from_point run)
  after_point = sym (drop-drop 1 (point_at run) run) ∙ ap (λ (l : List ℕ). drop 1 l) from_point_lem

  pub from_exponent : drop (exponent_at run) run ≡ exponent_part run
  from_exponent =
      sym (drop-drop (length (fraction_digits run)) (point_at run + 1) run)
      ∙ ap (λ (l : List ℕ). drop (length (fraction_digits run)) l) after_point

  pub point_fits : point_at run ≤ length run + 1
  point_fits = omega (arith, digits_fit 10 (sign_length run) run, sign_small (is_minus run))
    where
      sign_small : (b : Bool) → cond b 1 0 ≤ 1
      sign_small true = omega arith
      sign_small false = omega arith

  pub fraction_fits : length (fraction_digits run) ≤ length run
  fraction_fits = omega (arith, digits_fit 10 (point_at run + 1) run, ap (λ (l : List ℕ). length (digits_of 10 l)) after_point)

  -- the form, by those places
  at_point : get_or (from_point run) 0 0 ≡ get_or run (point_at run) 0
  at_point = ap (λ (l : List ℕ). get_or l 0 0) (sym from_point_lem) ∙ get_or-drop (point_at run) run 0 0 ∙ ap (λ (k : ℕ). get_or run k 0) (add-zero (point_at run))

  pub no_point : (get_or run (point_at run) 0 ≡ 46 → ⊥) → false ≡ is_real run
  no_point f =
      let e : eqb (get_or (from_point run) 0 0) 46 ≡ false = ne_eqb (get_or (from_point run) 0 0) 46 (λ z. f (sym at_point ∙ z)) in
      rw e (go (not (is_empty (whole_digits run))))
    where
      go : (b : Bool) → false ≡ (b && false && not (is_empty (fraction_digits run)) && (is_empty (exponent_part run) || is_exponent (exponent_part run)))
      go true = refl
      go false = refl

  pub with_point : get_or run (point_at run) 0 ≡ 46
      → (not (eqb (point_at run) (sign_length run)) && not (eqb (exponent_at run) (point_at run + 1)) && (is_empty (exponent_part run) || is_exponent (exponent_part run)))
      ≡ is_real run
  with_point f =
      let e : eqb (get_or (from_point run) 0 0) 46 ≡ true = eq-eqb (get_or (from_point run) 0 0) 46 (at_point ∙ f) in
      rw (e, same_place (sign_length run) (length (whole_digits run)), same_place (point_at run + 1) (length (fraction_digits run)), and-true (not (is_empty (whole_digits run))))

-- "E, the exponent less the count of fraction digits", by its size and its sign
abbrev Sized : ℤ → ℕ → Bool → Type 0
Sized z size down = (size ≡ nat_abs z) × (down ≡ is_negative z)

size_down : (x n : ℕ) → Sized (signed_of true x -ℤ pos n) (x + n) (ltb 0 (x + n))
size_down zero zero = (refl, refl)
size_down zero (suc k) =
    let l : ltb 0 (suc k) ≡ true = lt-ltb 0 (suc k) (omega arith) in
    let m : ltb 0 (0 + suc k) ≡ true = lt-ltb 0 (0 + suc k) (omega arith) in
    (rw l (omega arith), rw (m, l))
size_down (suc j) zero =
    let l : ltb 0 (suc j) ≡ true = lt-ltb 0 (suc j) (omega arith) in
    let m : ltb 0 (suc j + 0) ≡ true = lt-ltb 0 (suc j + 0) (omega arith) in
    (rw l (omega arith), rw (m, l))
size_down (suc j) (suc k) = (omega arith, lt-ltb 0 (suc j + suc k) (omega arith))

size_below : (x n : ℕ) → x < n → Sized (signed_of false x -ℤ pos n) (n - x) true
size_below x zero h = absurd (omega arith)
size_below x (suc k) h = let l = lt-ltb x (suc k) h in (rw l (omega arith), rw l)

size_above : (x n : ℕ) → n ≤ x → Sized (signed_of false x -ℤ pos n) (x - n) false
size_above x zero h = (omega arith, refl)
size_above x (suc k) h = let l = le-ltb x (suc k) h in (rw l, rw l)

-- the same of the numbers that the code found
module _ (down : Bool) (x n x' n' : ℕ) (e : x' ≡ x) (f : n' ≡ n) where
  pub scale_down : down ≡ true → Sized (signed_of down x -ℤ pos n) (x' + n') (ltb 0 (x' + n'))
  scale_down d = rw (e, f, d) (size_down x n)

  pub scale_below : down ≡ false → x' < n' → Sized (signed_of down x -ℤ pos n) (n' - x') true
  scale_below d h = rw (e, f, d) (size_below x n (omega arith))

  pub scale_above : down ≡ false → n' ≤ x' → Sized (signed_of down x -ℤ pos n) (x' - n') false
  scale_above d h = rw (e, f, d) (size_above x n (omega arith))

-- decimal digits
abbrev pub Decimal : List ℕ → Type 0
Decimal [] = Unit {0}
Decimal (b ∷ s) = (digit_of b < 10) × Decimal s

pub digits_decimal : (s : List ℕ) → Decimal (digits_of 10 s)
digits_decimal [] = tt
digits_decimal (b ∷ s) = go (digits_decimal s) (is_digit_in 10 b) refl
  where
    go : Decimal (digits_of 10 s) → (e : Bool) → is_digit_in 10 b ≡ e → Decimal (digits_of 10 (b ∷ s))
    go ih true e = rw e (ltb-true (digit_of b) 10 e, ih)
    go ih false e = rw e tt

pub both_decimal : (s t : List ℕ) → Decimal s → Decimal t → Decimal (s ++ t)
both_decimal [] t p q = q
both_decimal (b ∷ s) t p q = (p.0, both_decimal s t p.1 q)

-- the whole number of two parts
whole_append : (base v : ℕ) (s t : List ℕ) → whole_from base v (s ++ t) ≡ whole_from base (whole_from base v s) t
whole_append base v [] t = refl
whole_append base v (b ∷ s) t = whole_append base (v * base + digit_of b) s t

pub whole_parts : (base : ℕ) (s t : List ℕ) → 0 < base → capped (whole_from base (capped (whole_of base s)) t) ≡ capped (whole_of base (s ++ t))
whole_parts base s t b =
    let e : capped (capped (whole_of base s)) ≡ capped (whole_of base s) = omega arith in
    capped_whole base t (capped (whole_of base s)) (whole_of base s) b e ∙ ap capped (sym (whole_append base 0 s t))

-- n digits are below 10 ^ n
whole_shift : (v : ℕ) (s : List ℕ) → whole_from 10 v s ≡ v * 10 ^ length s + whole_from 10 0 s
whole_shift v [] = rw (pow-zero 10) (omega arith)
whole_shift v (b ∷ s) =
    let a = whole_shift (v * 10 + digit_of b) s in
    let z = whole_shift (0 * 10 + digit_of b) s in
    let p = add-mul (v * 10) (digit_of b) (10 ^ length s) in
    let q = add-mul (0 * 10) (digit_of b) (10 ^ length s) in
    let m : v * 10 * 10 ^ length s ≡ v * (10 ^ length s * 10) = mul_assoc v 10 (10 ^ length s) ∙ ap (λ (k : ℕ). v * k) (mul_comm 10 (10 ^ length s)) in
    rw (pow-suc 10 (length s)) (omega (arith, a, z, p, q, m))

whole_first : (b : ℕ) (s : List ℕ) → whole_of 10 (b ∷ s) ≡ digit_of b * 10 ^ length s + whole_of 10 s
whole_first b s = let e : 0 * 10 + digit_of b ≡ digit_of b = omega arith in rw e (whole_shift (digit_of b) s)

pub decimal_small : (s : List ℕ) → Decimal s → whole_of 10 s < 10 ^ length s
decimal_small [] d = rw (pow-zero 10) (omega arith)
decimal_small (b ∷ s) d =
    let e = whole_first b s in
    let ih = decimal_small s d.1 in
    let m = mul-le-mul_right {m = digit_of b} {n = 9} (10 ^ length s) (omega (arith, d.0)) in
    rw (pow-suc 10 (length s)) (omega (arith, e, ih, m))

-- "Without leading zeros the digits .. number at most 15": D is below 10 ^ 15
not_zero : (b : ℕ) → digit_of b < 10 → (b ≡ 48 → ⊥) → 0 < digit_of b
not_zero b d f = go (within 48 57 b) refl (within 97 102 b) refl (within 65 70 b) refl
  where
    go : (p : Bool) → within 48 57 b ≡ p → (q : Bool) → within 97 102 b ≡ q → (r : Bool) → within 65 70 b ≡ r → 0 < digit_of b
    go true e q f' r g = let h = range 48 57 b e in rw e (omega arith)
    go false e true f' r g = let h = range 97 102 b f' in rw (e, f') (omega arith)
    go false e false f' true g = let h = range 65 70 b g in rw (e, f', g) (omega arith)
    go false e false f' false g = rw (e, f', g) (omega arith)

pub fifteen : (s : List ℕ) → Decimal s → ltb (whole_of 10 s) (10 ^ 15) ≡ leb (length (no_zeros s)) 15
fifteen [] d = refl
fifteen (b ∷ s) d = go (fifteen s d.1) (eqb b 48) refl
  where
    large : 0 < digit_of b → 10 ^ length s ≤ whole_of 10 (b ∷ s)
    large h =
        let e = whole_first b s in
        let m = mul-le-mul_right {m = 1} {n = digit_of b} (10 ^ length s) h in
        omega (arith, e, m)

    many : 0 < digit_of b → Dec (suc (length s) ≤ 15) → ltb (whole_of 10 (b ∷ s)) (10 ^ 15) ≡ leb (suc (length s)) 15
    many h (yes l) =
        let p : 10 ^ suc (length s) ≤ 10 ^ 15 = pow-le-pow_right (lit< tt) l in
        let w = decimal_small (b ∷ s) d in
        rw (lt-ltb (whole_of 10 (b ∷ s)) (10 ^ 15) (omega arith), le-leb (suc (length s)) 15 l)
    many h (no l) =
        let q : 15 ≤ length s = omega arith in
        let p : 10 ^ 15 ≤ 10 ^ length s = pow-le-pow_right (lit< tt) q in
        let w = large h in
        rw (le-ltb (whole_of 10 (b ∷ s)) (10 ^ 15) (omega arith), lt-leb (suc (length s)) 15 (omega arith))

    go : ltb (whole_of 10 s) (10 ^ 15) ≡ leb (length (no_zeros s)) 15 → (e : Bool) → eqb b 48 ≡ e
        → ltb (whole_of 10 (b ∷ s)) (10 ^ 15) ≡ leb (length (no_zeros (b ∷ s))) 15
    go ih true e = let z = eqb-true b 48 e in rw (e, z) ih
    go ih false e = rw e (many (not_zero b d.0 (eqb-false b 48 e)) (dec_le (suc (length s)) 15))

pub fifteen_capped : (s : List ℕ) → Decimal s → ltb (capped (whole_of 10 s)) (10 ^ 15) ≡ leb (length (no_zeros s)) 15
fifteen_capped s d = go (dec_le (10 ^ 15) (whole_of 10 s)) ∙ fifteen s d
  where
    go : Dec (10 ^ 15 ≤ whole_of 10 s) → ltb (capped (whole_of 10 s)) (10 ^ 15) ≡ ltb (whole_of 10 s) (10 ^ 15)
    go (yes h) = rw (le-ltb (capped (whole_of 10 s)) (10 ^ 15) (omega arith), le-ltb (whole_of 10 s) (10 ^ 15) h)
    go (no h) = rw (lt-ltb (capped (whole_of 10 s)) (10 ^ 15) (omega arith), lt-ltb (whole_of 10 s) (10 ^ 15) (omega arith))

pub kept_small : (s : List ℕ) → Decimal s → leb (length (no_zeros s)) 15 ≡ true → capped (whole_of 10 s) ≡ whole_of 10 s
kept_small s d e = let h = ltb-true (whole_of 10 s) (10 ^ 15) (fifteen s d ∙ e) in omega arith

-- an exponent of at most three digits is below 1,000
pub three_small : (s : List ℕ) → Decimal s → length s ≤ 3 → (capped (whole_of 10 s) ≡ whole_of 10 s) × (whole_of 10 s < 1000)
three_small s d h =
    let w = decimal_small s d in
    let p : 10 ^ length s ≤ 10 ^ 3 = pow-le-pow_right (lit< tt) h in
    (omega arith, omega arith)

-- the digits and the limits of a run
pub real_decimal : (run : List ℕ) → Decimal (real_digits run)
real_decimal run =
    both_decimal (whole_digits run) (fraction_digits run)
    (digits_decimal (drop (sign_length run) run))
    (digits_decimal (drop 1 (from_point run)))

pub fits_parts : (run : List ℕ) → real_fits run ≡ true → (length (exponent_digits (exponent_part run)) ≤ 3) × (leb (length (no_zeros (real_digits run))) 15 ≡ true)
fits_parts run e =
    let three = leb (length (exponent_digits (exponent_part run))) 3 in
    let scale = leb (nat_abs (scale_of run)) 22 in
    let p = and_parts (three && scale) (leb (length (no_zeros (real_digits run))) 15) e in
    (leb-true (length (exponent_digits (exponent_part run))) 3 (and_parts three scale p.0).0, p.1)
