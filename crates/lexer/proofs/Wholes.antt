-- Digits that stand first, and the whole numbers that they form. Assumes nothing.
use mathlib.Core.Path.{◌≡◌, refl, sym, ap, ◌∙◌}
use mathlib.Core.Bool.{Bool, true, false, ◌||◌}
use mathlib.Core.List.{List, [], ◌∷◌, ◌++◌}
use Prim.Native.Nat.{ℕ, ◌+◌, ◌-◌, ◌*◌, ◌/◌, ◌≤◌, ◌<◌}
use native.Mathlib.Nat.{le-div_iff_mul-le, div-lt_iff_lt-mul, le-mul_of_pos_right, mul-le-mul_left}
use native.Mathlib.Decide.{dec_le}
use native.Mathlib.Numerals.{add-one}
use native.Mathlib.Omega.{arith}
use lib.Dec.{eqb}
use lib.ListN.{length, get_or, drop, drop_of_length-le, length-drop}
use lib.Seq.{drop-cons}
use borrow.Author.Tests.{le-leb, lt-ltb, le-ltb, eqb-true}
use Rattle.common.proofs.Choice.{false_true}
use Rattle.lexer.specs.Byte.{within, is_common, digit_of, is_digit_in}
use Rattle.lexer.specs.Run.{ends, run_from}
use Rattle.lexer.specs.Digits.{digits_of, whole_from, capped}
use Rattle.lexer.proofs.Bytes.{range, common_ends_none, common_takes_none, decimal, digit_common}
use Rattle.lexer.proofs.Runs.{none_left, First, first_fits}

module _ (s : List ℕ) (i base : ℕ) where
  pub digits_stop : i < length s → base ≤ digit_of (get_or s i 0) → digits_of base (drop i s) ≡ []
  digits_stop h d = rw (drop-cons s i 0 h, le-ltb (digit_of (get_or s i 0)) base d)

  pub digits_more : i < length s → digit_of (get_or s i 0) < base → get_or s i 0 ∷ digits_of base (drop (i + 1) s) ≡ digits_of base (drop i s)
  digits_more h d = rw (add-one, drop-cons s i 0 h, lt-ltb (digit_of (get_or s i 0)) base d)

  pub digits_end : length s ≤ i → digits_of base (drop i s) ≡ []
  digits_end h = rw (drop_of_length-le s h)

pub digits_first : (base : ℕ) (s : List ℕ) → First (digits_of base s) s
digits_first base [] = refl
digits_first base (b ∷ s) = go (digits_first base s) (is_digit_in base b) refl
  where
    go : First (digits_of base s) s → (e : Bool) → is_digit_in base b ≡ e → First (digits_of base (b ∷ s)) (b ∷ s)
    go ih true e = rw e (ap (λ (l : List ℕ). b ∷ l) ih)
    go ih false e = rw e

pub digits_fit : (base k : ℕ) (s : List ℕ) → length (digits_of base (drop k s)) ≤ length s
digits_fit base k s = let f = first_fits (digits_of base (drop k s)) (drop k s) (digits_first base (drop k s)) in omega (arith, length-drop k s)

-- one digit more, within the cap
pub small : (v base d : ℕ) → base ≤ 16 → d ≤ 16 → v < 576460752303423488 → v * base + d ≤ 9223372036854775808
small v base d b h l = let m = mul-le-mul_left v b in omega (arith, m)

module _ (v base d : ℕ) (b : 0 < base) (h : d ≤ 16) where
  pub over : (9223372036854775809 - d) / base < v → 9223372036854775809 ≡ capped (v * base + d)
  over l = let m : 9223372036854775809 - d < v * base = (div-lt_iff_lt-mul b).0 l in omega arith

  pub under : v ≤ (9223372036854775809 - d) / base → v * base + d ≤ 9223372036854775809
  under l = let m : v * base ≤ 9223372036854775809 - d = (le-div_iff_mul-le b).0 l in omega arith

-- what is capped already gives the same
capped_step : (v w base d : ℕ) → 0 < base → capped v ≡ capped w → capped (v * base + d) ≡ capped (w * base + d)
capped_step v w base d b e = go (dec_le 9223372036854775809 v)
  where
    go : Dec (9223372036854775809 ≤ v) → capped (v * base + d) ≡ capped (w * base + d)
    go (yes h) =
        let p = le-mul_of_pos_right v b in
        let q = le-mul_of_pos_right w b in
        omega arith
    go (no h) = let z : v ≡ w = omega arith in rw z

pub capped_whole : (base : ℕ) (s : List ℕ) (v w : ℕ) → 0 < base → capped v ≡ capped w → capped (whole_from base v s) ≡ capped (whole_from base w s)
capped_whole base [] v w b e = e
capped_whole base (x ∷ s) v w b e = capped_whole base s (v * base + digit_of x) (w * base + digit_of x) b (capped_step v w base (digit_of x) b e)

-- what the code finds, from a place on, of the digits from another
abbrev pub Same : ℕ → List ℕ → ℕ → ℕ → ℕ → ℕ → Type 0
Same base s at high i v =
    (i + length (digits_of base (drop i s)) ≡ at + length (digits_of base (drop at s)))
    × (capped (whole_from base v (digits_of base (drop i s))) ≡ capped (whole_from base high (digits_of base (drop at s))))

module _ (s : List ℕ) (at base high i v : ℕ) where
  pub read_more : 0 < base → i < length s → digit_of (get_or s i 0) < base → (w : ℕ) → w ≡ capped (v * base + digit_of (get_or s i 0))
      → Same base s at high i v → Same base s at high (i + 1) w
  read_more b h d w e same =
      let m = digits_more s i base h d in
      let z : capped w ≡ capped (v * base + digit_of (get_or s i 0)) = omega arith in
      let c = capped_whole base (digits_of base (drop (i + 1) s)) w (v * base + digit_of (get_or s i 0)) b z in
      (omega (arith, ap length m, same.0), c ∙ ap (λ l. capped (whole_from base v l)) m ∙ same.1)

  pub read_end : v ≤ 9223372036854775809 → digits_of base (drop i s) ≡ [] → Same base s at high i v
      → (i ≡ at + length (digits_of base (drop at s))) × (v ≡ capped (whole_from base high (digits_of base (drop at s))))
  read_end h e same =
      let l = same.0 in
      let c = rw e at same.1 in
      (omega (arith, ap length e, l), omega (arith, c))

-- A run that starts with digits is these and what is left of it after them.
pub digits_part : (s : List ℕ) → run_from 0 false s ≡ digits_of 10 s ++ run_from 0 false (drop (length (digits_of 10 s)) s)
digits_part [] = refl
digits_part (b ∷ s) = go (digits_part s) (is_digit_in 10 b) refl
  where
    go : run_from 0 false s ≡ digits_of 10 s ++ run_from 0 false (drop (length (digits_of 10 s)) s)
        → (x : Bool) → is_digit_in 10 b ≡ x → run_from 0 false (b ∷ s) ≡ digits_of 10 (b ∷ s) ++ run_from 0 false (drop (length (digits_of 10 (b ∷ s))) (b ∷ s))
    go ih true f = let c = digit_common b f in rw (f, common_ends_none b c, common_takes_none b c) (ap (λ (l : List ℕ). b ∷ l) ih)
    go ih false f = rw f

-- they are its digits where no other digit comes next
pub digits_again : (base : ℕ) (s t : List ℕ) → digits_of base t ≡ [] → digits_of base (digits_of base s ++ t) ≡ digits_of base s
digits_again base [] t n = n
digits_again base (b ∷ s) t n = go (digits_again base s t n) (is_digit_in base b) refl
  where
    go : digits_of base (digits_of base s ++ t) ≡ digits_of base s → (x : Bool) → is_digit_in base b ≡ x → digits_of base (digits_of base (b ∷ s) ++ t) ≡ digits_of base (b ∷ s)
    go ih true e = rw (e, e) (ap (λ (l : List ℕ). b ∷ l) ih)
    go ih false e = rw e n

-- those of a run are those of the text
pub digits_in_run : (s : List ℕ) → digits_of 10 (run_from 0 false s) ≡ digits_of 10 s
digits_in_run [] = refl
digits_in_run (b ∷ s) = go (digits_in_run s) (is_digit_in 10 b) refl
  where
    stop : is_digit_in 10 b ≡ false → (x : Bool) → ends 0 b ≡ x → digits_of 10 (run_from 0 false (b ∷ s)) ≡ []
    stop f true e = rw e
    stop f false e = rw (e, f)

    go : digits_of 10 (run_from 0 false s) ≡ digits_of 10 s → (x : Bool) → is_digit_in 10 b ≡ x → digits_of 10 (run_from 0 false (b ∷ s)) ≡ digits_of 10 (b ∷ s)
    go ih true f = let c = digit_common b f in rw (common_ends_none b c, common_takes_none b c, f) (ap (λ (l : List ℕ). b ∷ l) ih)
    go ih false f = stop f (ends 0 b) refl ∙ sym (rw f)

-- the first of them, which is not `0`
pub first_digit : (b : ℕ) (s : List ℕ) → within 49 57 b ≡ true → (get_or (digits_of 10 (b ∷ s)) 0 0 ≡ b) × (0 < length (digits_of 10 (b ∷ s)))
first_digit b s e =
    let r = range 49 57 b e in
    let f : is_digit_in 10 b ≡ true = sym (decimal b) ∙ rw (le-leb 48 b (omega arith), le-leb b 57 r.1) in
    rw f (refl, omega arith)

-- one digit alone that is none of 1..9
pub lone_zero : (b : ℕ) (s : List ℕ) → length (digits_of 10 (b ∷ s)) ≡ 1 → within 49 57 b ≡ false → digits_of 10 (b ∷ s) ≡ 48 ∷ []
lone_zero b s l n = go (is_digit_in 10 b) refl
  where
    go : (x : Bool) → is_digit_in 10 b ≡ x → digits_of 10 (b ∷ s) ≡ 48 ∷ []
    go false f = let z = rw f at l in absurd (omega (arith, z))
    go true f =
        let r = range 48 57 b (decimal b ∙ f) in
        let low : b < 49 = under (dec_le 49 b) in
        let k : b ≡ 48 = omega (arith, r.0) in
        let m : length (digits_of 10 s) ≡ 0 = omega (arith, rw f at l) in
        rw f (ap (λ (x : ℕ). x ∷ digits_of 10 s) k ∙ ap (λ (t : List ℕ). 48 ∷ t) (none_left (digits_of 10 s) m))
      where
        under : Dec (49 ≤ b) → b < 49
        under (yes h) = let r = range 48 57 b (decimal b ∙ f) in false_true (sym n ∙ rw (le-leb 49 b h, le-leb b 57 r.1))
        under (no h) = omega arith

-- the suffix of an int64
pub suffix_byte : (b : ℕ) → (eqb b 108 || eqb b 76) ≡ true → (is_common b ≡ true) × (is_digit_in 10 b ≡ false)
suffix_byte b e = go (eqb b 108) refl
  where
    go : (x : Bool) → eqb b 108 ≡ x → (is_common b ≡ true) × (is_digit_in 10 b ≡ false)
    go true f = let z = eqb-true b 108 f in (rw z, rw z)
    go false f = let z = eqb-true b 76 (rw f at e) in (rw z, rw z)
