-- A real of digits, a point and digits alone. Assumes nothing.
use mathlib.Core.Path.{◌≡◌, refl, sym, ap, ◌∙◌}
use mathlib.Core.Bool.{Bool, true, false, not, ◌&&◌, ◌||◌}
use mathlib.Core.List.{List, [], ◌∷◌, ◌++◌, append-nil}
use Prim.Native.Nat.{ℕ, ◌+◌, ◌-◌, ◌^◌, ◌≤◌, ◌<◌}
use native.Mathlib.Numerals.{add-one}
use native.Mathlib.Omega.{arith}
use lib.Dec.{eqb, leb}
use lib.IntN.{pos, nat_abs, ◌-ℤ◌}
use lib.ListN.{length, get_or, drop, length-append}
use lib.Seq.{drop-cons, drop-drop, drop-length, drop-append_seam}
use borrow.Author.Tests.{le-leb, lt-ltb, ne_eqb}
use Rattle.lexer.specs.Byte.{is_digit_in}
use Rattle.lexer.specs.Run.{run_of, is_empty}
use Rattle.lexer.specs.Digits.{is_minus, digits_of, whole_from, whole_of, capped}
use Rattle.lexer.specs.Real.{whole_digits, from_point, fraction_digits, exponent_part, exponent_digits, exponent_of, is_exponent, is_real, no_zeros, real_fits}
use Rattle.lexer.specs.Token.{scan_run, scan_number}
use Rattle.lexer.specs.Answer.{scanned_of}
use Rattle.lexer.specs.Answer.{Good}
use Rattle.lexer.proofs.Bytes.{range, decimal}
use Rattle.lexer.proofs.Runs.{none_left, empty}
use Rattle.lexer.proofs.Wholes.{digits_part, digits_again}
use Rattle.lexer.proofs.Decimals.{scale_below, digits_decimal, both_decimal, whole_parts, fifteen_capped}
use Rattle.lexer.proofs.Scans.{is_there, real_legal}

-- what starts with digits starts with no sign
no_sign : (s t : List ℕ) → 0 < length (digits_of 10 s) → is_minus (digits_of 10 s ++ t) ≡ false
no_sign [] t h = absurd (omega arith)
no_sign (b ∷ s) t h = go (is_digit_in 10 b) refl
  where
    go : (x : Bool) → is_digit_in 10 b ≡ x → is_minus (digits_of 10 (b ∷ s) ++ t) ≡ false
    go true f = let r = range 48 57 b (decimal b ∙ f) in rw f (ne_eqb b 45 (λ z. omega (arith, r.0)))
    go false f = let z = rw f at h in absurd (omega (arith, z))

-- its parts, its form and its limits
module _ (ds fs : List ℕ) (m : is_minus (ds ++ (46 ∷ fs)) ≡ false) (all : digits_of 10 (ds ++ (46 ∷ fs)) ≡ ds) (more : digits_of 10 fs ≡ fs) (h : 0 < length ds) (k : 0 < length fs) where
  whole : whole_digits (ds ++ (46 ∷ fs)) ≡ ds
  whole = rw m all

  point : from_point (ds ++ (46 ∷ fs)) ≡ 46 ∷ fs
  point = rw (m, all) (drop-append_seam ds (46 ∷ fs))

  fraction : fraction_digits (ds ++ (46 ∷ fs)) ≡ fs
  fraction = ap (λ (l : List ℕ). digits_of 10 (drop 1 l)) point ∙ more

  exponent : exponent_part (ds ++ (46 ∷ fs)) ≡ []
  exponent =
      ap (λ (l : List ℕ). drop (length l) (drop 1 (from_point (ds ++ (46 ∷ fs))))) fraction
      ∙ ap (λ (l : List ℕ). drop (length fs) (drop 1 l)) point
      ∙ drop-length fs

  right_form : is_real (ds ++ (46 ∷ fs)) ≡ true
  right_form = go (whole_digits (ds ++ (46 ∷ fs))) (from_point (ds ++ (46 ∷ fs))) (fraction_digits (ds ++ (46 ∷ fs))) (exponent_part (ds ++ (46 ∷ fs))) whole point fraction exponent
    where
      go : (w p f e : List ℕ) → w ≡ ds → p ≡ 46 ∷ fs → f ≡ fs → e ≡ [] → (not (is_empty w) && eqb (get_or p 0 0) 46 && not (is_empty f) && (is_empty e || is_exponent e)) ≡ true
      go w p f e a b c d = rw (a, b, c, d, ne_eqb (length ds) 0 (λ z. omega arith), ne_eqb (length fs) 0 (λ z. omega arith))

  in_limits_lem : length fs ≤ 22 → leb (length (no_zeros (ds ++ fs))) 15 ≡ true → real_fits (ds ++ (46 ∷ fs)) ≡ true
  in_limits_lem l n = go (exponent_part (ds ++ (46 ∷ fs))) (fraction_digits (ds ++ (46 ∷ fs))) (whole_digits (ds ++ (46 ∷ fs))) exponent fraction whole
    where
      go : (e f w : List ℕ) → e ≡ [] → f ≡ fs → w ≡ ds
          → (leb (length (exponent_digits e)) 3 && leb (nat_abs (exponent_of e -ℤ pos (length f))) 22 && leb (length (no_zeros (w ++ f))) 15) ≡ true
      go e f w a b c =
          let z = (scale_below false 0 (length fs) 0 (length fs) refl refl refl k).0 in
          let s : leb (nat_abs (exponent_of [] -ℤ pos (length fs))) 22 ≡ true = ap (λ (x : ℕ). leb x 22) (sym z) ∙ le-leb (length fs - 0) 22 (omega arith) in
          rw (a, b, c, s, n)

-- in a text from a place on, by where the point stands, where the digits after it end, and the whole number that all digits form
module _ (s : List ℕ) (at e g u v : ℕ) (d : e ≡ at + length (digits_of 10 (drop at s))) (w : u ≡ capped (whole_of 10 (digits_of 10 (drop at s)))) (p : get_or s e 0 ≡ 46)
    (f : g ≡ e + 1 + length (digits_of 10 (drop (e + 1) s))) (x : v ≡ capped (whole_from 10 u (digits_of 10 (drop (e + 1) s)))) where
  run_is : is_empty (run_of 0 (drop g s)) ≡ true → run_of 0 (drop at s) ≡ digits_of 10 (drop at s) ++ (46 ∷ digits_of 10 (drop (e + 1) s))
  run_is n =
      let ds = digits_of 10 (drop at s) in
      let fs = digits_of 10 (drop (e + 1) s) in
      let a : drop (length ds) (drop at s) ≡ drop e s = drop-drop (length ds) at s ∙ ap (λ (k : ℕ). drop k s) (sym d) in
      let b : drop (length fs) (drop (e + 1) s) ≡ drop g s = drop-drop (length fs) (e + 1) s ∙ ap (λ (k : ℕ). drop k s) (sym f) in
      let r : run_of 0 (drop (e + 1) s) ≡ fs =
      digits_part (drop (e + 1) s) ∙ ap (λ (l : List ℕ). fs ++ run_of 0 l) b ∙ ap (λ (l : List ℕ). fs ++ l) (none_left (run_of 0 (drop g s)) (empty (run_of 0 (drop g s)) n)) ∙ append-nil fs in
      let i = is_there s e (λ z. let y = sym z ∙ p in absurd (omega (arith, y))) in
      let c : drop e s ≡ 46 ∷ drop (e + 1) s = drop-cons s e 0 i ∙ ap (λ (k : ℕ). get_or s e 0 ∷ drop k s) (sym (add-one e)) ∙ ap (λ (b : ℕ). b ∷ drop (e + 1) s) p in
      digits_part (drop at s) ∙ ap (λ (l : List ℕ). ds ++ run_of 0 l) (a ∙ c) ∙ ap (λ (l : List ℕ). ds ++ (46 ∷ l)) r

  pub plain_real : at < e → 2 ≤ g - e → g - e ≤ 23 → v < 10 ^ 15 → is_empty (run_of 0 (drop g s)) ≡ true → Good 3 (g - at) ≡ scanned_of (scan_number (drop at s))
  plain_real h lo hi l n =
      let ds = digits_of 10 (drop at s) in
      let fs = digits_of 10 (drop (e + 1) s) in
      let some : 0 < length ds = omega (arith, d) in
      let few : (0 < length fs) × (length fs ≤ 22) = (omega (arith, f), omega (arith, f)) in
      let m = no_sign (drop at s) (46 ∷ fs) some in
      let all : digits_of 10 (ds ++ (46 ∷ fs)) ≡ ds = digits_again 10 (drop at s) (46 ∷ fs) refl in
      let more : digits_of 10 fs ≡ fs = ap (digits_of 10) (sym (append-nil fs)) ∙ digits_again 10 (drop (e + 1) s) [] refl in
      let y : v ≡ capped (whole_of 10 (ds ++ fs)) = x ∙ ap (λ (z : ℕ). capped (whole_from 10 z fs)) w ∙ whole_parts 10 ds fs (omega arith) in
      let z = sym (fifteen_capped (ds ++ fs) (both_decimal ds fs (digits_decimal (drop at s)) (digits_decimal (drop (e + 1) s)))) ∙ lt-ltb (capped (whole_of 10 (ds ++ fs))) (10 ^ 15) (omega (arith, y, l)) in
      let c : g - at ≡ length (ds ++ (46 ∷ fs)) = omega (arith, d, f, length-append ds (46 ∷ fs)) in
      ap (λ (k : ℕ). Good 3 k) c
      ∙ real_legal (ds ++ (46 ∷ fs)) (right_form ds fs m all more some few.0) (in_limits_lem ds fs m all more some few.0 few.1 z)
      ∙ ap (λ (l : List ℕ). scanned_of (scan_run l)) (sym (run_is n))
