-- Escapes and numbers by sign and size, and stores of them one after the other. Assumes nothing.
use mathlib.Core.Path.{◌≡◌, refl, sym, ap, ap₂, ◌∙◌}
use mathlib.Core.Bool.{Bool, true, false, ◌||◌}
use mathlib.Core.List.{List, [], ◌∷◌, ◌++◌}
use Prim.Native.Nat.{ℕ, zero, suc, ◌+◌, ◌*◌, ◌-◌, ◌^◌, ◌≤◌, ◌<◌}
use native.Mathlib.Decide.{dec_lt}
use native.Mathlib.Omega.{arith}
use borrow.Author.Tests.{lt-ltb, le-ltb}
use lib.ListN.{length, get_or, set, take, drop, length-append, length-drop}
use lib.Seq.{sets, drop-cons, drop-nil, length-take-le}
use Rattle.common.proofs.Stores.{sets_append}
use Rattle.decimal.specs.Decimal.{decimal_of, Put}
use Rattle.decimal.proofs.Laws.{length_small, twenty}
use Rattle.ubf.specs.declared.put.Signed.{Signed}
use Rattle.ubf.specs.Fields.{half}
use Rattle.ubf.specs.Escape.{needs_escape, escape_of, escapes, Plain, PlainTo}
use Rattle.ubf.specs.Text.{string_text, signed_of, sign_text, signed_text, binary_text}

-- ---- escapes

pub wide : (b : ℕ) → needs_escape 34 b ≡ true → 2 ≡ length (escape_of 34 b)
wide b e = rw e

pub narrow : (b : ℕ) → needs_escape 34 b ≡ false → 1 ≡ length (escape_of 34 b)
narrow b e = rw e

pub put_wide : (d : List ℕ) (at b : ℕ) → needs_escape 34 b ≡ true → Put d at (escape_of 34 b) (set (set d at 92) (at + 1) b) (at + 2)
put_wide d at b e = let n : at + 1 ≡ suc at = omega arith in record { stored = rw (e, n); next = rw e }

pub put_narrow : (d : List ℕ) (at b : ℕ) → needs_escape 34 b ≡ false → Put d at (escape_of 34 b) (set d at b) (at + 1)
put_narrow d at b e = record { stored = rw e; next = rw e }

-- the escapes of what is left of s
escapes_at : (s : List ℕ) (i : ℕ) → i < length s → escapes 34 (drop i s) ≡ escape_of 34 (get_or s i 0) ++ escapes 34 (drop (i + 1) s)
unfolding escapes
escapes_at s i h =
    let e : i + 1 ≡ suc i = omega arith in
    ap (escapes 34) (drop-cons s i 0 h) ∙ ap (λ (n : ℕ). escape_of 34 (get_or s i 0) ++ escapes 34 (drop n s)) (sym e)

pub rest_escapes : (s : List ℕ) (i : ℕ) → i < length s → length (escapes 34 (drop i s)) ≡ length (escape_of 34 (get_or s i 0)) + length (escapes 34 (drop (i + 1) s))
rest_escapes s i h = ap length (escapes_at s i h) ∙ length-append (escape_of 34 (get_or s i 0)) (escapes 34 (drop (i + 1) s))

drop_past : (y : List ℕ) (k : ℕ) → length y ≤ k → drop k y ≡ []
drop_past [] k g = drop-nil k
drop_past (v ∷ y) zero g = absurd (omega arith)
drop_past (v ∷ y) (suc k) g = drop_past y k (omega arith)

escapes_end : (s : List ℕ) (i : ℕ) → length s ≤ i → escapes 34 (drop i s) ≡ []
unfolding escapes
escapes_end s i h = ap (escapes 34) (drop_past s i h)

pub no_escapes : (s : List ℕ) (i : ℕ) → length s ≤ i → length (escapes 34 (drop i s)) ≡ 0
no_escapes s i h = ap length (escapes_end s i h)

pub escaped_one : (s d : List ℕ) (p i : ℕ) → i < length s → {d1 : List ℕ} {r : ℕ} → Put d p (escape_of 34 (get_or s i 0)) d1 r → sets d1 r (escapes 34 (drop (i + 1) s)) ≡ sets d p (escapes 34 (drop i s))
escaped_one s d p i h {d1} {r} q =
    ap₂ (λ (l : List ℕ) (n : ℕ). sets l n (escapes 34 (drop (i + 1) s))) q.stored q.next
    ∙ sym (sets_append (escape_of 34 (get_or s i 0)) (escapes 34 (drop (i + 1) s)) d p)
    ∙ ap (λ (l : List ℕ). sets d p l) (sym (escapes_at s i h))

pub escaped_end : (s d : List ℕ) (p i : ℕ) → length s ≤ i → d ≡ sets d p (escapes 34 (drop i s))
escaped_end s d p i h = ap (λ (l : List ℕ). sets d p l) (sym (escapes_end s i h))

-- a run that has no escape
run_at : (n : ℕ) (s : List ℕ) (i : ℕ) → i + n ≤ length s → Plain s 34 i (i + n) → escapes 34 (drop i s) ≡ take n (drop i s) ++ escapes 34 (drop (i + n) s)
run_at zero s i h p = let e : i + 0 ≡ i = omega arith in ap (λ (k : ℕ). escapes 34 (drop k s)) (sym e)
run_at (suc n) s i h p =
    let b = get_or s i 0 in
    let w : escape_of 34 b ≡ b ∷ [] = rw (p i (omega arith) (omega arith)) in
    let one : i + 1 ≡ suc i = omega arith in
    let e : suc i + n ≡ i + suc n = omega arith in
    escapes_at s i (omega arith)
    ∙ (ap₂ (λ (x : List ℕ) (k : ℕ). x ++ escapes 34 (drop k s)) w one
    ∙ (ap (λ (x : List ℕ). b ∷ x) (run_at n s (suc i) (omega arith) (λ j l m. p j (omega arith) (omega arith)))
    ∙ ap₂ (λ (x : List ℕ) (k : ℕ). take (suc n) x ++ escapes 34 (drop k s)) (sym (drop-cons s i 0 (omega arith))) e))

module _ (s : List ℕ) (i end : ℕ) (r : PlainTo s 34 i end) where
  escapes_run : escapes 34 (drop i s) ≡ take (end - i) (drop i s) ++ escapes 34 (drop end s)
  escapes_run =
      let e : i + (end - i) ≡ end = omega (arith, r.after) in
      run_at (end - i) s i (omega (arith, r.near)) (λ j l m. r.plain j l (omega arith)) ∙ ap (λ (k : ℕ). take (end - i) (drop i s) ++ escapes 34 (drop k s)) e

  pub length_run : length (take (end - i) (drop i s)) ≡ end - i
  length_run = length-take-le (end - i) (drop i s) (simp length-drop (omega (arith, r.near)))

  pub rest_run : length (escapes 34 (drop i s)) ≡ (end - i) + length (escapes 34 (drop end s))
  rest_run = ap length escapes_run ∙ (length-append (take (end - i) (drop i s)) (escapes 34 (drop end s)) ∙ ap (λ (k : ℕ). k + length (escapes 34 (drop end s))) length_run)

  pub escaped_run : (d : List ℕ) (p : ℕ) {d1 : List ℕ} {t : ℕ} → Put d p (take (end - i) (drop i s)) d1 t → sets d1 t (escapes 34 (drop end s)) ≡ sets d p (escapes 34 (drop i s))
  escaped_run d p {d1} {t} q =
      ap₂ (λ (l : List ℕ) (n : ℕ). sets l n (escapes 34 (drop end s))) q.stored q.next
      ∙ sym (sets_append (take (end - i) (drop i s)) (escapes 34 (drop end s)) d p)
      ∙ ap (λ (l : List ℕ). sets d p l) (sym escapes_run)

-- ---- the lengths of texts

pub escapes_most : (s : List ℕ) → length (escapes 34 s) ≤ 2 * length s
unfolding escapes
escapes_most [] = omega arith
escapes_most (b ∷ s) = let e = length-append (escape_of 34 b) (escapes 34 s) in let ih = escapes_most s in go (needs_escape 34 b) refl e ih
  where
    go : (t : Bool) → needs_escape 34 b ≡ t → length (escape_of 34 b ++ escapes 34 s) ≡ length (escape_of 34 b) + length (escapes 34 s) → length (escapes 34 s) ≤ 2 * length s → length (escape_of 34 b ++ escapes 34 s) ≤ 2 * suc (length s)
    go true n e ih = omega (arith, wide b n)
    go false n e ih = omega (arith, narrow b n)

pub length_string : (s : List ℕ) → length (string_text s) ≡ length (escapes 34 s) + 2
length_string s = let e = length-append (escapes 34 s) (34 ∷ []) in omega arith

pub length_binary : (s : List ℕ) → length (binary_text s) ≡ length (decimal_of (length s)) + (length s + 2)
length_binary s =
    let e = length-append (decimal_of (length s)) (126 ∷ (s ++ (126 ∷ []))) in
    let f = length-append s (126 ∷ []) in
    omega arith

-- ---- signed numbers

pub sign_true : (s : Signed) → s.negative ≡ true → signed_text s ≡ 45 ∷ decimal_of s.size
sign_true s e = ap (λ (b : Bool). sign_text b s.size) e

pub sign_false : (s : Signed) → s.negative ≡ false → signed_text s ≡ decimal_of s.size
sign_false s e = ap (λ (b : Bool). sign_text b s.size) e

pub signed_low : (k u : ℕ) → u < half k → record { negative = false; size = u } ≡ signed_of k u
signed_low k u h = rw (lt-ltb u (half k) h)

pub signed_high : (k u n : ℕ) → half k ≤ u → n ≡ 256 ^ k - u → record { negative = true; size = n } ≡ signed_of k u
signed_high k u n h e = rw (le-ltb u (half k) h, e)

-- one of at most 64 bits has at most 20 digits and a sign
pub signed_short : (k u : ℕ) → 0 < half k → 256 ^ k ≤ 18446744073709551616 → u < 256 ^ k → length (signed_text (signed_of k u)) ≤ 21
signed_short k u z w h = go (dec_lt u (half k))
  where
    go : Dec (u < half k) → length (signed_text (signed_of k u)) ≤ 21
    go (yes l) = let e = ap (λ (s : Signed). length (signed_text s)) (signed_low k u l) in omega (arith, e, twenty u (omega arith))
    go (no l) =
        let e = ap (λ (s : Signed). length (signed_text s)) (signed_high k u (256 ^ k - u) (omega arith) refl) in
        omega (arith, e, twenty (256 ^ k - u) (omega arith))

-- a count of at most 1,024
pub count_short : (n : ℕ) → n ≤ 1024 → length (decimal_of n) ≤ n + 11
count_short n h = go (dec_lt n 10)
  where
    go : Dec (n < 10) → length (decimal_of n) ≤ n + 11
    go (yes l) = omega (arith, length_small n l)
    go (no l) = omega (arith, twenty n (omega arith))

pub or_assoc : (a b c : Bool) → ((a || b) || c) ≡ (a || (b || c))
or_assoc true b c = refl
or_assoc false b c = refl
