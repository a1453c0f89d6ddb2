-- The tables, laid end to end: where the first one ends, the stretches one after the other, and the turns of the walks over them. Assumes nothing.
use mathlib.Core.Path.{◌≡◌, refl, sym, ap, ◌∙◌}
use mathlib.Core.Bool.{Bool, true, false, cond, ◌&&◌}
use mathlib.Core.List.{List, [], ◌∷◌}
use Prim.Native.Nat.{ℕ, zero, suc, ◌+◌, ◌-◌, ◌≤◌, ◌<◌}
use native.Mathlib.Omega.{arith}
use lib.Dec.{leb}
use lib.ListN.{length, take, drop, length-drop}
use borrow.Author.Tests.{leb-true, le-leb, lt-leb, eq-eqb, ne_eqb}
use Rattle.word.specs.Word.{word_at}
use Rattle.many.specs.Many.{extent_of, stretches_from, stretches_of}

-- ---- where the first table ends

module _ (s : List ℕ) where
  extent_short : length s < 4 → extent_of s ≡ length s
  extent_short h = rw (lt-leb 4 (length s) h)

  extent_passes : 4 ≤ length s → length s < 4 + word_at 4 s 0 → extent_of s ≡ length s
  extent_passes h p = rw (le-leb 4 (length s) h, lt-leb (4 + word_at 4 s 0) (length s) p)

  extent_lies : 4 ≤ length s → 4 + word_at 4 s 0 ≤ length s → extent_of s ≡ 4 + word_at 4 s 0
  extent_lies h p = rw (le-leb 4 (length s) h, le-leb (4 + word_at 4 s 0) (length s) p)

  -- it has at least one byte, and does not pass the end
  pub extent_bounds : 0 < length s → (0 < extent_of s) × (extent_of s ≤ length s)
  extent_bounds h = go (leb 4 (length s)) (leb (4 + word_at 4 s 0) (length s)) refl
    where
      go : (a b : Bool) → leb (4 + word_at 4 s 0) (length s) ≡ b → (0 < cond (a && b) (4 + word_at 4 s 0) (length s)) × (cond (a && b) (4 + word_at 4 s 0) (length s) ≤ length s)
      go true true e = (omega arith, leb-true (4 + word_at 4 s 0) (length s) e)
      go true false e = (h, omega arith)
      go false b e = (h, omega arith)

-- ---- the stretches

module _ (s : List ℕ) where
  pub from_none : (n : ℕ) → length s ≡ 0 → stretches_from n s ≡ []
  unfolding stretches_from
  from_none zero e = refl
  from_none (suc n) e = rw (eq-eqb (length s) 0 e)

  pub from_some : (n : ℕ) → 0 < length s → stretches_from (suc n) s ≡ take (extent_of s) s ∷ stretches_from n (drop (extent_of s) s)
  unfolding stretches_from
  from_some n h = let z : length s ≡ 0 → ⊥ = λ e. omega arith in rw (ne_eqb (length s) 0 z)

-- each takes a byte at least, so that as many as there are bytes are all
enough : (n m : ℕ) (s : List ℕ) → length s ≤ n → length s ≤ m → stretches_from n s ≡ stretches_from m s
enough zero m s p q = from_none s zero (omega arith) ∙ sym (from_none s m (omega arith))
enough (suc n) zero s p q = from_none s (suc n) (omega arith) ∙ sym (from_none s zero (omega arith))
enough (suc n) (suc m) [] p q = from_none [] (suc n) refl ∙ sym (from_none [] (suc m) refl)
enough (suc n) (suc m) (x ∷ xs) p q =
    let s : List ℕ = x ∷ xs in
    let some : 0 < length s = omega arith in
    let b = extent_bounds s some in
    let l = length-drop (extent_of s) s in
    let ih = enough n m (drop (extent_of s) s) (omega arith) (omega arith) in
    from_some s n some ∙ (ap (λ (ts : List (List ℕ)). take (extent_of s) s ∷ ts) ih ∙ sym (from_some s m some))

module _ (s : List ℕ) where
  none : length s ≡ 0 → stretches_of s ≡ []
  none = from_none s (length s)

  pub first_and_rest : 0 < length s → stretches_of s ≡ take (extent_of s) s ∷ stretches_of (drop (extent_of s) s)
  first_and_rest h =
      let z : length s ≡ suc (length s - 1) = omega arith in
      let b = extent_bounds s h in
      let l = length-drop (extent_of s) s in
      let r = enough (length s - 1) (length (drop (extent_of s) s)) (drop (extent_of s) s) (omega arith) (omega arith) in
      ap (λ (n : ℕ). stretches_from n s) z ∙ (from_some s (length s - 1) h ∙ ap (λ (ts : List (List ℕ)). take (extent_of s) s ∷ ts) r)

-- ---- the walks over them: what is left

module _ (s : List ℕ) where
  pub none_left : length s ≡ 0 → length (stretches_of s) ≡ 0
  none_left e = ap length (none s e)

  pub one_less : 0 < length s → length (stretches_of s) ≡ suc (length (stretches_of (drop (extent_of s) s)))
  one_less h = ap length (first_and_rest s h)
