-- The tests of all entries, of all skips and of all patterns: what each one says of all, and all of each. Assumes nothing.
use mathlib.Core.Path.{◌≡◌, refl}
use mathlib.Core.Bool.{true}
use mathlib.Core.List.{List, [], ◌∷◌}
use Prim.Native.Nat.{ℕ, zero, suc, ◌<◌}
use native.Mathlib.Nat.{not-suc-le-zero, le_of_suc-le-suc}
use native.Mathlib.Decide.{dec_lt}
use native.Mathlib.Omega.{arith}
use lib.ListN.{length, get_or}
use Rattle.table.specs.Table.{Entry, blank}
use Rattle.table.specs.Check.{entry_right, entries_right, skip_right, skips_right, pattern_right, patterns_right}
use Rattle.table.proofs.Tests.{both_true, are_true}

-- ---- each entry by itself

pub all_right : (pool : List ℕ) (es : List Entry) → ((k : ℕ) → k < length es → entry_right pool (get_or es k blank) ≡ true) → entries_right pool es ≡ true
unfolding entries_right
all_right pool [] h = refl
all_right pool (e ∷ es) h = are_true _ _ (h 0 (omega arith)) (all_right pool es (λ k l. h (suc k) (omega arith)))

pub each_right : (pool : List ℕ) (es : List Entry) (k : ℕ) → k < length es → entries_right pool es ≡ true → entry_right pool (get_or es k blank) ≡ true
unfolding entries_right
each_right pool [] k h e = absurd (not-suc-le-zero h)
each_right pool (x ∷ es) zero h e = (both_true _ _ e).0
each_right pool (x ∷ es) (suc k) h e = each_right pool es k (le_of_suc-le-suc h) (both_true (entry_right pool x) _ e).1

-- ---- each skip

pub all_land : (es : List Entry) (n : ℕ) → ((k : ℕ) → k < n → skip_right es k ≡ true) → skips_right es n ≡ true
unfolding skips_right
all_land es zero h = refl
all_land es (suc n) h = are_true _ _ (all_land es n (λ k l. h k (omega arith))) (h n (omega arith))

pub each_lands : (es : List Entry) (n k : ℕ) → k < n → skips_right es n ≡ true → skip_right es k ≡ true
unfolding skips_right
each_lands es zero k h e = absurd (not-suc-le-zero h)
each_lands es (suc n) k h e = go (dec_lt k n) (each_lands es n k)
  where
    go : Dec (k < n) → (k < n → skips_right es n ≡ true → skip_right es k ≡ true) → skip_right es k ≡ true
    go (yes l) ih = ih l (both_true (skips_right es n) (skip_right es n) e).0
    go (no l) ih = let q : k ≡ n = omega arith in rw q (both_true (skips_right es n) (skip_right es n) e).1

-- ---- each entry's patterns

pub all_patterns : (pool : List ℕ) (es : List Entry) (n : ℕ) → ((k : ℕ) → k < n → pattern_right pool es k ≡ true) → patterns_right pool es n ≡ true
unfolding patterns_right
all_patterns pool es zero h = refl
all_patterns pool es (suc n) h = are_true _ _ (all_patterns pool es n (λ k l. h k (omega arith))) (h n (omega arith))

pub each_pattern : (pool : List ℕ) (es : List Entry) (n k : ℕ) → k < n → patterns_right pool es n ≡ true → pattern_right pool es k ≡ true
unfolding patterns_right
each_pattern pool es zero k h e = absurd (not-suc-le-zero h)
each_pattern pool es (suc n) k h e = go (dec_lt k n) (each_pattern pool es n k)
  where
    go : Dec (k < n) → (k < n → patterns_right pool es n ≡ true → pattern_right pool es k ≡ true) → pattern_right pool es k ≡ true
    go (yes l) ih = ih l (both_true (patterns_right pool es n) (pattern_right pool es n) e).0
    go (no l) ih = let q : k ≡ n = omega arith in rw q (both_true (patterns_right pool es n) (pattern_right pool es n) e).1
