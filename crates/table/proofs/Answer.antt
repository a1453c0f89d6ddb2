-- The answers of the check: where it cannot pass it fails, and it passes where all of its parts are right. Assumes nothing.
use mathlib.Core.Path.{◌≡◌, refl}
use mathlib.Core.Bool.{Bool, true, false}
use mathlib.Core.List.{List}
use Prim.Native.Nat.{ℕ}
use lib.ListN.{length}
use Rattle.table.specs.Table.{entries_of, pool_of, layout_of}
use Rattle.table.specs.Check.{entries_right, end_right, skips_right, patterns_right, check_of}
use Rattle.table.proofs.Tests.{are_true}

module _ (s : List ℕ) where
  pub bad_layout : layout_of s ≡ false → false ≡ check_of s
  unfolding check_of
  bad_layout e = rw e

  pub refuted : (check_of s ≡ true → ⊥) → false ≡ check_of s
  refuted f = go (check_of s) f
    where
      go : (b : Bool) → (b ≡ true → ⊥) → false ≡ b
      go true g = absurd (g refl)
      go false g = refl

  pub all_parts : layout_of s ≡ true → entries_right (pool_of s) (entries_of s) ≡ true → end_right (entries_of s) ≡ true → skips_right (entries_of s) (length (entries_of s)) ≡ true
      → patterns_right (pool_of s) (entries_of s) (length (entries_of s)) ≡ true → check_of s ≡ true
  unfolding check_of
  all_parts l r e k p = are_true _ _ l (are_true _ _ r (are_true _ _ e (are_true _ _ k p)))
