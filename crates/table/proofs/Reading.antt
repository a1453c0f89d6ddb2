-- The entries that are read, by their index. Assumes nothing.
use mathlib.Core.Path.{◌≡◌, refl, ap}
use mathlib.Core.List.{List}
use Prim.Native.Nat.{ℕ, zero, suc, ◌+◌, ◌<◌}
use native.Mathlib.Nat.{not-suc-le-zero, le_of_suc-le-suc}
use native.Mathlib.Omega.{arith}
use lib.ListN.{length, get_or}
use Rattle.table.specs.Table.{blank, count_of, entry_at, entries_from, entries_of}

pub length_from : (s : List ℕ) (i n : ℕ) → length (entries_from s i n) ≡ n
unfolding entries_from
length_from s i zero = refl
length_from s i (suc n) = ap suc (length_from s (suc i) n)

from_at : (s : List ℕ) (i n k : ℕ) → k < n → get_or (entries_from s i n) k blank ≡ entry_at s (i + k)
unfolding entries_from
from_at s i zero k h = absurd (not-suc-le-zero h)
from_at s i (suc n) zero h = let z : i + 0 ≡ i = omega arith in rw z
from_at s i (suc n) (suc k) h = let z : i + suc k ≡ suc i + k = omega arith in rw z (from_at s (suc i) n k (le_of_suc-le-suc h))

module _ (s : List ℕ) where
  pub length_entries : length (entries_of s) ≡ count_of s
  length_entries = length_from s 0 (count_of s)

  pub entry_of : (k : ℕ) → k < count_of s → get_or (entries_of s) k blank ≡ entry_at s k
  entry_of k h = let z : 0 + k ≡ k = omega arith in rw z at (from_at s 0 (count_of s) k h)
