-- What an entry is: the bytes of a string or a name lie in the table, and what the code answers. Assumes nothing.
use mathlib.Core.Path.{◌≡◌, refl, ◌∙◌}
use mathlib.Core.Bool.{Bool, true, false, ◌||◌}
use mathlib.Core.List.{List}
use mathlib.Core.Logic.{◌⊎◌, inl, inr}
use Prim.Native.Nat.{ℕ, ◌+◌, ◌*◌, ◌-◌, ◌≤◌, ◌<◌}
use native.Mathlib.Omega.{arith}
use lib.Dec.{eqb, ltb}
use lib.ListN.{length, take, drop}
use lib.Seq.{drop-drop}
use borrow.Author.Tests.{leb-true, eqb-true, lt-ltb, le-ltb}
use Rattle.common.proofs.Choice.{pick_yes, pick_no}
use Rattle.table.specs.Table.{Entry, most_bytes, count_of, entry_at, pool_of, layout_of}
use Rattle.table.specs.Check.{part_of, part_right, entry_right, check_of}
use Rattle.table.specs.Parts.{pooled, pool_start, parts_at, no_parts, parts_of}
use Rattle.table.proofs.Tests.{both_true}
use Rattle.table.proofs.Laid.{laid, pool_length}
use Rattle.table.proofs.Patterns.{string_lies}

-- ---- a string or a name

pub is_pooled : (op : ℕ) → (op ≡ 4) ⊎ (op ≡ 5) → pooled op ≡ true
is_pooled op (inl e) = rw e
is_pooled op (inr e) = rw e

pooled_is : (op : ℕ) → pooled op ≡ true → (op ≡ 4) ⊎ (op ≡ 5)
pooled_is op e = go (eqb op 4) refl e
  where
    go : (b : Bool) → eqb op 4 ≡ b → (b || eqb op 5) ≡ true → (op ≡ 4) ⊎ (op ≡ 5)
    go true q f = inl (eqb-true op 4 q)
    go false q f = inr (eqb-true op 5 f)

-- its bytes lie in the pool, if it is right by itself
part_lies : (pool : List ℕ) (e : Entry) → (e.op ≡ 4) ⊎ (e.op ≡ 5) → entry_right pool e ≡ true → part_right pool e ≡ true
part_lies pool e (inl o) r = string_lies pool e e refl r o
part_lies pool e (inr o) r = (both_true (part_right pool e) _ (rw o at r)).0

module _ (s : List ℕ) (k : ℕ) where
  -- and in the table
  pub bytes_lie : layout_of s ≡ true → entry_right (pool_of s) (entry_at s k) ≡ true → ((entry_at s k).op ≡ 4) ⊎ ((entry_at s k).op ≡ 5) → pool_start s k + (entry_at s k).a ≤ length s
  bytes_lie e r o =
      let l = laid s e in
      let p = leb-true ((entry_at s k).a + (entry_at s k).b) (length (pool_of s)) (part_lies (pool_of s) (entry_at s k) o r) in
      omega (arith, pool_length s l)

  pub bytes_are : take (pool_start s k + (entry_at s k).a - pool_start s k) (drop (pool_start s k) s) ≡ part_of (pool_of s) (entry_at s k)
  bytes_are =
      let n : pool_start s k + (entry_at s k).a - pool_start s k ≡ (entry_at s k).a = omega arith in
      rw (n, drop-drop (entry_at s k).b (10 + 12 * count_of s) s)

-- ---- the entry k, which the code has read as op, a and b

module _ (s : List ℕ) (k op a b : ℕ) (eo : op ≡ (entry_at s k).op) (ea : a ≡ (entry_at s k).a) (eb : b ≡ (entry_at s k).b) where
  -- a string or a name, in a table of n entries
  module _ (n : ℕ) (en : n ≡ count_of s) (e : pooled op ≡ true) where
    pub parts_small : layout_of s ≡ true → entry_right (pool_of s) (entry_at s k) ≡ true → 10 + 12 * n + b + a ≤ most_bytes
    parts_small t r =
        let l = laid s t in
        let p = bytes_lie s k t r (pooled_is (entry_at s k).op (rw eo at e)) in
        omega arith

-- ---- the answer, by its tests

module _ (s : List ℕ) (k : ℕ) where
  pub parts_unchecked : check_of s ≡ false → parts_of s k ≡ no_parts 12
  parts_unchecked c = pick_no (check_of s) _ _ c

  pub parts_past : check_of s ≡ true → count_of s ≤ k → parts_of s k ≡ no_parts 17
  parts_past c h = pick_yes (check_of s) _ _ c ∙ pick_no (ltb k (count_of s)) _ _ (le-ltb k (count_of s) h)

  pub parts_there : check_of s ≡ true → k < count_of s → parts_of s k ≡ parts_at s k
  parts_there c h = pick_yes (check_of s) _ _ c ∙ pick_yes (ltb k (count_of s)) _ _ (lt-ltb k (count_of s) h)
