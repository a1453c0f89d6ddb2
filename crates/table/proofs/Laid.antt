-- What the layout says, part by part. Assumes nothing.
use mathlib.Core.Path.{◌≡◌, refl, ◌∙◌, sym}
use mathlib.Core.Bool.{Bool, true, false, cond, ◌||◌, or-false}
use mathlib.Core.List.{List}
use Prim.Native.Nat.{ℕ, ◌+◌, ◌*◌, ◌≤◌, ◌<◌}
use native.Mathlib.Omega.{arith}
use lib.Dec.{eqb}
use lib.ListN.{length, length-drop}
use borrow.Author.Tests.{leb-true, le-leb, eqb-true, eq-eqb}
use Rattle.word.specs.Word.{word_at}
use Rattle.opcode.specs.declared.Edition.{Edition}
use Rattle.table.specs.Table.{table_kind, kind_at, edition_of, count_of, pool_length_of, pool_of, layout_of}
use Rattle.table.proofs.Tests.{both_true, are_true}

-- a right kind is that of the edition that it tells
kind_told : (k : ℕ) → (eqb k (table_kind Edition.First) || eqb k (table_kind Edition.Second)) ≡ true → k ≡ table_kind (cond (eqb k (table_kind Edition.Second)) Edition.Second Edition.First)
kind_told k e = go (eqb k 4) refl e
  where
    go : (t : Bool) → eqb k 4 ≡ t → (eqb k 2 || t) ≡ true → k ≡ table_kind (cond t Edition.Second Edition.First)
    go true q h = eqb-true k 4 q
    go false q h = eqb-true k 2 (sym (or-false (eqb k 2)) ∙ h)

kind_right : (k : ℕ) (e : Edition) → k ≡ table_kind e → (eqb k (table_kind Edition.First) || eqb k (table_kind Edition.Second)) ≡ true
kind_right k Edition.First q = rw q
kind_right k Edition.Second q = rw q

pub record Laid (s : List ℕ) : Type 0 where
  pub head : 10 ≤ length s
  pub word : 4 + word_at 4 s 0 ≡ length s
  pub kind : kind_at s ≡ table_kind (edition_of s)
  pub some_entry : 1 ≤ count_of s
  pub few : count_of s ≤ 512
  pub small : pool_length_of s ≤ 4096
  pub whole : 10 + 12 * count_of s + pool_length_of s ≡ length s

module _ (s : List ℕ) where
  pub laid : layout_of s ≡ true → Laid s
  unfolding layout_of
  laid e =
      let a = both_true _ _ e in
      let b = both_true _ _ a.1 in
      let c = both_true _ _ b.1 in
      let d = both_true _ _ c.1 in
      let n = both_true _ _ d.0 in
      let p = both_true _ _ d.1 in
      record {
        head = leb-true _ _ a.0;
        word = eqb-true _ _ b.0;
        kind = kind_told (kind_at s) c.0;
        some_entry = leb-true _ _ n.0;
        few = leb-true _ _ n.1;
        small = leb-true _ _ p.0;
        whole = eqb-true _ _ p.1;
      }

  pub keeps : Laid s → layout_of s ≡ true
  unfolding layout_of
  keeps l =
      are_true _ _ (le-leb _ _ l.head)
      (are_true _ _ (eq-eqb _ _ l.word)
      (are_true _ _ (kind_right (kind_at s) (edition_of s) l.kind)
      (are_true _ _ (are_true _ _ (le-leb _ _ l.some_entry) (le-leb _ _ l.few))
      (are_true _ _ (le-leb _ _ l.small) (eq-eqb _ _ l.whole)))))

  -- each entry lies in the table
  pub inside : layout_of s ≡ true → (i : ℕ) → i < count_of s → 22 + 12 * i ≤ length s
  inside e i h = let l = laid e in omega arith

  -- the pool has the length that the header says
  pub pool_length : Laid s → length (pool_of s) ≡ pool_length_of s
  pool_length l = let w = l.whole in rw (length-drop (10 + 12 * count_of s) s) (omega arith)

  pub pool_small : layout_of s ≡ true → length (pool_of s) ≤ 4096
  pool_small e = let l = laid e in rw (pool_length l) l.small
