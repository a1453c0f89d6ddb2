-- What the record reader finds by its tests, and a verdict's name in a line. Assumes nothing.
use mathlib.Core.Path.{◌≡◌, ap₂, ◌∙◌}
use mathlib.Core.List.{List}
use Prim.Native.Nat.{ℕ, ◌+◌, ◌≤◌, ◌<◌}
use native.Mathlib.Omega.{arith}
use borrow.Author.Tests.{lt-ltb, le-ltb, le-leb, lt-leb, eq-eqb, ne_eqb}
use lib.ListN.{length}
use Rattle.record.specs.declared.Record.TheVariants.{End, Whole, Cut, Wrong}
use Rattle.record.specs.Record.{length_of, kind_of, record_of}
use Rattle.decimal.specs.Decimal.{Put}
use Rattle.decimal.proofs.Laws.{renamed}

-- ---- the record reader, by its tests

pub found_end : (s : List ℕ) → length s ≡ 0 → End ≡ record_of s
found_end s h = simp (eq-eqb (length s) 0 h)

pub found_short : (s : List ℕ) → (length s ≡ 0 → ⊥) → length s < 4 → Cut ≡ record_of s
found_short s h l = simp (ne_eqb (length s) 0 h, lt-ltb (length s) 4 l)

-- a length word is there
module _ (s : List ℕ) (h : 4 ≤ length s) (n : ℕ) (e : n ≡ length_of s) where
  pub found_low : n < 2 → Wrong ≡ record_of s
  found_low l =
      let m : length_of s < 2 = omega arith in
      simp (ne_eqb (length s) 0 (λ z. omega arith), le-ltb (length s) 4 h, lt-leb 2 (length_of s) m)

  pub found_high : 16380 < n → Wrong ≡ record_of s
  found_high l =
      let m : 16380 < length_of s = omega arith in
      let k : 2 ≤ length_of s = omega arith in
      simp (ne_eqb (length s) 0 (λ z. omega arith), le-ltb (length s) 4 h, le-leb 2 (length_of s) k, lt-leb (length_of s) 16380 m)

  pub found_cut : 2 ≤ n → n ≤ 16380 → length s < 4 + n → Cut ≡ record_of s
  found_cut l m g =
      let l' : 2 ≤ length_of s = omega arith in
      let m' : length_of s ≤ 16380 = omega arith in
      let g' : length s < 4 + length_of s = omega arith in
      simp (ne_eqb (length s) 0 (λ z. omega arith), le-ltb (length s) 4 h, le-leb 2 (length_of s) l', le-leb (length_of s) 16380 m', lt-leb (4 + length_of s) (length s) g')

  pub found_whole : (k : ℕ) → k ≡ kind_of s → 2 ≤ n → n ≤ 16380 → 4 + n ≤ length s → Whole k (4 + n) ≡ record_of s
  found_whole k ek l m g =
      let l' : 2 ≤ length_of s = omega arith in
      let m' : length_of s ≤ 16380 = omega arith in
      let g' : 4 + length_of s ≤ length s = omega arith in
      ap₂ (λ (x y : ℕ). Whole x (4 + y)) ek e
      ∙ simp (ne_eqb (length s) 0 (λ z. omega arith), le-ltb (length s) 4 h, le-leb 2 (length_of s) l', le-leb (length_of s) 16380 m', le-leb (4 + length_of s) (length s) g')

-- ---- lines

-- a verdict's name, by its bytes
pub spelled : {d d1 : List ℕ} {at r : ℕ} (xs ys : List ℕ) → xs ≡ ys → length xs ≤ 7 → Put d at xs d1 r → Put d at ys d1 r × (r ≤ at + 7)
spelled {d} {d1} {at} {r} xs ys e h p = let l : r ≤ at + 7 = omega (arith, p.next) in (renamed e p, l)
