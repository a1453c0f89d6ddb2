-- What a buffer that holds a decision has, and the turns of the loops over its values. Assumes nothing.
use mathlib.Core.Path.{◌≡◌, refl, sym, ap, ◌∙◌}
use mathlib.Core.Bool.{Bool, true, false, ◌&&◌}
use mathlib.Core.List.{List, ◌∷◌}
use Prim.Native.Nat.{ℕ, zero, suc, ◌+◌, ◌-◌, ◌≤◌, ◌<◌}
use native.Mathlib.Omega.{arith}
use lib.Dec.{leb}
use lib.ListN.{length}
use borrow.Author.Tests.{le-leb, lt-leb, leb-true, eq-eqb, eqb-true}
use Rattle.word.specs.Word.{word_at}
use Rattle.octets.specs.Octets.{same_of}
use Rattle.octets.proofs.Theorems.{and_parts}
use Rattle.table.specs.Check.{check_of as tableCheck}
use Rattle.quorum.specs.Decision.{has, different, size_of, needed_of, count_of, value_size, value_at, values_from, values_of, table_of, head_right, sizes_right, Sized, holds_of}

pub record Head (s : List ℕ) : Type 0 where
  pub long : 528 ≤ length s
  pub least : 528 ≤ size_of s
  pub fits : size_of s ≤ length s
  pub kind : word_at 2 s 4 ≡ 5
  pub some_needed : 1 ≤ needed_of s
  pub few_needed : needed_of s ≤ 8
  pub few : count_of s ≤ 8

pub record Holding (s : List ℕ) : Type 0 where
  pub head : Head s
  pub sizes : sizes_right s 0 (count_of s) ≡ true
  pub apart : different (values_of s) ≡ true
  pub table : tableCheck (table_of s) ≡ true

module _ (s : List ℕ) where
  pub head_is : head_right s ≡ true → Head s
  unfolding head_right
  head_is e =
      let a = and_parts _ _ e in
      let b = and_parts _ _ a.1 in
      let c = and_parts _ _ b.1 in
      let d = and_parts _ _ c.1 in
      let f = and_parts _ _ d.1 in
      let g = and_parts _ _ f.0 in
      record {
        long = leb-true _ _ a.0;
        least = leb-true _ _ b.0;
        fits = leb-true _ _ c.0;
        kind = eqb-true _ _ d.0;
        some_needed = leb-true _ _ g.0;
        few_needed = leb-true _ _ g.1;
        few = leb-true _ _ f.1;
      }

  pub head_right_lem : Head s → head_right s ≡ true
  unfolding head_right
  head_right_lem h =
      rw (le-leb _ _ h.long, le-leb _ _ h.least, le-leb _ _ h.fits, eq-eqb _ _ h.kind, le-leb _ _ h.some_needed, le-leb _ _ h.few_needed, le-leb _ _ h.few)

  pub holding : holds_of s ≡ true → Holding s
  unfolding holds_of
  holding e =
      let a = and_parts _ _ e in
      let b = and_parts _ _ a.1 in
      let c = and_parts _ _ b.1 in
      record { head = head_is a.0; sizes = b.0; apart = c.0; table = c.1 }

  pub holds : Holding s → holds_of s ≡ true
  unfolding holds_of
  holds h = rw (head_right_lem h.head, h.sizes, h.apart, h.table)

  -- the tests of `holds`, in its order
  pub no_head : head_right s ≡ false → false ≡ holds_of s
  unfolding holds_of
  no_head e = rw e

  pub no_sizes : head_right s ≡ true → sizes_right s 0 (count_of s) ≡ false → false ≡ holds_of s
  unfolding holds_of
  no_sizes e f = rw (e, f)

  pub not_apart : head_right s ≡ true → sizes_right s 0 (count_of s) ≡ true → different (values_of s) ≡ false → false ≡ holds_of s
  unfolding holds_of
  not_apart e f g = rw (e, f, g)

  pub by_table : head_right s ≡ true → sizes_right s 0 (count_of s) ≡ true → different (values_of s) ≡ true → tableCheck (table_of s) ≡ holds_of s
  unfolding holds_of
  by_table e f g = rw (e, f, g)

  pub holding_sized : Holding s → Sized s (count_of s)
  holding_sized h = record { long = h.head.long; few = h.head.few; right = h.sizes }

  -- ---- the values, one after the other

  pub length_values : (i n : ℕ) → length (values_from s i n) ≡ n
  unfolding values_from
  length_values i zero = refl
  length_values i (suc n) = ap suc (length_values (suc i) n)

  sizes_at : (i n k : ℕ) → sizes_right s i n ≡ true → k < n → (1 ≤ value_size s (i + k)) × (value_size s (i + k) ≤ 64)
  unfolding sizes_right
  sizes_at i zero k e h = absurd (omega arith)
  sizes_at i (suc n) zero e h =
      let z : i + 0 ≡ i = omega arith in
      let a = and_parts (leb 1 (value_size s i) && leb (value_size s i) 64) (sizes_right s (suc i) n) e in
      let b = and_parts (leb 1 (value_size s i)) (leb (value_size s i) 64) a.0 in
      rw z (leb-true _ _ b.0, leb-true _ _ b.1)
  sizes_at i (suc n) (suc k) e h =
      let z : i + suc k ≡ suc i + k = omega arith in
      rw z (sizes_at (suc i) n k (and_parts (leb 1 (value_size s i) && leb (value_size s i) 64) (sizes_right s (suc i) n) e).1 (omega arith))

  pub size_at_lem : {n : ℕ} → Sized s n → (i : ℕ) → i < n → (1 ≤ value_size s i) × (value_size s i ≤ 64)
  size_at_lem {n} z i h = let e : 0 + i ≡ i = omega arith in rw e at (sizes_at 0 n i z.right h)

  module _ (n i : ℕ) (h : i < n) where
    next : n - i ≡ suc (n - (i + 1))
    next = omega arith

    one : i + 1 ≡ suc i
    one = omega arith

    pub values_cons : values_from s i (n - i) ≡ value_at s i ∷ values_from s (i + 1) (n - (i + 1))
    unfolding values_from
    values_cons = rw (next, one)

    pub size_none : value_size s i ≡ 0 → false ≡ sizes_right s i (n - i)
    unfolding sizes_right
    size_none e = let l : leb 1 (value_size s i) ≡ false = lt-leb 1 (value_size s i) (omega arith) in rw (next, l)

    pub size_long : (value_size s i ≡ 0 → ⊥) → 64 < value_size s i → false ≡ sizes_right s i (n - i)
    unfolding sizes_right
    size_long k e =
        let m : leb 1 (value_size s i) ≡ true = le-leb 1 (value_size s i) (omega arith) in
        let l : leb (value_size s i) 64 ≡ false = lt-leb (value_size s i) 64 (omega arith) in
        rw (next, m, l)

    pub size_more_lem : (value_size s i ≡ 0 → ⊥) → value_size s i ≤ 64 → sizes_right s (i + 1) (n - (i + 1)) ≡ sizes_right s i (n - i)
    unfolding sizes_right
    size_more_lem k e =
        let m : leb 1 (value_size s i) ≡ true = le-leb 1 (value_size s i) (omega arith) in
        let l : leb (value_size s i) 64 ≡ true = le-leb (value_size s i) 64 (omega arith) in
        rw (next, one, m, l)

    -- a turn of `has`
    module _ (v : List ℕ) (a : Bool) (e : a ≡ same_of (value_at s i) v) where
      pub has-found : a ≡ true → true ≡ has v (values_from s i (n - i))
      unfolding has
      has-found t = let p : same_of (value_at s i) v ≡ true = sym e ∙ t in rw (values_cons, p)

      pub has-passed : a ≡ false → has v (values_from s (i + 1) (n - (i + 1))) ≡ has v (values_from s i (n - i))
      unfolding has
      has-passed t = let p : same_of (value_at s i) v ≡ false = sym e ∙ t in rw (values_cons, p)

    -- a turn of `differ`
    module _ (a : Bool) (e : a ≡ has (value_at s i) (values_from s (i + 1) (n - (i + 1)))) where
      pub twice : a ≡ true → false ≡ different (values_from s i (n - i))
      unfolding different
      twice t = let p : has (value_at s i) (values_from s (i + 1) (n - (i + 1))) ≡ true = sym e ∙ t in rw (values_cons, p)

      pub once : a ≡ false → different (values_from s (i + 1) (n - (i + 1))) ≡ different (values_from s i (n - i))
      unfolding different
      once t = let p : has (value_at s i) (values_from s (i + 1) (n - (i + 1))) ≡ false = sym e ∙ t in rw (values_cons, p)

  -- the ends of the loops
  module _ (n i : ℕ) (h : n ≤ i) where
    none_left : n - i ≡ 0
    none_left = omega arith

    pub sizes_end : true ≡ sizes_right s i (n - i)
    unfolding sizes_right
    sizes_end = rw none_left

    pub has_end : (v : List ℕ) → false ≡ has v (values_from s i (n - i))
    unfolding has values_from
    has_end v = rw none_left

  -- one value is different from all others
  pub differ_end : (n i : ℕ) → n ≤ i + 1 → true ≡ different (values_from s i (n - i))
  unfolding has different values_from
  differ_end n i h = go (n - i) (omega arith)
    where
      go : (k : ℕ) → k ≤ 1 → true ≡ different (values_from s i k)
      go zero l = refl
      go (suc zero) l = refl
      go (suc (suc k)) l = absurd (omega arith)
