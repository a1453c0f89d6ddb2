-- The codes of a tree: how many there are, and runs of stores that make them. Assumes nothing.
use Prim.Native.Nat.{ℕ, suc, ◌+◌, ◌-◌, ◌<◌, ◌≤◌}
use native.Mathlib.Omega.{arith}
use native.Mathlib.Decide.{ℕ_discrete}
use mathlib.Core.Path.{◌≡◌, refl, sym, ap, ◌∙◌}
use mathlib.Core.Bool.{Bool, true, false, cond}
use mathlib.Core.List.{List, [], ◌∷◌, ◌++◌}
use lib.ListN.{length, set, length-append}
use lib.Seq.{sets, set_comm}
use borrow.Author.Tests.{ne_eqb}
use Rattle.common.proofs.Stores.{sets_append}
use Rattle.grammar.specs.Tree.{Tree, leaf, group, unary, binary, call, Trees, none, ◌then◌}
use Rattle.grammar.specs.Size.{skips, entries_of, entries_in}
use Rattle.grammar.specs.Code.{code, skip_codes, codes_of, codes_in}

-- ---- the skip

pub skip_length : (k n : ℕ) → length (skip_codes k n) ≡ cond (skips k) 1 0
skip_length k n = go (ℕ_discrete k 41) (ℕ_discrete k 43)
  where
    go : Dec (k ≡ 41) → Dec (k ≡ 43) → length (skip_codes k n) ≡ cond (skips k) 1 0
    go (yes e) b = rw e
    go (no a) (yes e) = rw e
    go (no a) (no b) = rw (ne_eqb k 41 a, ne_eqb k 43 b)

pub skip_entries_lem : (k : ℕ) → cond (skips k) 2 1 ≡ cond (skips k) 1 0 + 1
skip_entries_lem k = go (skips k)
  where
    go : (b : Bool) → cond b 2 1 ≡ cond b 1 0 + 1
    go true = refl
    go false = refl

-- the right side's entries, from where the left side and the right side end
pub skip_counted : (k e m : ℕ) → skip_codes k (e + cond (skips k) 1 0 + m - (e + 1)) ≡ skip_codes k m
skip_counted k e m = go (ℕ_discrete k 41) (ℕ_discrete k 43)
  where
    one : e + 1 + m - (e + 1) ≡ m
    one = omega arith

    go : Dec (k ≡ 41) → Dec (k ≡ 43) → skip_codes k (e + cond (skips k) 1 0 + m - (e + 1)) ≡ skip_codes k m
    go (yes q) b = rw (q, one)
    go (no a) (yes q) = rw (q, one)
    go (no a) (no b) = rw (ne_eqb k 41 a, ne_eqb k 43 b)

-- ---- one code an entry

mutual
  unfolding codes_of entries_of

  pub length_codes : (t : Tree) → length (codes_of t) ≡ entries_of t
  length_codes (leaf x) = refl
  length_codes (group t) = length_codes t
  length_codes (unary k t) = length-append (codes_of t) (code k 0 ∷ []) ∙ rw (length_codes t)
  length_codes (binary k t u) =
      omega (arith, length-append (codes_of t) (skip_codes k (entries_of u) ++ (codes_of u ++ (code k 0 ∷ []))), length-append (skip_codes k (entries_of u)) (codes_of u ++ (code k 0 ∷ [])), length-append (codes_of u) (code k 0 ∷ []), skip_length k (entries_of u), skip_entries_lem k, length_codes t, length_codes u)
  length_codes (call x ts) = length-append (codes_in ts) _ ∙ rw (length_codes_in ts)

  pub length_codes_in : (ts : Trees) → length (codes_in ts) ≡ entries_in ts
  length_codes_in none = refl
  length_codes_in (◌then◌ ts t) = length-append (codes_in ts) (codes_of t) ∙ rw (length_codes_in ts, length_codes t)

-- ---- runs of stores

pub set_sets : (ys l : List ℕ) (i j a : ℕ) → i < j → set (sets l j ys) i a ≡ sets (set l i a) j ys
set_sets [] l i j a h = refl
set_sets (y ∷ ys) l i j a h = set_sets ys (set l j y) i (suc j) a (omega arith) ∙ ap (λ (m : List ℕ). sets m (suc j) ys) (set_comm l j i y a (λ e. omega arith))

pub sets_swap : (xs ys l : List ℕ) (i j : ℕ) → i + length xs ≤ j → sets (sets l j ys) i xs ≡ sets (sets l i xs) j ys
sets_swap [] ys l i j h = refl
sets_swap (x ∷ xs) ys l i j h = ap (λ (m : List ℕ). sets m (suc i) xs) (set_sets ys l i j x (omega arith)) ∙ sets_swap xs ys (set l i x) (suc i) j (omega arith)

-- one run after another
pub sets_after : (was : List ℕ) (i n : ℕ) (xs ys : List ℕ) → n ≡ i + length xs → sets (sets was i xs) n ys ≡ sets was i (xs ++ ys)
sets_after was i n xs ys e = ap (λ (m : ℕ). sets (sets was i xs) m ys) e ∙ sym (sets_append xs ys was i)

-- the left side; then the right side, with room for the skip before it; then the skip and the operator
pub sets_between : (was : List ℕ) (i e m last : ℕ) (xs ss us vs : List ℕ) → e ≡ i + length xs → m ≡ e + length ss → last ≡ m + length us
    → sets (sets (sets (sets was i xs) m us) e ss) last vs ≡ sets was i (xs ++ (ss ++ (us ++ vs)))
sets_between was i e m last xs ss us vs pe pm pl =
    ap (λ (l : List ℕ). sets l last vs) (sets_swap ss us (sets was i xs) e m (omega arith))
    ∙ sets_after (sets (sets was i xs) e ss) m last us vs pl
    ∙ sets_after (sets was i xs) e m ss (us ++ vs) pm
    ∙ sets_after was i e xs (ss ++ (us ++ vs)) pe
