-- The theorems that specs/Theorems.antt states. Assumes nothing.
use mathlib.Core.Path.{◌≡◌, refl, sym, ap, ◌∙◌}
use mathlib.Core.Logic.{◌⊎◌, inl, inr, ⊎_elim}
use mathlib.Core.Bool.{Bool, true, false, ◌&&◌, ◌||◌, or-true}
use mathlib.Core.List.{List, [], ◌∷◌, ◌++◌}
use Prim.Native.Nat.{ℕ, ◌+◌, ◌≤◌, ◌<◌}
use native.Mathlib.Decide.{dec_lt, dec_le}
use native.Mathlib.Omega.{arith}
use lib.Dec.{eqb, ltb}
use borrow.Author.Tests.{eq-eqb, lt-ltb, le-ltb, le-leb, lt-leb, eqb-true, ltb-true}
use Rattle.common.proofs.Choice.{true_false, false_true}
use Rattle.octets.specs.Octets.{lower, same_of, before_of, begins_of, contains_of, ends_of}
use Rattle.octets.specs.Theorems.{Same, Begins, Contains, Ends, EmptyFits, Before, BeforeIrreflexive, BeforeTransitive, BeforeTotal, FoldedTwice, NotFolded}

-- tests that hold together, and one of two
pub and_parts : (a b : Bool) → (a && b) ≡ true → (a ≡ true) × (b ≡ true)
and_parts true b e = (refl, e)
and_parts false b e = false_true e

pub or_parts : (a b : Bool) → (a || b) ≡ true → (a ≡ true) ⊎ (b ≡ true)
or_parts true b e = inl refl
or_parts false b e = inr e

-- same
pub same_refl : (s : List ℕ) → same_of s s ≡ true
same_refl [] = refl
same_refl (x ∷ xs) = rw (eq-eqb x x refl) (same_refl xs)

same_eq : (s t : List ℕ) → same_of s t ≡ true → s ≡ t
same_eq [] [] e = refl
same_eq [] (y ∷ ys) e = true_false (sym e)
same_eq (x ∷ xs) [] e = true_false (sym e)
same_eq (x ∷ xs) (y ∷ ys) e =
    let p = and_parts (eqb x y) (same_of xs ys) e in
    cc (eqb-true x y p.0, same_eq xs ys p.1)

pub same : Same
same s t = (same_eq s t, λ e. rw (← e) (same_refl s))

-- begins
begins_rest : (s p : List ℕ) → begins_of s p ≡ true → (b : List ℕ) × (s ≡ p ++ b)
begins_rest s [] e = (s, refl)
begins_rest [] (y ∷ ys) e = true_false (sym e)
begins_rest (x ∷ xs) (y ∷ ys) e =
    let p = and_parts (eqb x y) (begins_of xs ys) e in
    let r = begins_rest xs ys p.1 in
    (r.0, cc (eqb-true x y p.0, r.1))

begins_append : (p b : List ℕ) → begins_of (p ++ b) p ≡ true
begins_append [] [] = refl
begins_append [] (x ∷ xs) = refl
begins_append (y ∷ ys) b = rw (eq-eqb y y refl) (begins_append ys b)

pub begins : Begins
begins s p = (begins_rest s p, λ r. rw r.1 (begins_append p r.0))

-- contains
contains_begins : (s p : List ℕ) → begins_of s p ≡ true → contains_of s p ≡ true
contains_begins [] p e = e
contains_begins (x ∷ xs) p e = rw e

contains_rest : (s p : List ℕ) → contains_of s p ≡ true → (a : List ℕ) × (b : List ℕ) × (s ≡ a ++ (p ++ b))
contains_rest [] p e = let r = begins_rest [] p e in ([], r.0, r.1)
contains_rest (x ∷ xs) p e =
    go (contains_rest xs p) (or_parts (begins_of (x ∷ xs) p) (contains_of xs p) e)
  where
    go : (contains_of xs p ≡ true → (a : List ℕ) × (b : List ℕ) × (xs ≡ a ++ (p ++ b)))
        → (begins_of (x ∷ xs) p ≡ true) ⊎ (contains_of xs p ≡ true)
        → (a : List ℕ) × (b : List ℕ) × (◌≡◌ {A = List ℕ} (x ∷ xs) (a ++ (p ++ b)))
    go ih (inl h) = let r = begins_rest (x ∷ xs) p h in ([], r.0, r.1)
    go ih (inr h) = let r = ih h in (x ∷ r.0, r.1, ap (λ (l : List ℕ). x ∷ l) r.2)

contains_append : (a p b : List ℕ) → contains_of (a ++ (p ++ b)) p ≡ true
contains_append [] p b = contains_begins (p ++ b) p (begins_append p b)
contains_append (x ∷ a) p b = rw (contains_append a p b) (or-true (begins_of (x ∷ (a ++ (p ++ b))) p))

pub contains : Contains
contains s p = (contains_rest s p, λ r. rw r.2 (contains_append r.0 p r.1))

-- ends
ends_same : (s p : List ℕ) → same_of s p ≡ true → ends_of s p ≡ true
ends_same [] p e = e
ends_same (x ∷ xs) p e = rw e

ends_start : (s p : List ℕ) → ends_of s p ≡ true → (a : List ℕ) × (s ≡ a ++ p)
ends_start [] p e = ([], same_eq [] p e)
ends_start (x ∷ xs) p e = go (ends_start xs p) (or_parts (same_of (x ∷ xs) p) (ends_of xs p) e)
  where
    go : (ends_of xs p ≡ true → (a : List ℕ) × (xs ≡ a ++ p))
        → (same_of (x ∷ xs) p ≡ true) ⊎ (ends_of xs p ≡ true)
        → (a : List ℕ) × (◌≡◌ {A = List ℕ} (x ∷ xs) (a ++ p))
    go ih (inl h) = ([], same_eq (x ∷ xs) p h)
    go ih (inr h) = let r = ih h in (x ∷ r.0, ap (λ (l : List ℕ). x ∷ l) r.1)

ends_append : (a p : List ℕ) → ends_of (a ++ p) p ≡ true
ends_append [] p = ends_same p p (same_refl p)
ends_append (x ∷ a) p = rw (ends_append a p) (or-true (same_of (x ∷ (a ++ p)) p))

pub ends : Ends
ends s p = (ends_start s p, λ r. rw r.1 (ends_append r.0 p))

append-nil : (s : List ℕ) → s ≡ s ++ []
append-nil [] = refl
append-nil (x ∷ xs) = ap (λ (l : List ℕ). x ∷ l) (append-nil xs)

pub empty_fits : EmptyFits
empty_fits s = (begins_append [] s, contains_append [] [] s, (ends s []).1 (s, append-nil s))

-- order
abbrev before_case : ℕ → ℕ → List ℕ → List ℕ → Type 0
before_case x y xs ys = (x < y) ⊎ ((x ≡ y) × (before_of xs ys ≡ true))

before_parts : (x y : ℕ) (xs ys : List ℕ) → before_of (x ∷ xs) (y ∷ ys) ≡ true → before_case x y xs ys
before_parts x y xs ys e =
    ⊎_elim (λ h. inl (ltb-true x y h))
    (λ h. let p = and_parts (eqb x y) (before_of xs ys) h in inr (eqb-true x y p.0, p.1))
    (or_parts (ltb x y) (eqb x y && before_of xs ys) e)

before_less : (x y : ℕ) (xs ys : List ℕ) → x < y → before_of (x ∷ xs) (y ∷ ys) ≡ true
before_less x y xs ys h = rw (lt-ltb x y h)

before_equal : (x y : ℕ) (xs ys : List ℕ) → x ≡ y → before_of xs ys ≡ true → before_of (x ∷ xs) (y ∷ ys) ≡ true
before_equal x y xs ys e h = rw (eq-eqb x y e, h) (or-true (ltb x y))

pub before_irreflexive : BeforeIrreflexive
before_irreflexive [] = refl
before_irreflexive (x ∷ xs) =
    let l : ltb x x ≡ false = le-ltb x x (omega arith) in
    rw (l, eq-eqb x x refl) (before_irreflexive xs)

pub before_transitive : BeforeTransitive
before_transitive [] [] u e f = true_false (sym e)
before_transitive [] (y ∷ ys) [] e f = true_false (sym f)
before_transitive [] (y ∷ ys) (z ∷ zs) e f = refl
before_transitive (x ∷ xs) [] u e f = true_false (sym e)
before_transitive (x ∷ xs) (y ∷ ys) [] e f = true_false (sym f)
before_transitive (x ∷ xs) (y ∷ ys) (z ∷ zs) e f =
    go (before_transitive xs ys zs) (before_parts x y xs ys e) (before_parts y z ys zs f)
  where
    go : (before_of xs ys ≡ true → before_of ys zs ≡ true → before_of xs zs ≡ true)
        → before_case x y xs ys → before_case y z ys zs → before_of (x ∷ xs) (z ∷ zs) ≡ true
    go ih (inl h) (inl k) = before_less x z xs zs (omega arith)
    go ih (inl h) (inr k) = before_less x z xs zs (omega (arith, k.0))
    go ih (inr h) (inl k) = before_less x z xs zs (omega (arith, h.0))
    go ih (inr h) (inr k) = before_equal x z xs zs (h.0 ∙ k.0) (ih h.1 k.1)

pub before_total : BeforeTotal
before_total [] [] = inr (inl refl)
before_total [] (y ∷ ys) = inl refl
before_total (x ∷ xs) [] = inr (inr refl)
before_total (x ∷ xs) (y ∷ ys) = go (before_total xs ys) (dec_lt x y) (dec_lt y x)
  where
    go : (before_of xs ys ≡ true) ⊎ ((xs ≡ ys) ⊎ (before_of ys xs ≡ true)) → Dec (x < y) → Dec (y < x)
        → (before_of (x ∷ xs) (y ∷ ys) ≡ true) ⊎ ((◌≡◌ {A = List ℕ} (x ∷ xs) (y ∷ ys)) ⊎ (before_of (y ∷ ys) (x ∷ xs) ≡ true))
    go r (yes h) d = inl (before_less x y xs ys h)
    go r (no h) (yes k) = inr (inr (before_less y x ys xs k))
    go (inl r) (no h) (no k) = inl (before_equal x y xs ys (omega arith) r)
    go (inr (inl r)) (no h) (no k) = let e : x ≡ y = omega arith in inr (inl (cc))
    go (inr (inr r)) (no h) (no k) = inr (inr (before_equal y x ys xs (omega arith) r))

-- the plain statement of the order
abbrev Shorter : List ℕ → List ℕ → Type 0
Shorter s t = (b : ℕ) × (r : List ℕ) × (t ≡ s ++ (b ∷ r))

abbrev Differ : List ℕ → List ℕ → Type 0
Differ s t = (p : List ℕ) × (a b : ℕ) × (q r : List ℕ) × (s ≡ p ++ (a ∷ q)) × (t ≡ p ++ (b ∷ r)) × (a < b)

before_plain : (s t : List ℕ) → before_of s t ≡ true → Shorter s t ⊎ Differ s t
before_plain [] [] e = true_false (sym e)
before_plain [] (y ∷ ys) e = inl (y, ys, refl)
before_plain (x ∷ xs) [] e = true_false (sym e)
before_plain (x ∷ xs) (y ∷ ys) e = go (before_plain xs ys) (before_parts x y xs ys e)
  where
    more : x ≡ y → Shorter xs ys ⊎ Differ xs ys → Shorter (x ∷ xs) (y ∷ ys) ⊎ Differ (x ∷ xs) (y ∷ ys)
    more q (inl h) = inl (h.0, h.1, cc (q, h.2))
    more q (inr h) =
        inr (x ∷ h.0, h.1, h.2, h.3, h.4, ap (λ (l : List ℕ). x ∷ l) h.5, cc (q, h.6), h.7)

    go : (before_of xs ys ≡ true → Shorter xs ys ⊎ Differ xs ys) → before_case x y xs ys → Shorter (x ∷ xs) (y ∷ ys) ⊎ Differ (x ∷ xs) (y ∷ ys)
    go ih (inl h) = inr ([], x, y, xs, ys, refl, refl, h)
    go ih (inr h) = more h.0 (ih h.1)

before_longer : (s r : List ℕ) (b : ℕ) → before_of s (s ++ (b ∷ r)) ≡ true
before_longer [] r b = refl
before_longer (x ∷ xs) r b = before_equal x x xs (xs ++ (b ∷ r)) refl (before_longer xs r b)

before_differ : (p q r : List ℕ) (a b : ℕ) → a < b → before_of (p ++ (a ∷ q)) (p ++ (b ∷ r)) ≡ true
before_differ [] q r a b h = before_less a b q r h
before_differ (x ∷ p) q r a b h = before_equal x x (p ++ (a ∷ q)) (p ++ (b ∷ r)) refl (before_differ p q r a b h)

pub before : Before
before s t = (before_plain s t, back)
  where
    back : Shorter s t ⊎ Differ s t → before_of s t ≡ true
    back (inl h) = rw h.2 (before_longer s h.1 h.0)
    back (inr h) = rw (h.5, h.6) (before_differ h.0 h.3 h.4 h.1 h.2 h.7)

-- folding
lower_high : (b : ℕ) → 91 ≤ b → lower b ≡ b
lower_high b h = rw (lt-leb b 90 (omega arith), le-leb 65 b (omega arith))

lower_twice : (b : ℕ) → lower (lower b) ≡ lower b
lower_twice b = go (dec_le 65 b) (dec_le b 90)
  where
    go : Dec (65 ≤ b) → Dec (b ≤ 90) → lower (lower b) ≡ lower b
    go (no h) d = let e : lower b ≡ b = rw (lt-leb 65 b (omega arith)) in rw e e
    go (yes h) (no k) = let e : lower b ≡ b = lower_high b (omega arith) in rw e e
    go (yes h) (yes k) =
        let e : lower b ≡ b + 32 = rw (le-leb 65 b h, le-leb b 90 k) in
        rw e (lower_high (b + 32) (omega arith))

pub folded_twice : FoldedTwice
folded_twice true [] = refl
folded_twice true (x ∷ xs) = cc (lower_twice x, folded_twice true xs)
folded_twice false [] = refl
folded_twice false (x ∷ xs) = ap (λ (l : List ℕ). x ∷ l) (folded_twice false xs)

pub not_folded : NotFolded
not_folded [] = refl
not_folded (x ∷ xs) = ap (λ (l : List ℕ). x ∷ l) (not_folded xs)
