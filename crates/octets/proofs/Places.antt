-- Turns and ends of the search place by place, each byte through a function of its own. Assumes nothing.
use mathlib.Core.Path.{◌≡◌, refl, sym}
use mathlib.Core.Bool.{Bool, true, false, ◌||◌}
use mathlib.Core.List.{List, [], ◌∷◌, map}
use Prim.Native.Nat.{ℕ, ◌+◌, ◌≤◌, ◌<◌}
use native.Mathlib.Numerals.{add-one}
use native.Mathlib.Omega.{arith}
use lib.ListN.{length, get_or, drop, drop_of_length-le, length-map, length-drop}
use lib.Seq.{drop-cons}
use borrow.Author.Tests.{eq-eqb, ne_eqb}
use Rattle.common.proofs.Choice.{true_false}
use Rattle.octets.specs.Octets.{begins_of, contains_of}
use Rattle.octets.proofs.Laws.{begins_long, passed}
use Rattle.octets.proofs.Theorems.{empty_fits}

module _ (f g : ℕ → ℕ) (s p : List ℕ) where
  -- whether p from byte j on begins s at place x
  abbrev pub begins_from : ℕ → ℕ → Bool
  begins_from x j = begins_of (map f (drop x s)) (map g (drop j p))

  module _ (x j : ℕ) (l : x < length s) (m : j < length p) where
    pub begins_more : f (get_or s x 0) ≡ g (get_or p j 0) → begins_from (x + 1) (j + 1) ≡ begins_from x j
    begins_more e = rw (add-one x, add-one j, drop-cons s x 0 l, drop-cons p j 0 m, eq-eqb (f (get_or s x 0)) (g (get_or p j 0)) e)

    pub begins_stop : (f (get_or s x 0) ≡ g (get_or p j 0) → ⊥) → begins_from x j ≡ false
    begins_stop e = rw (drop-cons s x 0 l, drop-cons p j 0 m, ne_eqb (f (get_or s x 0)) (g (get_or p j 0)) e)

  pub begins_end : (x j : ℕ) → length p ≤ j → begins_from x j ≡ true
  begins_end x j h = rw (drop_of_length-le p h) (empty_fits (map f (drop x s))).0

-- nothing contains what is longer
contains_long : (s p : List ℕ) → length s < length p → false ≡ contains_of s p
contains_long [] p h = begins_long [] p h
contains_long (x ∷ xs) p h =
    let a : begins_of (x ∷ xs) p ≡ false = sym (begins_long (x ∷ xs) p h) in
    let b : contains_of xs p ≡ false = sym (contains_long xs p (omega arith)) in
    rw (a, b)

pub no_place : (f g : ℕ → ℕ) (s p : List ℕ) (i : ℕ) → length s < i + length p → i ≤ length s → false ≡ contains_of (map f (drop i s)) (map g p)
no_place f g s p i h l =
    contains_long (map f (drop i s)) (map g p) (rw (length-map (drop i s) f, length-map p g, length-drop i s) (omega arith))

-- a place whose first byte is another
pub other_first : (f g : ℕ → ℕ) (s p : List ℕ) (i : ℕ) → i < length s → 0 < length p → (f (get_or s i 0) ≡ g (get_or p 0 0) → ⊥)
    → contains_of (map f (drop (i + 1) s)) (map g p) ≡ contains_of (map f (drop i s)) (map g p)
other_first f g s p i l m e = passed f s (map g p) i l (begins_stop f g s p i 0 l m e)

-- an empty literal; no mark
pub empty_held : (f g : ℕ → ℕ) (s p : List ℕ) → length p ≡ 0 → true ≡ contains_of (map f s) (map g p)
empty_held f g s [] e = sym (empty_fits (map f s)).1
empty_held f g s (x ∷ xs) e = absurd (omega arith)

pub neither : (a b : Bool) → (a || b) ≡ false → (a ≡ false) × (b ≡ false)
neither true b e = true_false e
neither false b e = (refl, e)
