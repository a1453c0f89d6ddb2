-- Turns and ends of the comparing loops, each byte through a function of its own. Assumes nothing.
use mathlib.Core.Path.{◌≡◌, refl, sym, ap, ◌∙◌}
use mathlib.Core.Bool.{Bool, true, false, ◌&&◌, and-false, or-false}
use mathlib.Core.Logic.{◌⊎◌, ⊎_elim}
use mathlib.Core.List.{List, [], ◌∷◌, map}
use Prim.Native.Nat.{ℕ, zero, suc, ◌+◌, ◌-◌, ◌≤◌, ◌<◌}
use native.Mathlib.Numerals.{add-one}
use native.Mathlib.Omega.{arith}
use lib.Dec.{eqb, ltb}
use lib.ListN.{length, get_or, take, drop, drop_of_length-le, length-map, length-drop}
use lib.Seq.{drop-cons, take_all}
use borrow.Author.Tests.{eq-eqb, ne_eqb, lt-ltb, le-ltb}
use Rattle.octets.specs.Octets.{same_of, before_of, begins_of, contains_of, ends_of}

-- strings of other lengths are not the same
pub other_length : (s t : List ℕ) → (length s ≡ length t → ⊥) → false ≡ same_of s t
other_length [] [] f = absurd (f refl)
other_length [] (y ∷ ys) f = refl
other_length (x ∷ xs) [] f = refl
other_length (x ∷ xs) (y ∷ ys) f = sym (ap (λ (b : Bool). eqb x y && b) (sym (other_length xs ys (λ e. f (ap suc e)))) ∙ and-false (eqb x y))

module _ (f g : ℕ → ℕ) (s t : List ℕ) where
  -- what is left to compare at place i
  abbrev pub same_from : ℕ → Bool
  same_from i = same_of (map f (drop i s)) (map g (drop i t))

  pub lengths_differ : (length s ≡ length t → ⊥) → false ≡ same_from 0
  lengths_differ h = other_length (map f s) (map g t) (λ e. h (sym (length-map s f) ∙ e ∙ length-map t g))

  module _ (i : ℕ) (p : i < length s) (q : i < length t) where
    pub same_more : f (get_or s i 0) ≡ g (get_or t i 0) → same_from (i + 1) ≡ same_from i
    same_more e = rw (add-one, drop-cons s i 0 p, drop-cons t i 0 q, eq-eqb (f (get_or s i 0)) (g (get_or t i 0)) e)

    pub same_stop : (f (get_or s i 0) ≡ g (get_or t i 0) → ⊥) → false ≡ same_from i
    same_stop e = rw (drop-cons s i 0 p, drop-cons t i 0 q, ne_eqb (f (get_or s i 0)) (g (get_or t i 0)) e)

  pub same_end : (i : ℕ) → length s ≤ i → length t ≤ i → true ≡ same_from i
  same_end i p q = rw (drop_of_length-le s p, drop_of_length-le t q)

-- bytes that differ, and the end of one string
pub first_unlike : (f g : ℕ → ℕ) (x y : ℕ) (xs ys : List ℕ) → (f x ≡ g y → ⊥) → ltb (f x) (g y) ≡ before_of (map f (x ∷ xs)) (map g (y ∷ ys))
first_unlike f g x y xs ys h = rw (ne_eqb (f x) (g y) h) (sym (or-false _))

pub run_out : (f g : ℕ → ℕ) (xs ys : List ℕ) (n m : ℕ) → (length xs ≡ 0) ⊎ (length ys ≡ 0) → n + length ys ≡ m + length xs → ltb n m ≡ before_of (map f xs) (map g ys)
run_out f g [] [] n m o e = le-ltb n m (omega arith)
run_out f g [] (y ∷ ys) n m o e = lt-ltb n m (omega arith)
run_out f g (x ∷ xs) [] n m o e = le-ltb n m (omega arith)
run_out f g (x ∷ xs) (y ∷ ys) n m o e = ⊎_elim (λ z. absurd (omega arith)) (λ z. absurd (omega arith)) o

-- a start of the right length, and none of a longer one
pub begins_take : (s p : List ℕ) → length p ≤ length s → same_of (take (length p) s) p ≡ begins_of s p
begins_take [] [] h = refl
begins_take (x ∷ xs) [] h = refl
begins_take [] (y ∷ ys) h = absurd (omega arith)
begins_take (x ∷ xs) (y ∷ ys) h = ap (λ (b : Bool). eqb x y && b) (begins_take xs ys (omega arith))

pub begins_long : (s p : List ℕ) → length s < length p → false ≡ begins_of s p
begins_long s [] h = absurd (omega arith)
begins_long [] (y ∷ ys) h = refl
begins_long (x ∷ xs) (y ∷ ys) h = sym (ap (λ (b : Bool). eqb x y && b) (sym (begins_long xs ys (omega arith))) ∙ and-false (eqb x y))

-- the same of an end
pub ends_long : (s p : List ℕ) → length s < length p → false ≡ ends_of s p
ends_long [] p h = other_length [] p (λ e. omega arith)
ends_long (x ∷ xs) p h =
    let a : same_of (x ∷ xs) p ≡ false = sym (other_length (x ∷ xs) p (λ e. omega arith)) in
    let b : ends_of xs p ≡ false = sym (ends_long xs p (omega arith)) in
    rw (a, b)

ends_drop : (k : ℕ) (s p : List ℕ) → length s ≡ k + length p → same_of (drop k s) p ≡ ends_of s p
ends_drop zero [] p h = refl
ends_drop zero (x ∷ xs) p h =
    let l : length xs < length p = omega arith in
    let b : ends_of xs p ≡ false = sym (ends_long xs p l) in
    rw b (sym (or-false (same_of (x ∷ xs) p)))
ends_drop (suc k) [] p h = absurd (omega arith)
ends_drop (suc k) (x ∷ xs) p h =
    let a : same_of (x ∷ xs) p ≡ false = sym (other_length (x ∷ xs) p (λ e. omega arith)) in
    rw a (ends_drop k xs p (omega arith))

pub ends_at : (s p : List ℕ) → length p ≤ length s → same_of (drop (length s - length p) s) p ≡ ends_of s p
ends_at s p h = ends_drop (length s - length p) s p (omega arith)

-- parts of what is read through a function
pub take_map : (f : ℕ → ℕ) (n : ℕ) (s : List ℕ) → take n (map f s) ≡ map f (take n s)
take_map f zero s = refl
take_map f (suc n) [] = refl
take_map f (suc n) (x ∷ xs) = ap (λ (l : List ℕ). f x ∷ l) (take_map f n xs)

pub drop_map : (f : ℕ → ℕ) (n : ℕ) (s : List ℕ) → drop n (map f s) ≡ map f (drop n s)
drop_map f zero s = refl
drop_map f (suc n) [] = refl
drop_map f (suc n) (x ∷ xs) = drop_map f n xs

-- the answers of `begins` and `ends`, with each side read through a function
module _ (f g : ℕ → ℕ) (s p : List ℕ) where
  pub starts : length p ≤ length s → same_of (map f (take (length p) s)) (map g p) ≡ begins_of (map f s) (map g p)
  starts h =
      let n : length (map g p) ≡ length p = length-map p g in
      let l : length (map g p) ≤ length (map f s) = rw (length-map s f, n) h in
      (rw (n, take_map) at (begins_take (map f s) (map g p) l))

  pub no_start : length s < length p → false ≡ begins_of (map f s) (map g p)
  no_start h = begins_long (map f s) (map g p) (rw (length-map s f, length-map p g) h)

  pub finishes : length p ≤ length s → same_of (map f (drop (length s - length p) s)) (map g p) ≡ ends_of (map f s) (map g p)
  finishes h =
      let l : length (map g p) ≤ length (map f s) = rw (length-map s f, length-map p g) h in
      (rw (length-map s f, length-map p g, drop_map) at (ends_at (map f s) (map g p) l))

  pub no_finish : length s < length p → false ≡ ends_of (map f s) (map g p)
  no_finish h = ends_long (map f s) (map g p) (rw (length-map s f, length-map p g) h)

-- one turn of the search
module _ (f : ℕ → ℕ) (s p : List ℕ) (i : ℕ) where
  pub found : i < length s → begins_of (map f (drop i s)) p ≡ true → true ≡ contains_of (map f (drop i s)) p
  found h e = let e2 = rw (drop-cons s i 0 h) at e in rw (drop-cons s i 0 h, e2)

  pub passed : i < length s → begins_of (map f (drop i s)) p ≡ false → contains_of (map f (drop (i + 1) s)) p ≡ contains_of (map f (drop i s)) p
  passed h e = let e2 = rw (drop-cons s i 0 h) at e in rw (add-one, drop-cons s i 0 h, e2)

-- a part that goes on to the end
pub rest : (s : List ℕ) (i : ℕ) → take (length s - i) (drop i s) ≡ drop i s
rest s i = take_all (length s - i) (drop i s) (simp length-drop (omega arith))
