-- Runs of stores: over two lists, before another store, a turn of a copy, and what the slices' own copies leave. Assumes nothing.
use mathlib.Core.Path.{◌≡◌, refl, sym, ap, ap₂, ◌∙◌}
use mathlib.Core.List.{List, [], ◌∷◌, ◌++◌, append_assoc}
use Prim.Native.Nat.{ℕ, suc, ◌+◌, ◌≤◌, ◌<◌}
use native.Mathlib.Omega.{arith}
use native.Mathlib.Numerals.{add-one}
use lib.ListN.{length, get_or, set, take, drop, length-append}
use borrow.Rule.Slice.PartMut.{put_mid}
use Rattle.std.proofs.lemmas.Slice.{put_mid-paste}
use lib.Seq.{paste, take-length, sets, sets-eq, get_or-set_other, drop-cons, take_at, drop-append-add, length-take-le}

pub sets_append : (xs ys l : List ℕ) (i : ℕ) → sets l i (xs ++ ys) ≡ sets (sets l i xs) (i + length xs) ys
sets_append [] ys l i = let e : i ≡ i + 0 = omega arith in ap (λ (n : ℕ). sets l n ys) e
sets_append (x ∷ xs) ys l i =
    let e : suc i + length xs ≡ i + suc (length xs) = omega arith in
    sets_append xs ys (set l i x) (suc i) ∙ ap (λ (n : ℕ). sets (sets l i (x ∷ xs)) n ys) e

pub sets_before : (xs l : List ℕ) (i j : ℕ) → j < i → get_or (sets l i xs) j 0 ≡ get_or l j 0
sets_before [] l i j h = refl
sets_before (x ∷ xs) l i j h = sets_before xs (set l i x) (suc i) j (omega arith) ∙ get_or-set_other l i j x 0 (λ e. omega arith)

-- the bytes between some others are replaced
pub sets_between : (p x y q : List ℕ) (i : ℕ) → length p ≡ i → length x ≡ length y → sets (p ++ (x ++ q)) i y ≡ p ++ (y ++ q)
sets_between p x y q i e l =
    let w = p ++ (x ++ q) in
    let n : i + length y ≤ length w = omega (arith, length-append p (x ++ q), length-append x q) in
    let t : take i w ≡ p = take_at p (x ++ q) i e in
    let d : drop (i + length y) w ≡ q =
    ap (λ (k : ℕ). drop k w) (ap₂ (λ (a b : ℕ). a + b) (sym e) (sym l)) ∙ (drop-append-add p (x ++ q) (length x) ∙ drop_seam x q) in
    sets-eq y w i n ∙ (ap₂ (λ (a b : List ℕ). a ++ y ++ b) t d ∙ append_assoc p y q)
  where
    drop_seam : (a b : List ℕ) → drop (length a) (a ++ b) ≡ b
    drop_seam [] b = refl
    drop_seam (z ∷ zs) b = drop_seam zs b

-- a turn of `copy_to`
pub copied_one : (d s : List ℕ) (at i : ℕ) → i < length s → sets (set d (at + i) (get_or s i 0)) (at + (i + 1)) (drop (i + 1) s) ≡ sets d (at + i) (drop i s)
copied_one d s at i h =
    let e : at + (i + 1) ≡ suc (at + i) = omega arith in
    rw (e, add-one, drop-cons s i 0 h)

-- a part of a list is copied into another, as `copy_within` and `copy_from_slice` leave it
pub paste_sets : (d s : List ℕ) (at n : ℕ) → n ≤ length s → at + n ≤ length d → paste d at s n ≡ sets d at (take n s)
paste_sets d s at n h r =
    let l : length (take n s) ≡ n = length-take-le n s h in
    sym (sets-eq (take n s) d at (omega arith) ∙ ap (λ (k : ℕ). take at d ++ take n s ++ drop (at + k) d) l)

pub put_mid_sets : (d s : List ℕ) (at k : ℕ) → k ≡ length s → at + length s ≤ length d → put_mid at k d s ≡ sets d at s
put_mid_sets d s at k e h =
    put_mid-paste at k d s s (length s) refl (sym e) refl ∙ (paste_sets d s at (length s) (omega arith) h ∙ ap (sets d at) (take-length s))
