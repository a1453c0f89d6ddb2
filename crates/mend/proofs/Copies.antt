-- Copies by blocks of words, the last of which may begin among the bytes copied before. Assumes nothing.
use mathlib.Core.Path.{◌≡◌, sym, ap, ap₂, ◌∙◌}
use mathlib.Core.List.{List, ◌++◌, append_assoc}
use Prim.Native.Nat.{ℕ, ◌+◌, ◌-◌, ◌≤◌}
use native.Mathlib.Omega.{arith}
use lib.ListN.{length, take, drop, length-append, length-drop, take-append-drop}
use lib.Seq.{sets, sets-eq, length-sets, length-take-le, take-add, take_all, take_at, drop-drop, drop-append-add}
use Rattle.common.proofs.Stores.{sets_append}
use Rattle.word.specs.Word.{word_at, word_bytes, Bytes}
use Rattle.word.proofs.Theorems.{read_bytes_lem}

-- some bytes more of a copy
pub more_copied : (d e f t : List ℕ) (at i k : ℕ) → e ≡ sets d at (take i t) → f ≡ sets e (at + i) (take k (drop i t)) → i ≤ length t → f ≡ sets d at (take (i + k) t)
more_copied d e f t at i k p q h =
    let x = take i t in
    let n : at + i ≡ at + length x = omega (arith, length-take-le i t h) in
    q ∙ (ap₂ (λ (l : List ℕ) (j : ℕ). sets l j (take k (drop i t))) p n ∙ (sym (sets_append x (take k (drop i t)) d at) ∙ ap (sets d at) (sym (take-add i k t))))

-- a word more
module _ (s : List ℕ) (b : Bytes s) (from : ℕ) where
  pub word_copied : (d e f : List ℕ) (to j w k : ℕ) → e ≡ sets d to (take j (drop from s)) → w ≡ word_at 8 s (from + j) → f ≡ sets e (to + j) (word_bytes 8 w) → from + (j + 8) ≤ length s → j + 8 ≡ k
      → f ≡ sets d to (take k (drop from s))
  word_copied d e f to j w k p v q h z =
      let l : j ≤ length (drop from s) = omega (arith, length-drop from s) in
      let r : word_bytes 8 w ≡ take 8 (drop j (drop from s)) = ap (word_bytes 8) v ∙ (read_bytes_lem 8 (from + j) s b (omega arith) ∙ ap (take 8) (sym (drop-drop j from s))) in
      more_copied d e f (drop from s) to j 8 p (q ∙ ap (sets e (to + j)) r) l ∙ ap (λ (i : ℕ). sets d to (take i (drop from s))) z

  pub first_word : (d e : List ℕ) (to w : ℕ) → w ≡ word_at 8 s from → e ≡ sets d to (word_bytes 8 w) → from + 8 ≤ length s → e ≡ sets d to (take 8 (drop from s))
  first_word d e to w v q h = q ∙ ap (sets d to) (ap (word_bytes 8) v ∙ read_bytes_lem 8 from s b h)

-- what is stored over a part that is not longer
sets_over : (x y l : List ℕ) (p : ℕ) → length x ≤ length y → p + length y ≤ length l → sets (sets l p x) p y ≡ sets l p y
sets_over x y l p g h =
    let a = take p l in
    let d = drop (p + length x) l in
    let m = length y - length x in
    let la : length a ≡ p = length-take-le p l (omega arith) in
    let e : sets l p x ≡ (a ++ x) ++ d = sets-eq x l p (omega arith) in
    let lx : length (a ++ x) ≡ p + length x = length-append a x ∙ omega arith in
    let k : p + length y ≡ length (a ++ x) + m = omega arith in
    let n : p + length x + m ≡ p + length y = omega arith in
    let t : take p (sets l p x) ≡ a = ap (take p) (e ∙ append_assoc a x d) ∙ take_at a (x ++ d) p la in
    let u : drop (p + length y) (sets l p x) ≡ drop (p + length y) l =
    ap₂ drop k e ∙ (drop-append-add (a ++ x) d m ∙ (drop-drop m (p + length x) l ∙ ap (λ (j : ℕ). drop j l) n)) in
    sets-eq y (sets l p x) p (omega (arith, length-sets l p x)) ∙ (ap₂ (λ (v w : List ℕ). (v ++ y) ++ w) t u ∙ sym (sets-eq y l p h))

pub last_copied : (d e f s : List ℕ) (at i last : ℕ) → e ≡ sets d at (take i s) → f ≡ sets e (at + last) (take 32 (drop last s)) → last ≤ i → i ≤ length s → last + 32 ≡ length s → at + length s ≤ length d
    → f ≡ sets d at s
last_copied d e f s at i last p q g h z room =
    let a = take last s in
    let x = take (i - last) (drop last s) in
    let y = drop last s in
    let c = sets d at a in
    let ly = length-drop last s in
    let la : length a ≡ last = length-take-le last s (omega arith) in
    let n : at + length a ≡ at + last = omega arith in
    let k : i ≡ last + (i - last) = omega arith in
    let lx : length x ≡ i - last = length-take-le (i - last) y (omega arith) in
    let w : take 32 y ≡ y = take_all 32 y (omega arith) in
    let r : e ≡ sets c (at + last) x =
    p ∙ (ap (sets d at) (ap (λ (j : ℕ). take j s) k ∙ take-add last (i - last) s) ∙ (sets_append a x d at ∙ ap (λ (j : ℕ). sets c j x) n)) in
    q ∙ (ap₂ (λ (l v : List ℕ). sets l (at + last) v) r w
    ∙ (sets_over x y c (at + last) (omega arith) (omega (arith, length-sets d at a))
    ∙ (ap (λ (j : ℕ). sets c j y) (sym n) ∙ (sym (sets_append a y d at) ∙ ap (sets d at) (take-append-drop last s)))))
