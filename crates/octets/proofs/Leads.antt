-- The order of two strings, eight bytes at a time: equal starts, and words as numbers whose first byte is the greatest. Assumes nothing.
use mathlib.Core.Path.{◌≡◌, refl, sym, ap, ap₂, ◌∙◌}
use mathlib.Core.Bool.{Bool, true, false, ◌||◌}
use mathlib.Core.List.{List, [], ◌∷◌, ◌++◌}
use Prim.Native.Nat.{ℕ, zero, suc, ◌+◌, ◌*◌, ◌-◌, ◌^◌, ◌≤◌, ◌<◌, min}
use native.Mathlib.Nat.{pow-zero, pow-suc, add-mul, mul_assoc, mul_comm}
use native.Mathlib.Omega.{arith}
use lib.Dec.{ltb}
use lib.ListN.{length, get_or, take, drop, drop_of_length-le, length-drop}
use lib.Seq.{drop-nil, drop-cons, get_or-drop}
use borrow.Author.Tests.{lt-ltb, le-ltb, ltb-true, ltb-false, eq-eqb, ne_eqb}
use Rattle.common.proofs.Choice.{true_false}
use Rattle.word.specs.Word.{word_at, word_bytes, Bytes}
use Rattle.word.proofs.Theorems.{bytes_read, read_bytes_lem, bounded}
use Rattle.octets.specs.Octets.{before_of, lead}

-- the test of both lengths
pub neither_below : (a b n : ℕ) → (ltb a n || ltb b n) ≡ false → (n ≤ a) × (n ≤ b)
neither_below a b n = go (ltb a n) (ltb b n) refl refl
  where
    go : (x y : Bool) → ltb a n ≡ x → ltb b n ≡ y → (x || y) ≡ false → (n ≤ a) × (n ≤ b)
    go true y p q e = true_false e
    go false true p q e = true_false e
    go false false p q e = (ltb-false a n p, ltb-false b n q)

-- ---- equal starts

pub same_first : (a b : ℕ) (s t : List ℕ) → a ≡ b → before_of (a ∷ s) (b ∷ t) ≡ before_of s t
same_first a b s t e = rw (le-ltb a b (omega arith), eq-eqb a b e)

pub after_same : (i : ℕ) (s t : List ℕ) → i ≤ length s → i ≤ length t → take i s ≡ take i t → before_of (drop i s) (drop i t) ≡ before_of s t
after_same zero s t g h e = refl
after_same (suc i) [] t g h e = absurd (omega arith)
after_same (suc i) (a ∷ s) [] g h e = absurd (omega arith)
after_same (suc i) (a ∷ s) (b ∷ t) g h e =
    after_same i s t (omega arith) (omega arith) (ap (drop 1) e) ∙ sym (same_first a b s t (ap (λ (l : List ℕ). get_or l 0 0) e))

-- where the shorter string is the start of the other
pub all_alike : (n : ℕ) (s t : List ℕ) → n ≡ min (length s) (length t) → take n s ≡ take n t → ltb (length s) (length t) ≡ before_of s t
all_alike n s t o e = go (ltb (length s) (length t)) refl ∙ after_same n s t (omega arith) (omega arith) e
  where
    go : (b : Bool) → ltb (length s) (length t) ≡ b → b ≡ before_of (drop n s) (drop n t)
    go true p =
        let l = ltb-true (length s) (length t) p in
        let z : n ≡ length s = omega arith in
        rw (drop_of_length-le s {i = n} (omega arith), drop-cons t n 0 (omega arith))
    go false p =
        let l = ltb-false (length s) (length t) p in
        let z : n ≡ length t = omega arith in
        rw (drop_of_length-le t {i = n} (omega arith)) (none_before (drop n s))
      where
        none_before : (u : List ℕ) → false ≡ before_of u []
        none_before [] = refl
        none_before (x ∷ xs) = refl

-- ---- numbers of bytes, greatest first

-- the greater number stays greater, whatever bytes come after it
pub lead_less : (k v w : ℕ) (s t : List ℕ) → Bytes s → v < w → lead k v s < lead k w t
unfolding lead
lead_less zero v w s t b h = h
lead_less (suc k) v w [] [] b h = lead_less k (v * 256) (w * 256) [] [] b (omega arith)
lead_less (suc k) v w [] (y ∷ t) b h = lead_less k (v * 256) (w * 256 + y) [] t b (omega arith)
lead_less (suc k) v w (x ∷ s) [] b h = let l = b 0 in lead_less k (v * 256 + x) (w * 256) s [] (λ i. b (suc i)) (omega arith)
lead_less (suc k) v w (x ∷ s) (y ∷ t) b h = let l = b 0 in lead_less k (v * 256 + x) (w * 256 + y) s t (λ i. b (suc i)) (omega arith)

-- .. so numbers that differ have the order of the strings, and equal ones the same bytes
pub by_lead : (k v : ℕ) (s t : List ℕ) → Bytes s → Bytes t → k ≤ length s → k ≤ length t → (lead k v s ≡ lead k v t → ⊥) → ltb (lead k v s) (lead k v t) ≡ before_of s t
unfolding lead
by_lead zero v s t p q g h f = absurd (f refl)
by_lead (suc k) v [] t p q g h f = absurd (omega arith)
by_lead (suc k) v (a ∷ s) [] p q g h f = absurd (omega arith)
by_lead (suc k) v (a ∷ s) (b ∷ t) p q g h f = go (ltb a b) (ltb b a) refl refl (by_lead k (v * 256 + b) s t (λ i. p (suc i)) (λ i. q (suc i)) (omega arith) (omega arith))
  where
    go : (x y : Bool) → ltb a b ≡ x → ltb b a ≡ y → ((lead k (v * 256 + b) s ≡ lead k (v * 256 + b) t → ⊥) → ltb (lead k (v * 256 + b) s) (lead k (v * 256 + b) t) ≡ before_of s t)
        → ltb (lead k (v * 256 + a) s) (lead k (v * 256 + b) t) ≡ before_of (a ∷ s) (b ∷ t)
    go true y d e ih =
        let l : a < b = ltb-true a b d in
        rw d (lt-ltb (lead k (v * 256 + a) s) (lead k (v * 256 + b) t) (lead_less k (v * 256 + a) (v * 256 + b) s t (λ i. p (suc i)) (omega arith)))
    go false true d e ih =
        let l : b < a = ltb-true b a e in
        let m = lead_less k (v * 256 + b) (v * 256 + a) t s (λ i. q (suc i)) (omega arith) in
        rw (d, ne_eqb a b (λ z. omega arith)) (le-ltb (lead k (v * 256 + a) s) (lead k (v * 256 + b) t) (omega (arith, m)))
    go false false d e ih =
        let z : a ≡ b = omega (arith, ltb-false a b d, ltb-false b a e) in
        let w : v * 256 + a ≡ v * 256 + b = omega arith in
        ap (λ (x : ℕ). ltb (lead k x s) (lead k (v * 256 + b) t)) w
        ∙ (ih (λ o. f (ap (λ (x : ℕ). lead k x s) w ∙ o)) ∙ sym (same_first a b s t z))

same_lead : (k v : ℕ) (s t : List ℕ) → Bytes s → Bytes t → k ≤ length s → k ≤ length t → lead k v s ≡ lead k v t → take k s ≡ take k t
unfolding lead
same_lead zero v s t p q g h e = refl
same_lead (suc k) v [] t p q g h e = absurd (omega arith)
same_lead (suc k) v (a ∷ s) [] p q g h e = absurd (omega arith)
same_lead (suc k) v (a ∷ s) (b ∷ t) p q g h e = go (ltb a b) (ltb b a) refl refl (same_lead k (v * 256 + b) s t (λ i. p (suc i)) (λ i. q (suc i)) (omega arith) (omega arith))
  where
    go : (x y : Bool) → ltb a b ≡ x → ltb b a ≡ y → (lead k (v * 256 + b) s ≡ lead k (v * 256 + b) t → take k s ≡ take k t) → a ∷ take k s ≡ b ∷ take k t
    go true y d o ih =
        let l : a < b = ltb-true a b d in
        let m = lead_less k (v * 256 + a) (v * 256 + b) s t (λ i. p (suc i)) (omega arith) in
        absurd (omega arith)
    go false true d o ih =
        let l : b < a = ltb-true b a o in
        let m = lead_less k (v * 256 + b) (v * 256 + a) t s (λ i. q (suc i)) (omega arith) in
        absurd (omega arith)
    go false false d o ih =
        let z : a ≡ b = omega (arith, ltb-false a b d, ltb-false b a o) in
        let w : v * 256 + a ≡ v * 256 + b = omega arith in
        ap₂ (λ (x : ℕ) (l : List ℕ). x ∷ l) z (ih (sym (ap (λ (x : ℕ). lead k x s) w) ∙ e))

-- one byte more of eight
pub lead_more : (v at i : ℕ) (s : List ℕ) → i < 8 → at + i < length s → lead (8 - (i + 1)) (v * 256 + get_or s (at + i) 0) (drop (at + (i + 1)) s) ≡ lead (8 - i) v (drop (at + i) s)
unfolding lead
lead_more v at i s h l =
    let e1 : 8 - i ≡ suc (8 - (i + 1)) = omega arith in
    let e2 : at + (i + 1) ≡ suc (at + i) = omega arith in
    rw (e1, e2, drop-cons s (at + i) 0 l)

pub lead_all : (v : ℕ) (s : List ℕ) → lead 0 v s ≡ v
unfolding lead
lead_all v s = refl

-- after no bytes, after others, in parts, of a start
pub lead_nil : (k v : ℕ) → lead k v [] ≡ v * 256 ^ k
unfolding lead
lead_nil zero v = rw (pow-zero 256) (omega arith)
lead_nil (suc k) v = lead_nil k (v * 256) ∙ rw (pow-suc 256 k, mul_assoc, mul_comm (256 ^ k) 256) refl

pub lead_from : (k v : ℕ) (s : List ℕ) → lead k v s ≡ v * 256 ^ k + lead k 0 s
unfolding lead
lead_from zero v s = rw (pow-zero 256) (omega arith)
lead_from (suc k) v [] =
    let e = lead_nil (suc k) v in
    let o : lead k (0 * 256) [] ≡ 0 = lead_nil k 0 ∙ omega arith in
    e ∙ omega (arith, o)
lead_from (suc k) v (b ∷ s) =
    let e = lead_from k (v * 256 + b) s in
    let f = lead_from k (0 * 256 + b) s in
    let p1 : (v * 256 + b) * 256 ^ k ≡ v * 256 * 256 ^ k + b * 256 ^ k = add-mul (v * 256) b (256 ^ k) in
    let p2 : v * 256 * 256 ^ k ≡ v * (256 ^ k * 256) = mul_assoc v 256 (256 ^ k) ∙ ap (λ (n : ℕ). v * n) (mul_comm 256 (256 ^ k)) in
    let p3 : v * 256 ^ suc k ≡ v * (256 ^ k * 256) = ap (λ (n : ℕ). v * n) (pow-suc 256 k) in
    let z : 0 * 256 + b ≡ b = omega arith in
    let p4 : (0 * 256 + b) * 256 ^ k ≡ b * 256 ^ k = ap (λ (n : ℕ). n * 256 ^ k) z in
    omega (arith, e, f, p1, p2, p3, p4)

pub lead_parts : (j k v : ℕ) (s : List ℕ) → lead (j + k) v s ≡ lead k (lead j v s) (drop j s)
unfolding lead
lead_parts zero k v s = let z : 0 + k ≡ k = omega arith in rw z refl
lead_parts (suc j) k v [] = let z : suc j + k ≡ suc (j + k) = omega arith in rw z (lead_parts j k (v * 256) [] ∙ ap (lead k (lead j (v * 256) [])) (drop-nil j))
lead_parts (suc j) k v (b ∷ s) = let z : suc j + k ≡ suc (j + k) = omega arith in rw z (lead_parts j k (v * 256 + b) s)

pub lead_take : (k n v : ℕ) (s : List ℕ) → k ≤ n → lead k v (take n s) ≡ lead k v s
unfolding lead
lead_take zero n v s h = refl
lead_take (suc k) zero v s h = absurd (omega arith)
lead_take (suc k) (suc n) v [] h = refl
lead_take (suc k) (suc n) v (b ∷ s) h = lead_take k n (v * 256 + b) s (omega arith)

pub lead_short : (k : ℕ) (s : List ℕ) → Bytes s → lead k 0 s < 256 ^ k
lead_short k s b = let m = lead_less k 0 1 s [] b (omega arith) in let e = lead_nil k 1 in omega (arith, m, e)

-- ---- the first words that differ

module _ (s t : List ℕ) (p : Bytes s) (q : Bytes t) (at : ℕ) (g : at + 8 ≤ length s) (h : at + 8 ≤ length t) where
  same_word : take 8 (drop at s) ≡ take 8 (drop at t) → word_at 8 s at ≡ word_at 8 t at
  same_word e =
      let a = word_at 8 s at in
      let b = word_at 8 t at in
      let w : word_bytes 8 a ≡ word_bytes 8 b = read_bytes_lem 8 at s p g ∙ (e ∙ sym (read_bytes_lem 8 at t q h)) in
      sym (bytes_read 8 a [] [] (bounded 8 at s p)) ∙ (ap (λ (l : List ℕ). word_at 8 ([] ++ (l ++ [])) 0) w ∙ bytes_read 8 b [] [] (bounded 8 at t q))

  pub words_order : take at s ≡ take at t → (word_at 8 s at ≡ word_at 8 t at → ⊥) → ltb (lead 8 0 (drop at s)) (lead 8 0 (drop at t)) ≡ before_of s t
  words_order e f =
      let bs : Bytes (drop at s) = λ i. rw (get_or-drop at s i 0) (p (at + i)) in
      let bt : Bytes (drop at t) = λ i. rw (get_or-drop at t i 0) (q (at + i)) in
      let m : 8 ≤ length (drop at s) = omega (arith, length-drop at s) in
      let n : 8 ≤ length (drop at t) = omega (arith, length-drop at t) in
      by_lead 8 0 (drop at s) (drop at t) bs bt m n (λ o. f (same_word (same_lead 8 0 (drop at s) (drop at t) bs bt m n o))) ∙ after_same at s t (omega arith) (omega arith) e
