-- Stretches of a buffer: words with bytes in common, and a part up to the end that is put back. Assumes nothing.
use Prim.Native.Nat.{ℕ, zero, suc, ◌+◌, ◌-◌, ◌*◌, ◌≤◌}
use native.Mathlib.Omega.{arith}
use mathlib.Core.Path.{◌≡◌, refl, sym, ap, ap₂, ◌∙◌}
use mathlib.Core.Bool.{Bool, true, false, ◌||◌}
use mathlib.Core.List.{List, [], ◌∷◌, ◌++◌, append-nil}
use lib.Dec.{ltb}
use lib.ListN.{length, set, take, drop, length-append, length-drop, take-append-drop, drop_of_length-le}
use lib.Seq.{sets, sets-eq, set-set, drop-length, length-sets, take_all, take-take, take-add, drop-drop, drop_at, length-take-le}
use borrow.Rule.Slice.PartMut.{mid_of, post_of, put_mid}
use borrow.Author.Tests.{ltb-false}
use Rattle.common.proofs.Choice.{false_true}
use Rattle.word.specs.Word.{word_at, word_bytes, Bytes}
use Rattle.word.proofs.Laws.{length_word_bytes}
use Rattle.word.proofs.Theorems.{read_bytes_lem}
use Rattle.postfix.proofs.Codes.{set_sets}
use Rattle.table.specs.declared.Entry.{Entry}
use Rattle.table.specs.Table.{entry_bytes, entries_bytes}

-- ---- words with bytes in common

sets_again : (i : ℕ) (xs l : List ℕ) (at : ℕ) → sets (sets l at (take i xs)) at xs ≡ sets l at xs
sets_again zero xs l at = refl
sets_again (suc i) [] l at = refl
sets_again (suc i) (x ∷ xs) l at =
    ap (λ (m : List ℕ). sets m (suc at) xs) (set_sets (take i xs) (set l at x) at (suc at) x (omega arith) ∙ ap (λ (m : List ℕ). sets m (suc at) (take i xs)) (set-set l at x x))
    ∙ sets_again i xs (set l at x) (suc at)

-- the front of some bytes, and then what is left of them, or more than that
pub sets_over : (j i : ℕ) (xs l : List ℕ) (at : ℕ) → j ≤ i → sets (sets l at (take i xs)) (at + j) (drop j xs) ≡ sets l at xs
sets_over zero i xs l at h = let e : at + 0 ≡ at = omega arith in rw e (sets_again i xs l at)
sets_over (suc j) zero xs l at h = absurd (omega arith)
sets_over (suc j) (suc i) [] l at h = refl
sets_over (suc j) (suc i) (x ∷ xs) l at h = let e : at + suc j ≡ suc at + j = omega arith in rw e (sets_over j i xs (set l at x) (suc at) (omega arith))

-- the test for them, as the code makes it
pub in_words : (n : ℕ) → (ltb n 4 || ltb 16 n) ≡ false → (4 ≤ n) × (n ≤ 16)
in_words n e = go (ltb n 4) (ltb 16 n) refl refl e
  where
    go : (a b : Bool) → ltb n 4 ≡ a → ltb 16 n ≡ b → (a || b) ≡ false → (4 ≤ n) × (n ≤ 16)
    go true b p q z = false_true (sym z)
    go false true p q z = false_true (sym z)
    go false false p q z = (ltb-false n 4 p, ltb-false 16 n q)

-- n bytes as their first k and their last k
pub words_over : (k n : ℕ) (s was mid now : List ℕ) (from at a b : ℕ) → Bytes s → k ≤ n → n ≤ 2 * k → from + n ≤ length s
    → a ≡ word_at k s from → b ≡ word_at k s (from + n - k) → mid ≡ sets was at (word_bytes k a) → now ≡ sets mid (at + n - k) (word_bytes k b) → now ≡ sets was at (take n (drop from s))
words_over k n s was mid now from at a b h lo hi room ea eb em en =
    let xs = take n (drop from s) in
    let e : at + n - k ≡ at + (n - k) = omega arith in
    let f : from + n - k ≡ from + (n - k) = omega arith in
    let m : n ≡ n - k + k = omega arith in
    let first : word_bytes k a ≡ take k xs = ap (word_bytes k) ea ∙ read_bytes_lem k from s h (omega arith) ∙ sym (take-take k n (drop from s) lo) in
    let split : xs ≡ take (n - k) (drop from s) ++ take k (drop (n - k) (drop from s)) = ap (λ (z : ℕ). take z (drop from s)) m ∙ take-add (n - k) k (drop from s) in
    let ld : length (take (n - k) (drop from s)) ≡ n - k = length-take-le (n - k) (drop from s) (simp length-drop (omega arith)) in
    let later : drop (n - k) xs ≡ take k (drop (n - k) (drop from s)) = ap (drop (n - k)) split ∙ drop_at (take (n - k) (drop from s)) (take k (drop (n - k) (drop from s))) (n - k) ld in
    let second : word_bytes k b ≡ drop (n - k) xs = ap (word_bytes k) eb ∙ read_bytes_lem k (from + n - k) s h (omega arith) ∙ ap (λ (z : ℕ). take k (drop z s)) f ∙ ap (take k) (sym (drop-drop (n - k) from s)) ∙ sym later in
    en ∙ ap₂ (λ (l : List ℕ) (z : ℕ). sets l z (word_bytes k b)) (em ∙ ap (sets was at) first) e ∙ ap (sets (sets was at (take k xs)) (at + (n - k))) second
    ∙ sets_over (n - k) k xs was at (omega arith)

-- over the whole of a list
pub sets_all : (xs l : List ℕ) → length xs ≡ length l → sets l 0 xs ≡ xs
sets_all xs l e =
    let h : 0 + length xs ≡ length l = omega arith in
    sets-eq xs l 0 (omega arith) ∙ ap (λ (n : ℕ). xs ++ drop n l) h ∙ ap (λ (r : List ℕ). xs ++ r) (drop-length l) ∙ append-nil xs

-- ---- entries

pub length_entry : (e : Entry) → length (entry_bytes e) ≡ 12
length_entry e = simp (length-append, length_word_bytes)

pub length_entries : (es : List Entry) → length (entries_bytes es) ≡ 12 * length es
unfolding entries_bytes
length_entries [] = refl
length_entries (e ∷ es) = omega (arith, length-append (entry_bytes e) (entries_bytes es), length_entry e, length_entries es)

-- writing keeps the length
pub kept_by : (s now : List ℕ) (at : ℕ) (xs : List ℕ) → now ≡ sets s at xs → length now ≡ length s
kept_by s now at xs e = ap length e ∙ length-sets s at xs

-- ---- the buffer from a place on

set_after : (p q : List ℕ) (i a : ℕ) → set (p ++ q) (length p + i) a ≡ p ++ set q i a
set_after [] q i a = let e : 0 + i ≡ i = omega arith in rw e
set_after (x ∷ p) q i a = let e : suc (length p) + i ≡ suc (length p + i) = omega arith in rw e (ap (λ (l : List ℕ). x ∷ l) (set_after p q i a))

sets_after : (xs p q : List ℕ) (i : ℕ) → sets (p ++ q) (length p + i) xs ≡ p ++ sets q i xs
sets_after [] p q i = refl
sets_after (x ∷ xs) p q i =
    let e : suc (length p + i) ≡ length p + suc i = omega arith in
    rw (e, set_after p q i x) (sets_after xs p (set q i x) (suc i))

pub rest_back : (s xs : List ℕ) (at : ℕ) → at ≤ length s → take at s ++ sets (drop at s) 0 xs ≡ sets s at xs
rest_back s xs at h =
    let n : length (take at s) + 0 ≡ at = rw (lib.Seq.length-take-le at s h) (omega arith) in
    sym (sets_after xs (take at s) (drop at s) 0) ∙ rw (n, take-append-drop at s)

-- a part up to the end, put back with bytes at its start
pub rest_put : (s part xs : List ℕ) (at : ℕ) → at ≤ length s → part ≡ sets (mid_of at (length s - at) s) 0 xs → put_mid at (length s - at) s part ≡ sets s at xs
rest_put s part xs at h e =
    let n = length-drop at s in
    let all : mid_of at (length s - at) s ≡ drop at s = take_all (length s - at) (drop at s) (omega (arith, n)) in
    let nothing : post_of at (length s - at) s ≡ [] = drop_of_length-le (drop at s) {i = length s - at} (omega (arith, n)) in
    ap (λ (l : List ℕ). take at s ++ (part ++ l)) nothing
    ∙ ap (λ (l : List ℕ). take at s ++ l) (append-nil part ∙ e ∙ ap (λ (l : List ℕ). sets l 0 xs) all)
    ∙ rest_back s xs at h
