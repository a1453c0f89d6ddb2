-- Names: by their lengths, by words and byte by byte, with the turns and ends of the loops. Assumes nothing.
use Rattle.std.specs.Prelude.{All, IsTrue, ◌↔◌}
use Rattle.std.proofs.Common.{◌≡◌, ℕ, zero, suc, ◌+◌, ◌-◌, ◌*◌, ◌/◌, ◌%◌, ◌^◌, ◌<◌, ◌≤◌, Bool, true, false, ◌&&◌, leb, List, [], ◌∷◌, ◌++◌, length, take, drop, sym, refl, ap, ◌∙◌, ap₂, mul_assoc, mul_comm, pow-suc, arith, length-drop, take-append-drop, take_all, take-add, le-leb, leb-true}
use mathlib.Core.Bool.{and_assoc}
use native.Mathlib.Nat.{pow-zero}
use borrow.Author.Tests.{lt-leb}
use Rattle.word.specs.Word.{word_at, word_bytes, Bytes}
use Rattle.word.proofs.Theorems.{read_bytes_lem, bounded}
use Rattle.octets.proofs.Theorems.{and_parts}
use Rattle.notice.specs.Field.{printable, name_right}

pub empty_wrong : (s : List ℕ) → length s ≡ 0 → false ≡ name_right s
empty_wrong s e = rw (e)

pub long_wrong : (s : List ℕ) → 64 < length s → false ≡ name_right s
long_wrong s h =
    let p : leb 1 (length s) ≡ true = le-leb 1 (length s) (omega arith) in
    let q : leb (length s) 64 ≡ false = lt-leb _ _ h in
    rw (p, q)

-- a name of a right length is right by its bytes
pub by_bytes : (s : List ℕ) → (length s ≡ 0 → ⊥) → length s ≤ 64 → printable s ≡ name_right s
by_bytes s z h =
    let p : leb 1 (length s) ≡ true = le-leb 1 (length s) (omega arith) in
    let q : leb (length s) 64 ≡ true = le-leb _ _ h in
    rw (p, q)

pub printable_append : (s t : List ℕ) → (printable s && printable t) ≡ printable (s ++ t)
printable_append [] t = refl
printable_append (b ∷ s) t = and_assoc (leb 32 b && leb b 126) (printable s) (printable t) ∙ ap (λ (x : Bool). (leb 32 b && leb b 126) && x) (printable_append s t)

-- a start and an end that leave no byte out
pub overlap : (i j : ℕ) (s : List ℕ) → j ≤ i → printable (take i s) ≡ true → printable (drop j s) ≡ printable s
overlap i zero s h e = refl
overlap i (suc j) [] h e = refl
overlap zero (suc j) (b ∷ s) h e = absurd (omega arith)
overlap (suc i) (suc j) (b ∷ s) h e =
    let p = and_parts (leb 32 b && leb b 126) (printable (take i s)) e in
    rw p.0 (overlap i j s (omega arith) p.1)

pub start_wrong : (i : ℕ) (s : List ℕ) → printable (take i s) ≡ false → false ≡ printable s
start_wrong i s e = ap (λ (x : Bool). x && printable (drop i s)) (sym e) ∙ (printable_append (take i s) (drop i s) ∙ ap printable (take-append-drop i s))

pub next_right : (i k : ℕ) (s : List ℕ) → printable (take i s) ≡ true → (printable (take k (drop i s))) ≡ printable (take (i + k) s)
next_right i k s e = ap (λ (x : Bool). x && printable (take k (drop i s))) (sym e) ∙ (printable_append (take i s) (take k (drop i s)) ∙ ap printable (sym (take-add i k s)))

-- a word of a name is its bytes
pub word_bytes_lem : (k at : ℕ) (s : List ℕ) → Bytes s → at + k ≤ length s → printable (word_bytes k (word_at k s at)) ≡ printable (take k (drop at s))
word_bytes_lem k at s b h = ap printable (read_bytes_lem k at s b h)

-- the word that reaches to the end
pub end_word : (k at : ℕ) (s : List ℕ) → Bytes s → at + k ≡ length s → printable (word_bytes k (word_at k s at)) ≡ printable (drop at s)
end_word k at s b h = word_bytes_lem k at s b (omega arith) ∙ ap printable (take_all k (drop at s) (simp length-drop (omega arith)))

-- the bytes one by one
abbrev Printable : List ℕ → Type 0
Printable s = All (λ b. (32 ≤ b) × (b ≤ 126)) s

each : (s : List ℕ) → printable s ≡ true → Printable s
each [] e k d h = absurd (omega arith)
each (b ∷ s) e zero d h =
    let p = and_parts (leb 32 b) (leb b 126) (and_parts (leb 32 b && leb b 126) (printable s) e).0 in
    (leb-true 32 b p.0, leb-true b 126 p.1)
each (b ∷ s) e (suc k) d h = each s (and_parts (leb 32 b && leb b 126) (printable s) e).1 k d (omega arith)

whole : (s : List ℕ) → Printable s → printable s ≡ true
whole [] a = refl
whole (b ∷ s) a =
    let p = a 0 0 (omega arith) in
    rw (le-leb 32 b p.0, le-leb b 126 p.1) (whole s (λ k d h. a (suc k) d (omega arith)))

pub by_each : (s : List ℕ) (r : Bool) → IsTrue r ↔ Printable s → r ≡ printable s
by_each s true e = sym (whole s (e.0 refl))
by_each s false e = go (printable s) refl
  where
    go : (b : Bool) → printable s ≡ b → false ≡ printable s
    go true p = e.1 (each s p) ∙ sym p
    go false p = sym p

-- a word with no byte left out, as `word_right` tells it
pub whole_word : (x : ℕ) (r : Bool) → x < 256 ^ 8 → ((y : ℕ) → x ≡ y * 256 ^ 0 → y < 256 ^ (8 - 0) → r ≡ printable (word_bytes (8 - 0) y)) → r ≡ printable (word_bytes 8 x)
whole_word x r h f = f x (omega arith) h

-- the bytes of a word are those of its low part and those of its high part
parts_bytes : (j k v w : ℕ) → v < 256 ^ j → word_bytes (j + k) (v + 256 ^ j * w) ≡ word_bytes j v ++ word_bytes k w
unfolding word_bytes
parts_bytes zero k v w h =
    let z : 0 + k ≡ k = omega arith in
    let o : v < 1 = rw (pow-zero 256) at h in
    let e : v + 256 ^ 0 * w ≡ w = rw (pow-zero 256) (omega arith) in
    rw (z, e) refl
parts_bytes (suc j) k v w h =
    let z : suc j + k ≡ suc (j + k) = omega arith in
    let l : v < 256 ^ j * 256 = rw (pow-suc 256 j) at h in
    let p : 256 ^ suc j * w ≡ 256 * (256 ^ j * w) = ap (λ (n : ℕ). n * w) (pow-suc 256 j ∙ mul_comm (256 ^ j) 256) ∙ mul_assoc 256 (256 ^ j) w in
    let d : (v + 256 ^ suc j * w) / 256 ≡ v / 256 + 256 ^ j * w = omega (arith, p) in
    let m : (v + 256 ^ suc j * w) % 256 ≡ v % 256 = omega (arith, p) in
    rw z (ap₂ (λ (b : ℕ) (t : List ℕ). b ∷ t) m (ap (word_bytes (j + k)) d ∙ parts_bytes j k (v / 256) w (omega arith)))

-- a name of four to eight bytes, by its first four and its last four
pub by_halves : (s : List ℕ) → Bytes s → 4 ≤ length s → length s ≤ 8 → printable (word_bytes 8 (word_at 4 s 0 + 0x1_0000_0000 * word_at 4 s (length s - 4))) ≡ printable s
by_halves s b l u =
    ap printable (parts_bytes 4 4 (word_at 4 s 0) (word_at 4 s (length s - 4)) (bounded 4 0 s b))
    ∙ (sym (printable_append (word_bytes 4 (word_at 4 s 0)) (word_bytes 4 (word_at 4 s (length s - 4))))
    ∙ (ap₂ ◌&&◌ (word_bytes_lem 4 0 s b (omega arith)) (end_word 4 (length s - 4) s b (omega arith)) ∙ go (printable (take 4 s)) refl))
  where
    go : (t : Bool) → printable (take 4 s) ≡ t → (t && printable (drop (length s - 4) s)) ≡ printable s
    go true e = overlap 4 (length s - 4) s (omega arith) e
    go false e = start_wrong 4 s e
