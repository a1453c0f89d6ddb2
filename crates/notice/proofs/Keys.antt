-- The keys of names: how they are read, and that they order names. Assumes nothing.
use Rattle.std.proofs.Common.{◌≡◌, ℕ, zero, suc, ◌+◌, ◌-◌, ◌*◌, ◌/◌, ◌%◌, ◌^◌, ◌<◌, ◌≤◌, Bool, true, false, cond, ◌&&◌, ltb, leb, List, [], ◌∷◌, length, get_or, take, drop, sym, refl, ap, ◌∙◌, ap₂, mod-eq_of_lt, arith, drop_of_length-le, length-take, get_or-drop, take_all, drop-cons, drop-drop, take-add, ltb-false, ltb-true, eq-eqb, ne_eqb, leb-true}
use mathlib.Core.Bool.{and_comm, and-true}
use native.Mathlib.Nat.{add-mul-mod_self_right, min-le_left}
use Rattle.word.specs.Word.{word_bytes, Bytes}
use Rattle.octets.specs.Octets.{before_of, lead}
use Rattle.octets.proofs.Theorems.{and_parts}
use Rattle.octets.proofs.Leads.{same_first, lead_less, lead_nil, lead_from, lead_parts, lead_take, lead_short}
use Rattle.notice.specs.Field.{printable, name_right, field_right}
use Rattle.notice.specs.Layout.{name_size_at, name_at, field_at, lies_at, right_at, stands_at}
use Rattle.notice.specs.Key.{key_of, right_key, key_at, last_name_at, Last}
use Rattle.notice.proofs.Words.{two_power}
use Rattle.notice.proofs.Names.{printable_append, by_bytes}
use Rattle.notice.proofs.Places.{length_name, right_lies, right_name}

-- parts of a slice of bytes
pub bytes_take : (n : ℕ) (s : List ℕ) → Bytes s → Bytes (take n s)
bytes_take zero s b i = omega arith
bytes_take (suc n) [] b i = omega arith
bytes_take (suc n) (x ∷ s) b zero = b 0
bytes_take (suc n) (x ∷ s) b (suc i) = bytes_take n s (λ j. b (suc j)) i

pub bytes_drop : (n : ℕ) (s : List ℕ) → Bytes s → Bytes (drop n s)
bytes_drop n s b i = rw (get_or-drop n s i 0) (b (n + i))

key_empty : 0 ≡ key_of []
unfolding lead
key_empty = refl

-- names by their keys
pub printable_bytes : (s : List ℕ) → printable s ≡ true → Bytes s
printable_bytes [] e i = omega arith
printable_bytes (b ∷ s) e zero =
    let p = and_parts (leb 32 b && leb b 126) (printable s) e in
    let u : b ≤ 126 = leb-true b 126 (and_parts (leb 32 b) (leb b 126) p.0).1 in
    omega arith
printable_bytes (b ∷ s) e (suc i) = printable_bytes s (and_parts (leb 32 b && leb b 126) (printable s) e).1 i

head_high : (b : ℕ) (s : List ℕ) → printable (b ∷ s) ≡ true → 32 ≤ b
head_high b s e = leb-true 32 b (and_parts (leb 32 b) (leb b 126) (and_parts (leb 32 b && leb b 126) (printable s) e).0).0

-- no name has the key of none
key_some : (s : List ℕ) → printable s ≡ true → 1 ≤ length s → key_of [] < key_of s
unfolding lead
key_some [] p h = absurd (omega arith)
key_some (b ∷ s) p h =
    let l = head_high b s p in
    lead_less 7 (0 * 256) (0 * 256 + b) [] s (λ i. omega arith) (omega arith)

-- what the numbers say of the strings, after equal starts that stand for v
pub less_before : (k v : ℕ) (s t : List ℕ) → printable s ≡ true → printable t ≡ true → lead k v s < lead k v t → true ≡ before_of s t
unfolding lead
less_before zero v s t p q h = absurd (omega arith)
less_before (suc k) v [] [] p q h = absurd (omega arith)
less_before (suc k) v [] (b ∷ t) p q h = refl
less_before (suc k) v (a ∷ s) [] p q h =
    let l = head_high a s p in
    let m = lead_less k (v * 256) (v * 256 + a) [] s (λ i. omega arith) (omega arith) in
    absurd (omega arith)
less_before (suc k) v (a ∷ s) (b ∷ t) p q h = go (ltb a b) (ltb b a) refl refl (less_before k (v * 256 + b) s t (and_parts (leb 32 a && leb a 126) (printable s) p).1 (and_parts (leb 32 b && leb b 126) (printable t) q).1)
  where
    go : (x y : Bool) → ltb a b ≡ x → ltb b a ≡ y → (lead k (v * 256 + b) s < lead k (v * 256 + b) t → true ≡ before_of s t) → true ≡ before_of (a ∷ s) (b ∷ t)
    go true y e f ih = rw e
    go false true e f ih =
        let l : b < a = ltb-true b a f in
        let m = lead_less k (v * 256 + b) (v * 256 + a) t s (λ i. printable_bytes (b ∷ t) q (suc i)) (omega arith) in
        absurd (omega arith)
    go false false e f ih =
        let z : a ≡ b = omega (arith, ltb-false a b e, ltb-false b a f) in
        let g : lead k (v * 256 + b) s < lead k (v * 256 + b) t = rw z at h in
        ih g ∙ sym (same_first a b s t z)

less_after : (k v : ℕ) (s t : List ℕ) → printable s ≡ true → printable t ≡ true → lead k v t < lead k v s → false ≡ before_of s t
unfolding lead
less_after zero v s t p q h = absurd (omega arith)
less_after (suc k) v [] [] p q h = refl
less_after (suc k) v (a ∷ s) [] p q h = refl
less_after (suc k) v [] (b ∷ t) p q h =
    let l = head_high b t q in
    let m = lead_less k (v * 256) (v * 256 + b) [] t (λ i. omega arith) (omega arith) in
    absurd (omega arith)
less_after (suc k) v (a ∷ s) (b ∷ t) p q h = go (ltb a b) (ltb b a) refl refl (less_after k (v * 256 + b) s t (and_parts (leb 32 a && leb a 126) (printable s) p).1 (and_parts (leb 32 b && leb b 126) (printable t) q).1)
  where
    go : (x y : Bool) → ltb a b ≡ x → ltb b a ≡ y → (lead k (v * 256 + b) t < lead k (v * 256 + b) s → false ≡ before_of s t) → false ≡ before_of (a ∷ s) (b ∷ t)
    go true y e f ih =
        let l : a < b = ltb-true a b e in
        let m = lead_less k (v * 256 + a) (v * 256 + b) s t (λ i. printable_bytes (a ∷ s) p (suc i)) (omega arith) in
        absurd (omega arith)
    go false true e f ih = let l : b < a = ltb-true b a f in rw (e, ne_eqb a b (λ z. omega arith))
    go false false e f ih =
        let z : a ≡ b = omega (arith, ltb-false a b e, ltb-false b a f) in
        let g : lead k (v * 256 + b) t < lead k (v * 256 + b) s = rw z at h in
        ih g ∙ sym (same_first a b s t z)

-- m bytes, and n of a name after them: the shift by m bytes leaves the key of the n
shifted : (m n : ℕ) (s : List ℕ) → Bytes s → m + n ≡ 8 → (key_of s * 2 ^ (m * 8)) % 2 ^ 64 ≡ key_of (take n (drop m s))
shifted m n s b z =
    let u = drop m s in
    let w = lead m 0 s in
    let y : n + m ≡ 8 = omega arith in
    let e1 : key_of s ≡ lead n w u = ap (λ (k : ℕ). lead k 0 s) (sym z) ∙ lead_parts m n 0 s in
    let e2 : key_of s * 2 ^ (m * 8) ≡ lead m (lead n w u) [] = ap₂ ◌*◌ e1 (two_power m) ∙ sym (lead_nil m (lead n w u)) in
    let l : length (take n u) ≤ n = rw (length-take n u) (min-le_left n (length u)) in
    let e3 : lead m (lead n w u) [] ≡ lead m (lead n w (take n u)) (drop n (take n u)) = ap₂ (lead m) (sym (lead_take n n w u (omega arith))) (sym (drop_of_length-le (take n u) l)) in
    let e4 : lead m (lead n w (take n u)) (drop n (take n u)) ≡ lead 8 w (take n u) = sym (lead_parts n m w (take n u)) ∙ ap (λ (k : ℕ). lead k w (take n u)) y in
    let e5 : lead 8 w (take n u) ≡ key_of (take n u) + w * 2 ^ 64 = lead_from 8 w (take n u) ∙ omega arith in
    ap (λ (x : ℕ). x % 2 ^ 64) (e2 ∙ e3 ∙ e4 ∙ e5) ∙ add-mul-mod_self_right (key_of (take n u)) w (2 ^ 64) ∙ mod-eq_of_lt (lead_short 8 (take n u) (bytes_take n u (bytes_drop m s b)))

pub key_read : (n at : ℕ) (s : List ℕ) → Bytes s → n ≤ 8 → 8 ≤ at + n → (key_of (drop (at + n - 8) s) * 2 ^ ((8 - n) * 8)) % 2 ^ 64 ≡ key_of (take n (drop at s))
key_read n at s b u h =
    let e : at + n - 8 + (8 - n) ≡ at = omega arith in
    shifted (8 - n) n (drop (at + n - 8) s) (bytes_drop (at + n - 8) s b) (omega arith) ∙ ap (λ (t : List ℕ). key_of (take n t)) (drop-drop (8 - n) (at + n - 8) s ∙ ap (λ (k : ℕ). drop k s) e)

pub key_start : (n at : ℕ) (s : List ℕ) → 8 ≤ n → key_of (drop at s) ≡ key_of (take n (drop at s))
key_start n at s h = sym (lead_take 8 n 0 (drop at s) h)

-- the bytes of a number are those that it was read from, the last one first
lead_bytes : (j : ℕ) (s : List ℕ) → Bytes s → j ≤ length s → printable (word_bytes j (lead j 0 s)) ≡ printable (take j s)
unfolding lead word_bytes
lead_bytes zero s b h = refl
lead_bytes (suc j) s b h =
    let x = get_or s j 0 in
    let v = lead j 0 s in
    let l = b j in
    let z : suc j ≡ j + 1 = omega arith in
    let d : drop j s ≡ x ∷ drop (suc j) s = drop-cons s j 0 (omega arith) in
    let e : lead (suc j) 0 s ≡ v * 256 + x = ap (λ (k : ℕ). lead k 0 s) z ∙ (lead_parts j 1 0 s ∙ ap (lead 1 v) d) in
    let p : printable (take 1 (drop j s)) ≡ (leb 32 x && leb x 126) = ap (λ (t : List ℕ). printable (take 1 t)) d ∙ and-true (leb 32 x && leb x 126) in
    let w : printable (take (suc j) s) ≡ (printable (take j s) && (leb 32 x && leb x 126)) =
    ap (λ (k : ℕ). printable (take k s)) z ∙ (ap printable (take-add j 1 s) ∙ (sym (printable_append (take j s) (take 1 (drop j s))) ∙ ap (λ (t : Bool). printable (take j s) && t) p)) in
    let q : (v * 256 + x) % 256 ≡ x = omega arith in
    let r : (v * 256 + x) / 256 ≡ v = omega arith in
    rw (e, q, r) (ap (λ (t : Bool). (leb 32 x && leb x 126) && t) (lead_bytes j s b (omega arith)) ∙ (and_comm (leb 32 x && leb x 126) (printable (take j s)) ∙ sym w))

-- what `word_right` tells of the key of a name of at most eight bytes
pub short_word : (n : ℕ) (s : List ℕ) (x : ℕ) (r : Bool) → Bytes s → length s ≡ n → n ≤ 8 → x ≡ key_of s
    → ((y : ℕ) → x ≡ y * 256 ^ (8 - n) → y < 256 ^ (8 - (8 - n)) → r ≡ printable (word_bytes (8 - (8 - n)) y)) → r ≡ printable s
short_word n s x r b l u e f =
    let z : 8 - (8 - n) ≡ n = omega arith in
    let o : 8 ≡ n + (8 - n) = omega arith in
    let y = lead n 0 s in
    let q : length s ≤ n = omega arith in
    let p : key_of s ≡ y * 256 ^ (8 - n) = ap (λ (k : ℕ). lead k 0 s) o ∙ (lead_parts n (8 - n) 0 s ∙ (ap (lead (8 - n) y) (drop_of_length-le s q) ∙ lead_nil (8 - n) y)) in
    let g : y < 256 ^ (8 - (8 - n)) = rw z (lead_short n s b) in
    f y (e ∙ p) g ∙ (ap (λ (k : ℕ). printable (word_bytes k y)) z ∙ (lead_bytes n s b (omega arith) ∙ ap printable (take_all n s (omega arith))))

-- ---- the keys of right names, and 0 of all else
module _ (s : List ℕ) where
  pub right_key_lem : (k : ℕ) → (length s ≡ 0 → ⊥) → length s ≤ 64 → printable s ≡ true → k ≡ key_of s → k ≡ right_key s
  right_key_lem k z h p e = e ∙ ap (λ (t : Bool). cond t (key_of s) 0) (sym p ∙ by_bytes s z h)

  pub wrong_key : false ≡ name_right s → 0 ≡ right_key s
  wrong_key e = ap (λ (t : Bool). cond t (key_of s) 0) e

module _ (s : List ℕ) (at : ℕ) where
  pub key_here : right_at s at ≡ true → key_at s at ≡ key_of (name_at s at)
  key_here e = ap (λ (t : Bool). cond t (key_of (name_at s at)) 0) e

  pub no_key_here : false ≡ right_at s at → 0 ≡ key_at s at
  no_key_here e = ap (λ (t : Bool). cond t (key_of (name_at s at)) 0) e

  pub key_named : name_right (name_at s at) ≡ right_at s at → right_key (name_at s at) ≡ key_at s at
  key_named e = ap (λ (t : Bool). cond t (key_of (name_at s at)) 0) e

  pub some_key : (key : ℕ) → key ≡ key_at s at → 0 < key → right_at s at ≡ true
  some_key key e h = go (right_at s at) refl
    where
      go : (t : Bool) → right_at s at ≡ t → t ≡ true
      go true p = refl
      go false p = absurd (omega (arith, h, e, no_key_here (sym p)))

  pub no_key : (key : ℕ) → key ≡ key_at s at → key ≡ 0 → right_at s at ≡ false
  no_key key e h = go (right_at s at) refl
    where
      go : (t : Bool) → right_at s at ≡ t → t ≡ false
      go true p =
          let n = right_name s at p in
          let k = key_some (name_at s at) n.1 (omega (arith, length_name s at (right_lies s at p), n.0)) in
          absurd (omega (arith, h, e, key_here p, k))
      go false p = refl

-- the last field's name, and that there is one where a key does not rise
pub last_name : (s : List ℕ) (last : ℕ) → (last ≡ 0 → ⊥) → last_name_at s last ≡ name_at s last
last_name s last f = rw (ne_eqb last 0 f)

pub some_last : (s : List ℕ) (last at last-key key : ℕ) → Last s last last-key → right_at s at ≡ true → key ≡ key_of (name_at s at) → key ≤ last-key → last ≡ 0 → ⊥
some_last s last at last-key key l r e h z =
    let n = right_name s at r in
    let m : length (name_at s at) ≡ name_size_at s at = length_name s at (right_lies s at r) in
    let k = key_some (name_at s at) n.1 (omega (arith, m, n.0)) in
    let y : last_name_at s last ≡ [] = rw (eq-eqb last 0 z) in
    let f : last-key ≡ key_of [] = l.key_is ∙ ap key_of y in
    omega (arith, k, f, e, h)

-- a key below the last one: no right field, or one whose name is not after the last
pub not_after : (s : List ℕ) (last at last-key key : ℕ) → Last s last last-key → key ≡ key_at s at → key < last-key → false ≡ stands_at (last_name_at s last) s at
not_after s last at last-key key l e h = go (right_at s at) refl
  where
    go : (t : Bool) → right_at s at ≡ t → false ≡ (t && before_of (last_name_at s last) (name_at s at))
    go true p = less_after 8 0 (last_name_at s last) (name_at s at) l.right (right_name s at p).1 (omega (arith, l.key_is, e, key_here s at p, h))
    go false p = refl

-- a right field is the last one of the next turn; before the first turn there is none
pub now_last : (s : List ℕ) (at key : ℕ) → (at ≡ 0 → ⊥) → right_at s at ≡ true → key ≡ key_of (name_at s at) → Last s at key
now_last s at key f r e = record {
  lies = λ g. (and_parts (lies_at s at) (field_right (field_at s at)) r).0;
  right = ap printable (last_name s at f) ∙ (right_name s at r).1;
  key_is = e ∙ ap key_of (sym (last_name s at f));
}

pub none_last : (s : List ℕ) → Last s 0 0
none_last s = record { lies = λ f. absurd (f refl); right = refl; key_is = key_empty }
