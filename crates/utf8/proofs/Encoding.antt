-- One character: its bytes, and the string that begins with them. Assumes nothing.
use Prim.Native.Nat.{ℕ, ◌+◌, ◌-◌, ◌*◌, ◌/◌, ◌%◌, ◌<◌, ◌≤◌}
use Prim.{tt}
use mathlib.Core.Path.{◌≡◌, refl, sym, ap, ◌∙◌}
use mathlib.Core.Logic.{◌⊎◌, inl, inr}
use mathlib.Core.Bool.{Bool, true, false, cond, ◌&&◌, ◌||◌, or-true}
use mathlib.Core.List.{List, [], ◌∷◌, ◌++◌, append-nil}
use native.Mathlib.Omega.{arith}
use lib.Dec.{leb, ltb}
use lib.ListN.{length, length-append, get_or, take, drop}
use lib.Seq.{take-append_seam, drop-append_seam}
use borrow.Author.Tests.{lt-ltb, le-ltb, le-leb, ltb-true, ltb-false, leb-true}
use Rattle.octets.proofs.Theorems.{and_parts, or_parts}
use Rattle.utf8.specs.Utf8.{Scalar, continuation, encode}
use Rattle.utf8.specs.Scan.{is_continuation, first_two, is_two, is_three, is_four, width_at, Begins}

-- the rows of the table
pub data Form (c : ℕ) : Type 0 where
  form1 : c < 128 → encode c ≡ c ∷ [] → Form c
  form2 : 128 ≤ c → c < 2048 → encode c ≡ (192 + c / 64) ∷ (continuation c ∷ []) → Form c
  form3 : 2048 ≤ c → c < 65536 → encode c ≡ (224 + c / 4096) ∷ (continuation (c / 64) ∷ (continuation c ∷ [])) → Form c
  form4 : 65536 ≤ c → encode c ≡ (240 + c / 262144) ∷ (continuation (c / 4096) ∷ (continuation (c / 64) ∷ (continuation c ∷ []))) → Form c

pub form : (c : ℕ) → Form c
form c = go (ltb c 128) (ltb c 2048) (ltb c 65536) refl refl refl
  where
    go : (x y z : Bool) → ltb c 128 ≡ x → ltb c 2048 ≡ y → ltb c 65536 ≡ z → Form c
    go true y z p q r = form1 (ltb-true _ _ p) (rw p)
    go false true z p q r = form2 (ltb-false _ _ p) (ltb-true _ _ q) (rw (p, q))
    go false false true p q r = form3 (ltb-false _ _ q) (ltb-true _ _ r) (rw (p, q, r))
    go false false false p q r = form4 (ltb-false _ _ r) (rw (p, q, r))

pub encode_some : (c : ℕ) → 0 < length (encode c)
encode_some c = go (form c)
  where
    go : Form c → 0 < length (encode c)
    go (form1 p e) = rw e (omega arith)
    go (form2 p q e) = rw e (omega arith)
    go (form3 p q e) = rw e (omega arith)
    go (form4 p e) = rw e (omega arith)

-- continuation bytes
continues : (c : ℕ) → is_continuation (continuation c) ≡ true
continues c = rw (le-leb 128 (continuation c) (omega arith), lt-ltb (continuation c) 192 (omega arith))

continuation_range : (c : ℕ) → is_continuation c ≡ true → (128 ≤ c) × (c < 192)
continuation_range c e = let q = and_parts (leb 128 c) (ltb c 192) e in (leb-true _ _ q.0, ltb-true _ _ q.1)

-- the first two bytes: x and y are the bits in them, a those bits as one number
three_low : (a x y : ℕ) → a ≡ x * 64 + y → y < 64 → 32 ≤ a → 0xE0A0 ≤ first_two (224 + x) (128 + y)
three_low a x y e h p = omega arith

three_sides : (a x y : ℕ) → a ≡ x * 64 + y → y < 64 → (a < 864) ⊎ (896 ≤ a) → (ltb (first_two (224 + x) (128 + y)) 0xEDA0 || leb 0xEE00 (first_two (224 + x) (128 + y))) ≡ true
three_sides a x y e h (inl p) = rw (lt-ltb (first_two (224 + x) (128 + y)) 0xEDA0 (omega arith))
three_sides a x y e h (inr p) = rw (le-leb 0xEE00 (first_two (224 + x) (128 + y)) (omega arith)) (or-true (ltb (first_two (224 + x) (128 + y)) 0xEDA0))

four_low : (a x y : ℕ) → a ≡ x * 64 + y → y < 64 → 16 ≤ a → 0xF090 ≤ first_two (240 + x) (128 + y)
four_low a x y e h p = omega arith

four_high : (a x y : ℕ) → a ≡ x * 64 + y → y < 64 → a < 272 → first_two (240 + x) (128 + y) < 0xF490
four_high a x y e h p = omega arith

abbrev pub width_of : List ℕ → ℕ
width_of z = width_at z 0

-- what a character's encoding begins has its width
pub width_of_lem : (c : ℕ) (t : List ℕ) → Scalar c → width_of (encode c ++ t) ≡ length (encode c)
width_of_lem c t h = go (form c) h.1
  where
    sides : (c < 55296) ⊎ (57344 ≤ c) → (c / 64 < 864) ⊎ (896 ≤ c / 64)
    sides (inl g) = inl (omega arith)
    sides (inr g) = inr (omega arith)

    go : Form c → (c < 55296) ⊎ (57344 ≤ c) → width_of (encode c ++ t) ≡ length (encode c)
    go (form1 p e) g = rw (e, lt-ltb c 128 p)
    go (form2 p q e) g =
        rw (e, le-ltb (192 + c / 64) 128 (omega arith), lt-ltb (192 + c / 64) 224 (omega arith), le-leb 194 (192 + c / 64) (omega arith), continues c)
    go (form3 p q e) g =
        let s : c / 64 ≡ (c / 4096) * 64 + (c / 64) % 64 = omega arith in
        let r : (c / 64) % 64 < 64 = omega arith in
        let v = le-leb 0xE0A0 (first_two (224 + c / 4096) (continuation (c / 64))) (three_low (c / 64) (c / 4096) ((c / 64) % 64) s r (omega arith)) in
        let w = three_sides (c / 64) (c / 4096) ((c / 64) % 64) s r (sides g) in
        rw (e, le-ltb (224 + c / 4096) 128 (omega arith), le-ltb (224 + c / 4096) 224 (omega arith), lt-ltb (224 + c / 4096) 240 (omega arith), continues (c / 64), continues c, v, w)
    go (form4 p e) g =
        let s : c / 4096 ≡ (c / 262144) * 64 + (c / 4096) % 64 = omega arith in
        let r : (c / 4096) % 64 < 64 = omega arith in
        let top = h.0 in
        let v = le-leb 0xF090 (first_two (240 + c / 262144) (continuation (c / 4096))) (four_low (c / 4096) (c / 262144) ((c / 4096) % 64) s r (omega arith)) in
        let w = lt-ltb (first_two (240 + c / 262144) (continuation (c / 4096))) 0xF490 (four_high (c / 4096) (c / 262144) ((c / 4096) % 64) s r (omega arith)) in
        rw (e, le-ltb (240 + c / 262144) 128 (omega arith), le-ltb (240 + c / 262144) 224 (omega arith), le-ltb (240 + c / 262144) 240 (omega arith), continues (c / 4096), continues (c / 64), continues c, v, w)

-- the numbers that two, three and four bytes hold
abbrev two : ℕ → ℕ → ℕ
two b c = (b - 192) * 64 + (c - 128)

abbrev three : ℕ → ℕ → ℕ → ℕ
three b c d = (b - 224) * 4096 + (c - 128) * 64 + (d - 128)

abbrev four : ℕ → ℕ → ℕ → ℕ → ℕ
four b c d e = (b - 240) * 262144 + (c - 128) * 4096 + (d - 128) * 64 + (e - 128)

encode2 : (v : ℕ) → 128 ≤ v → v < 2048 → encode v ≡ (192 + v / 64) ∷ (continuation v ∷ [])
encode2 v p q = rw (le-ltb v 128 p, lt-ltb v 2048 q)

encode3 : (v : ℕ) → 2048 ≤ v → v < 65536 → encode v ≡ (224 + v / 4096) ∷ (continuation (v / 64) ∷ (continuation v ∷ []))
encode3 v p q = rw (le-ltb v 128 (omega arith), le-ltb v 2048 p, lt-ltb v 65536 q)

encode4 : (v : ℕ) → 65536 ≤ v → encode v ≡ (240 + v / 262144) ∷ (continuation (v / 4096) ∷ (continuation (v / 64) ∷ (continuation v ∷ [])))
encode4 v p = rw (le-ltb v 128 (omega arith), le-ltb v 2048 (omega arith), le-ltb v 65536 p)

-- the last six bits of a number, and those before them
last_bits : (v a z : ℕ) → v ≡ a * 64 + z → z < 64 → (v / 64 ≡ a) × (v % 64 ≡ z)
last_bits v a z e h = (omega arith, omega arith)

-- a string that begins with the bytes of the character v
begun : (v : ℕ) (x r : List ℕ) → Scalar v → encode v ≡ x → 0 < length x → Begins (x ++ r) (length x) 1
begun v x r h e p =
    record {
      cs = v ∷ [];
      scalars = (h, tt);
      bytes = rw (e, append-nil x, drop-append_seam x r);
      many = refl;
      some = p;
      fits = simp length-append (omega arith);
      few = p;
    }

two_facts : (b c : ℕ) → is_two b c ≡ true → (194 ≤ b) × (128 ≤ c) × (c < 192)
two_facts b c e =
    let p = and_parts (leb 194 b) (is_continuation c) e in
    let q = continuation_range c p.1 in
    (leb-true _ _ p.0, q.0, q.1)

two_char : (b : ℕ) (r : List ℕ) → b < 224 → is_two b (get_or r 0 0) ≡ true → Begins (b ∷ r) 2 1
two_char b [] h e = let f = two_facts b 0 e in absurd (omega arith)
two_char b (c ∷ r) h e =
    let f = two_facts b c e in
    let v = two b c in
    let x : 192 + v / 64 ≡ b = omega arith in
    let y : continuation v ≡ c = omega arith in
    begun v (b ∷ (c ∷ [])) r (omega arith, inl (omega arith)) (encode2 v (omega arith) (omega arith) ∙ cc (x, y)) (omega arith)

three_facts : (b c d : ℕ) → is_three b c d ≡ true
    → (128 ≤ c) × (c < 192) × (128 ≤ d) × (d < 192) × (0xE0A0 ≤ first_two b c) × ((first_two b c < 0xEDA0) ⊎ (0xEE00 ≤ first_two b c))
three_facts b c d e =
    let n = first_two b c in
    let p = and_parts (is_continuation c && is_continuation d) (leb 0xE0A0 n && (ltb n 0xEDA0 || leb 0xEE00 n)) e in
    let q = and_parts (is_continuation c) (is_continuation d) p.0 in
    let f = continuation_range c q.0 in
    let g = continuation_range d q.1 in
    let r = and_parts (leb 0xE0A0 n) (ltb n 0xEDA0 || leb 0xEE00 n) p.1 in
    (f.0, f.1, g.0, g.1, leb-true _ _ r.0, side (or_parts (ltb n 0xEDA0) (leb 0xEE00 n) r.1))
  where
    side : (ltb (first_two b c) 0xEDA0 ≡ true) ⊎ (leb 0xEE00 (first_two b c) ≡ true) → (first_two b c < 0xEDA0) ⊎ (0xEE00 ≤ first_two b c)
    side (inl a) = inl (ltb-true _ _ a)
    side (inr a) = inr (leb-true _ _ a)

three_char : (b : ℕ) (r : List ℕ) → 224 ≤ b → b < 240 → is_three b (get_or r 0 0) (get_or r 1 0) ≡ true → Begins (b ∷ r) 3 1
three_char b [] g h e = let f = three_facts b 0 0 e in absurd (omega arith)
three_char b (c ∷ []) g h e = let f = three_facts b c 0 e in absurd (omega arith)
three_char b (c ∷ (d ∷ r)) g h e =
    let f = three_facts b c d e in
    let v = three b c d in
    let i = last_bits v ((b - 224) * 64 + (c - 128)) (d - 128) (omega arith) (omega arith) in
    let j = last_bits ((b - 224) * 64 + (c - 128)) (b - 224) (c - 128) refl (omega arith) in
    let w : (v / 64) % 64 ≡ c - 128 = cc (i.0, j.1) in
    let x : 224 + v / 4096 ≡ b = omega (arith, i.0, j.0) in
    let y : continuation (v / 64) ≡ c = omega (arith, w) in
    let z : continuation v ≡ d = omega (arith, i.1) in
    begun v (b ∷ (c ∷ (d ∷ []))) r (omega arith, side f.0 f.1 f.2 f.3 f.5) (encode3 v (omega arith) (omega arith) ∙ cc (x, y, z)) (omega arith)
  where
    side : 128 ≤ c → c < 192 → 128 ≤ d → d < 192 → (first_two b c < 0xEDA0) ⊎ (0xEE00 ≤ first_two b c) → (three b c d < 55296) ⊎ (57344 ≤ three b c d)
    side p q s t (inl a) = inl (omega arith)
    side p q s t (inr a) = inr (omega arith)

four_facts : (b c d e : ℕ) → is_four b c d e ≡ true
    → (128 ≤ c) × (c < 192) × (128 ≤ d) × (d < 192) × (128 ≤ e) × (e < 192) × (0xF090 ≤ first_two b c) × (first_two b c < 0xF490)
four_facts b c d e h =
    let n = first_two b c in
    let p = and_parts (is_continuation c && (is_continuation d && is_continuation e)) (leb 0xF090 n && ltb n 0xF490) h in
    let q = and_parts (is_continuation c) (is_continuation d && is_continuation e) p.0 in
    let q2 = and_parts (is_continuation d) (is_continuation e) q.1 in
    let f = continuation_range c q.0 in
    let g = continuation_range d q2.0 in
    let k = continuation_range e q2.1 in
    let r = and_parts (leb 0xF090 n) (ltb n 0xF490) p.1 in
    (f.0, f.1, g.0, g.1, k.0, k.1, leb-true _ _ r.0, ltb-true _ _ r.1)

four_char : (b : ℕ) (r : List ℕ) → 240 ≤ b → is_four b (get_or r 0 0) (get_or r 1 0) (get_or r 2 0) ≡ true → Begins (b ∷ r) 4 1
four_char b [] g e = let f = four_facts b 0 0 0 e in absurd (omega arith)
four_char b (c ∷ []) g e = let f = four_facts b c 0 0 e in absurd (omega arith)
four_char b (c ∷ (d ∷ [])) g e = let f = four_facts b c d 0 e in absurd (omega arith)
four_char b (c ∷ (d ∷ (x ∷ r))) g e =
    let f = four_facts b c d x e in
    let v = four b c d x in
    let m = (b - 240) * 64 + (c - 128) in
    let i = last_bits v (m * 64 + (d - 128)) (x - 128) (omega arith) (omega arith) in
    let j = last_bits (m * 64 + (d - 128)) m (d - 128) refl (omega arith) in
    let k = last_bits m (b - 240) (c - 128) refl (omega arith) in
    let n : v / 4096 ≡ m = omega (arith, i.0, j.0) in
    let s : (v / 64) % 64 ≡ d - 128 = cc (i.0, j.1) in
    let t : (v / 4096) % 64 ≡ c - 128 = cc (n, k.1) in
    let p : 240 + v / 262144 ≡ b = omega (arith, n, k.0) in
    let q : continuation (v / 4096) ≡ c = omega (arith, t) in
    let y : continuation (v / 64) ≡ d = omega (arith, s) in
    let z : continuation v ≡ x = omega (arith, i.1) in
    begun v (b ∷ (c ∷ (d ∷ (x ∷ [])))) r (omega arith, inr (omega arith)) (encode4 v (omega arith) ∙ cc (p, q, y, z)) (omega arith)

-- the width is that of a character
pub char : (z : List ℕ) → 0 < length z → (width_of z ≡ 0 → ⊥) → Begins z (width_of z) 1
char [] h n = absurd (omega arith)
char (b ∷ r) h n = go (ltb b 128) (ltb b 224) (ltb b 240) refl refl refl
  where
    in2 : (t : Bool) → is_two b (get_or r 0 0) ≡ t → ltb b 128 ≡ false → ltb b 224 ≡ true → Begins (b ∷ r) (width_of (b ∷ r)) 1
    in2 true e p q = rw (p, q, e) (two_char b r (ltb-true _ _ q) e)
    in2 false e p q = absurd (n (rw (p, q, e)))

    in3 : (t : Bool) → is_three b (get_or r 0 0) (get_or r 1 0) ≡ t → ltb b 128 ≡ false → ltb b 224 ≡ false → ltb b 240 ≡ true → Begins (b ∷ r) (width_of (b ∷ r)) 1
    in3 true e p q s = rw (p, q, s, e) (three_char b r (ltb-false _ _ q) (ltb-true _ _ s) e)
    in3 false e p q s = absurd (n (rw (p, q, s, e)))

    in4 : (t : Bool) → is_four b (get_or r 0 0) (get_or r 1 0) (get_or r 2 0) ≡ t → ltb b 128 ≡ false → ltb b 224 ≡ false → ltb b 240 ≡ false → Begins (b ∷ r) (width_of (b ∷ r)) 1
    in4 true e p q s = rw (p, q, s, e) (four_char b r (ltb-false _ _ s) e)
    in4 false e p q s = absurd (n (rw (p, q, s, e)))

    go : (x y w : Bool) → ltb b 128 ≡ x → ltb b 224 ≡ y → ltb b 240 ≡ w → Begins (b ∷ r) (width_of (b ∷ r)) 1
    go true y w p q s = rw p (begun b (b ∷ []) r (let f = ltb-true b 128 p in omega arith, let f = ltb-true b 128 p in inl (omega arith)) (rw p) (omega arith))
    go false true w p q s = in2 (is_two b (get_or r 0 0)) refl p q
    go false false true p q s = in3 (is_three b (get_or r 0 0) (get_or r 1 0)) refl p q s
    go false false false p q s = in4 (is_four b (get_or r 0 0) (get_or r 1 0) (get_or r 2 0)) refl p q s

-- no character has more than four bytes
pub width_most : (z : List ℕ) → width_of z ≤ 4
width_most z = go (ltb (get_or z 0 0) 128) (ltb (get_or z 0 0) 224) (ltb (get_or z 0 0) 240) (is_two (get_or z 0 0) (get_or z 1 0)) (is_three (get_or z 0 0) (get_or z 1 0) (get_or z 2 0)) (is_four (get_or z 0 0) (get_or z 1 0) (get_or z 2 0) (get_or z 3 0))
  where
    go : (x y w t u v : Bool) → cond x 1 (cond y (cond t 2 0) (cond w (cond u 3 0) (cond v 4 0))) ≤ 4
    go true y w t u v = omega arith
    go false true w true u v = omega arith
    go false true w false u v = omega arith
    go false false true t true v = omega arith
    go false false true t false v = omega arith
    go false false false t u true = omega arith
    go false false false t u false = omega arith

-- a character from its bytes
decode : List ℕ → ℕ
decode [] = 0
decode (b ∷ []) = b
decode (b ∷ (c ∷ [])) = two b c
decode (b ∷ (c ∷ (d ∷ []))) = three b c d
decode (b ∷ (c ∷ (d ∷ (e ∷ r)))) = four b c d e

-- the number in four bytes, from its parts
join : (c a b d x y z : ℕ) → c ≡ a * 64 + x → a ≡ b * 64 + y → b ≡ d * 64 + z → four (240 + d) (128 + z) (128 + y) (128 + x) ≡ c
join c a b d x y z p q r = omega arith

decoded : (c : ℕ) → decode (encode c) ≡ c
unfolding decode
decoded c = go (form c)
  where
    go : Form c → decode (encode c) ≡ c
    go (form1 p e) = rw e
    go (form2 p q e) = rw e (omega arith)
    go (form3 p q e) = rw e (omega arith)
    go (form4 p e) = rw e (join c (c / 64) (c / 4096) (c / 262144) (c % 64) ((c / 64) % 64) ((c / 4096) % 64) (omega arith) (omega arith) (omega arith))

-- no character's encoding begins another's
pub prefix_free : (c d : ℕ) (s t : List ℕ) → Scalar c → Scalar d → encode c ++ s ≡ encode d ++ t → (c ≡ d) × (s ≡ t)
prefix_free c d s t hc hd e =
    let w : length (encode c) ≡ length (encode d) = sym (width_of_lem c s hc) ∙ ap width_of e ∙ width_of_lem d t hd in
    let m : encode c ≡ encode d = sym (take-append_seam (encode c) s) ∙ ap (λ (l : List ℕ). take (length (encode c)) l) e ∙ ap (λ (n : ℕ). take n (encode d ++ t)) w ∙ take-append_seam (encode d) t in
    let r : s ≡ t = sym (drop-append_seam (encode c) s) ∙ ap (λ (l : List ℕ). drop (length (encode c)) l) e ∙ ap (λ (n : ℕ). drop n (encode d ++ t)) w ∙ drop-append_seam (encode d) t in
    (sym (decoded c) ∙ ap decode m ∙ decoded d, r)
