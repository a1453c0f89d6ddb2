-- Bytes that stand in a text, with escapes or without: which they are, how many, and the first of them. Assumes nothing.
use mathlib.Core.Path.{◌≡◌, refl, sym, ap, ap₂, ◌∙◌}
use mathlib.Core.Bool.{Bool, true, false, ◌&&◌, ◌||◌}
use mathlib.Core.List.{List, [], ◌∷◌, ◌++◌, append_assoc}
use mathlib.Core.Logic.{◌⊎◌, inl, inr}
use Prim.Native.Nat.{ℕ, zero, suc, ◌+◌, ◌-◌, ◌≤◌, ◌<◌}
use native.Mathlib.Decide.{dec_lt}
use native.Mathlib.Omega.{arith}
use native.Mathlib.Numerals.{add-one}
use borrow.Author.Tests.{lt-ltb, ltb-true, ltb-false, le-leb, lt-leb}
use lib.Dec.{eqb, leb, ltb}
use lib.ListN.{length, get_or, take, drop, length-append, length-drop, take-append-drop, drop_of_length-le}
use lib.Seq.{drop-cons, take_at, length-take-le}
use Rattle.word.proofs.Laws.{length_word_bytes}
use Rattle.octets.proofs.Places.{neither}
use Rattle.octets.proofs.Theorems.{or_parts}
use Rattle.notice.specs.Field.{printable, name_right}
use Rattle.notice.proofs.Names.{empty_wrong, long_wrong, by_bytes}
use Rattle.ubf.specs.Escape.{needs_escape, escape_of, escapes, unescapes_by, unescaped, bytes_in, byte_place}
use Rattle.ubf.specs.Scan.{part, Closes}
use Rattle.ubf.specs.Span.{PartIn, ValuePart, SpanIn, value_in, name_in}
use Rattle.ubf.specs.declared.spans.Span.{Span}

-- the first of the bytes from a place on, and those after it
pub record Head (text : List ℕ) (at x : ℕ) (xs : List ℕ) : Type 0 where
  pub inside : at < length text
  pub first : get_or text at 0 ≡ x
  pub rest : drop (suc at) text ≡ xs

pub head_at : (text : List ℕ) (at x : ℕ) (xs : List ℕ) → drop at text ≡ x ∷ xs → Head text at x xs
head_at text at x xs e = go (dec_lt at (length text))
  where
    go : Dec (at < length text) → Head text at x xs
    go (yes l) = let c = drop-cons text at 0 l in record { inside = l; first = cc; rest = cc }
    go (no l) =
        let c : drop at text ≡ [] = drop_of_length-le text {i = at} (omega arith) in
        let z : ◌≡◌ {A = ℕ} 0 1 = cc in
        absurd (omega arith)

-- ---- escapes

wide : (q b : ℕ) → needs_escape q b ≡ true → escape_of q b ≡ 92 ∷ b ∷ []
wide q b e = rw e

narrow : (q b : ℕ) → needs_escape q b ≡ false → escape_of q b ≡ b ∷ []
narrow q b e = rw e

-- a byte that needs no escape is no backslash
pub plain : (q b : ℕ) → needs_escape q b ≡ false → eqb b 92 ≡ false
plain q b e = go (eqb b q) e
  where
    go : (x : Bool) → (x || eqb b 92) ≡ false → eqb b 92 ≡ false
    go true f = let z : ◌≡◌ {A = ℕ} 0 1 = cc in absurd (omega arith)
    go false f = f

escape_one : (q b : ℕ) (rest : List ℕ) → unescaped (escape_of q b ++ rest) ≡ b ∷ unescaped rest
unfolding unescapes_by
escape_one q b rest = go (needs_escape q b) refl
  where
    go : (x : Bool) → needs_escape q b ≡ x → unescaped (escape_of q b ++ rest) ≡ b ∷ unescaped rest
    go true e = ap (λ (l : List ℕ). unescaped (l ++ rest)) (wide q b e)
    go false e = ap (λ (l : List ℕ). unescaped (l ++ rest)) (narrow q b e) ∙ rw (plain q b e)

pub unescaped_escapes : (q : ℕ) (bs rest : List ℕ) → unescaped (escapes q bs ++ rest) ≡ bs ++ unescaped rest
unfolding escapes
unescaped_escapes q [] rest = refl
unescaped_escapes q (b ∷ bs) rest =
    ap unescaped (append_assoc (escape_of q b) (escapes q bs) rest)
    ∙ escape_one q b (escapes q bs ++ rest)
    ∙ ap (λ (l : List ℕ). b ∷ l) (unescaped_escapes q bs rest)

-- ---- a part with escapes, by what stands from its place on

pub record Stands (text : List ℕ) (at : ℕ) (bs rest : List ℕ) : Type 0 where
  pub inside : at ≤ length text
  pub whole : drop at text ≡ escapes 34 bs ++ rest

pub part_stands : (text : List ℕ) (at n : ℕ) (p : PartIn text at n true) → Stands text at p.0 (drop (length (escapes 34 p.0)) (drop at text))
part_stands text at n p =
    let l = length (escapes 34 p.0) in
    let m : l ≡ at + l - at = omega arith in
    let t : take l (drop at text) ≡ escapes 34 p.0 = ap (λ (k : ℕ). take k (drop at text)) m ∙ p.3 in
    record {
      inside = omega (arith, p.2);
      whole = sym (take-append-drop l (drop at text)) ∙ ap (λ (s : List ℕ). s ++ drop l (drop at text)) t;
    }

pub stands_part : (text : List ℕ) (at n : ℕ) (bs rest : List ℕ) → Stands text at bs rest → length bs ≡ n → PartIn text at n true
stands_part text at n bs rest s e =
    let l = length (escapes 34 bs) in
    let a : length (drop at text) ≡ l + length rest = ap length s.whole ∙ length-append (escapes 34 bs) rest in
    let m : at + l - at ≡ l = omega arith in
    let b : at + l ≤ length text = omega (arith, s.inside, length-drop at text) in
    (bs, e, b, ap₂ (λ (k : ℕ) (t : List ℕ). take k t) m s.whole ∙ take_at (escapes 34 bs) rest l refl)

stands_bytes : (text : List ℕ) (at n : ℕ) (bs rest : List ℕ) → Stands text at bs rest → length bs ≡ n → bytes_in text at n true ≡ bs
stands_bytes text at n bs rest s e =
    ap (λ (t : List ℕ). take n (unescaped t)) s.whole
    ∙ ap (λ (t : List ℕ). take n t) (unescaped_escapes 34 bs rest)
    ∙ take_at bs (unescaped rest) n e

-- ---- which bytes, and how many

pub part_bytes : (text : List ℕ) (at n : ℕ) (p : PartIn text at n true) → bytes_in text at n true ≡ p.0
part_bytes text at n p = stands_bytes text at n p.0 (drop (length (escapes 34 p.0)) (drop at text)) (part_stands text at n p) p.1

pub length_bytes : (text : List ℕ) (at n : ℕ) (e : Bool) → PartIn text at n e → length (bytes_in text at n e) ≡ n
length_bytes text at n true p = ap length (part_bytes text at n p) ∙ p.1
length_bytes text at n false p = length-take-le n (drop at text) (omega (arith, length-drop at text))

pub length_value : (text : List ℕ) (kind at len : ℕ) (e : Bool) → ValuePart text kind at len e → length (value_in text kind at len e) ≡ len
length_value text kind at len e (inl p) = rw (p.0, p.1) (length_word_bytes 4 at)
length_value text kind at len e (inr (inl p)) = rw (p.0, p.1) (length_word_bytes 8 at)
length_value text kind at len e (inr (inr (inl p))) = rw p.0 (length_bytes text at len e p.1)
length_value text kind at len e (inr (inr (inr p))) = rw p.0 (length_bytes text at len e p.2)

-- ---- the part between two quotes

pub longer : (q : ℕ) (bs : List ℕ) → length bs ≤ length (escapes q bs)
unfolding escapes
longer q [] = omega arith
longer q (b ∷ bs) =
    go (needs_escape q b) refl (longer q bs)
  where
    go : (x : Bool) → needs_escape q b ≡ x → length bs ≤ length (escapes q bs) → suc (length bs) ≤ length (escape_of q b ++ escapes q bs)
    go true x l = let w = ap length (wide q b x) in omega (arith, length-append (escape_of q b) (escapes q bs))
    go false x l = let w = ap length (narrow q b x) in omega (arith, length-append (escape_of q b) (escapes q bs))

-- bytes that are as many with escapes have none
no_escapes : (q : ℕ) (bs : List ℕ) → length (escapes q bs) ≡ length bs → escapes q bs ≡ bs
unfolding escapes
no_escapes q [] e = refl
no_escapes q (b ∷ bs) e = go (needs_escape q b) refl (no_escapes q bs)
  where
    go : (x : Bool) → needs_escape q b ≡ x → (length (escapes q bs) ≡ length bs → escapes q bs ≡ bs) → escape_of q b ++ escapes q bs ≡ b ∷ bs
    go true x ih = let w = ap length (wide q b x) in absurd (omega (arith, longer q bs, length-append (escape_of q b) (escapes q bs)))
    go false x ih =
        let w = ap length (narrow q b x) in
        let n : length (escapes q bs) ≡ length bs = omega (arith, length-append (escape_of q b) (escapes q bs)) in
        ap₂ (λ (l m : List ℕ). l ++ m) (narrow q b x) (ih n)

pub record Between (text : List ℕ) (at n : ℕ) (e : Bool) (bs : List ℕ) : Type 0 where
  pub lies : PartIn text at n e
  pub are : bytes_in text at n e ≡ bs

pub closed_part : (text : List ℕ) (at end count : ℕ) → end ≤ length text → (c : Closes text at 34 end count) → Between text at (end - at - count) (ltb 0 count) c.bytes
closed_part text at end count near c = go (ltb 0 count) refl
  where
    bs : List ℕ
    bs = c.bytes

    l : length (escapes 34 bs) ≡ end - at
    l = ap length (sym c.stands) ∙ length-take-le (end - at) (drop at text) (omega (arith, length-drop at text))

    go : (e : Bool) → ltb 0 count ≡ e → Between text at (end - at - count) e bs
    go true e =
        let m : at + length (escapes 34 bs) ≡ end = omega (arith, l, c.after) in
        let p : PartIn text at (end - at - count) true = (bs, omega (arith, c.count_is), omega (arith, m), ap (part text at) m ∙ c.stands) in
        record { lies = p; are = part_bytes text at (end - at - count) p }
    go false e =
        let z : count ≤ 0 = ltb-false 0 count e in
        let m : end - at - count ≡ end - at = omega arith in
        let n : length (escapes 34 bs) ≡ length bs = omega (arith, l, c.count_is) in
        record {
          lies = omega (arith, c.after);
          are = ap (λ (k : ℕ). take k (drop at text)) m ∙ c.stands ∙ no_escapes 34 bs n;
        }

-- ---- the first byte of a part: it stands at p, and the others from there on

pub record OneByte (text : List ℕ) (at n : ℕ) (e : Bool) (p : ℕ) : Type 0 where
  pub inside : p < length text
  pub first : bytes_in text at (suc n) e ≡ get_or text p 0 ∷ bytes_in text (suc p) n e
  pub rest : PartIn text (suc p) n e

module _ (text : List ℕ) (at n b : ℕ) (bs rest : List ℕ) (s : Stands text at (b ∷ bs) rest) (e : length bs ≡ n) where
  -- the byte itself is at `at` or after its backslash
  byte_at : (p : ℕ) → drop p text ≡ b ∷ (escapes 34 bs ++ rest) → OneByte text at n true p
  byte_at p d =
      let h = head_at text p b (escapes 34 bs ++ rest) d in
      let t : Stands text (suc p) bs rest = record { inside = h.inside; whole = h.rest } in
      let m : length (b ∷ bs) ≡ suc n = ap suc e in
      record {
        inside = h.inside;
        first = stands_bytes text at (suc n) (b ∷ bs) rest s m ∙ ap₂ (λ (x : ℕ) (l : List ℕ). x ∷ l) (sym h.first) (sym (stands_bytes text (suc p) n bs rest t e));
        rest = stands_part text (suc p) n bs rest t e;
      }

  opened : drop at text ≡ escape_of 34 b ++ (escapes 34 bs ++ rest)
  unfolding escapes
  opened = s.whole ∙ append_assoc (escape_of 34 b) (escapes 34 bs) rest

  byte_stands : (p : ℕ) → p ≡ byte_place text at true → (at < length text) × OneByte text at n true p
  byte_stands p place = go (needs_escape 34 b) refl
    where
      go : (x : Bool) → needs_escape 34 b ≡ x → (at < length text) × OneByte text at n true p
      go true x =
          let d : drop at text ≡ 92 ∷ (b ∷ (escapes 34 bs ++ rest)) = opened ∙ ap (λ (l : List ℕ). l ++ (escapes 34 bs ++ rest)) (wide 34 b x) in
          let h = head_at text at 92 (b ∷ (escapes 34 bs ++ rest)) d in
          let q : byte_place text at true ≡ suc at = rw h.first in
          (h.inside, byte_at p (ap (λ (k : ℕ). drop k text) (place ∙ q) ∙ h.rest))
      go false x =
          let d : drop at text ≡ b ∷ (escapes 34 bs ++ rest) = opened ∙ ap (λ (l : List ℕ). l ++ (escapes 34 bs ++ rest)) (narrow 34 b x) in
          let h = head_at text at b (escapes 34 bs ++ rest) d in
          let q : byte_place text at true ≡ at = rw (h.first, plain 34 b x) in
          (h.inside, byte_at p (ap (λ (k : ℕ). drop k text) (place ∙ q) ∙ d))

byte_escaped : (text : List ℕ) (at n : ℕ) (p : ℕ) → p ≡ byte_place text at true → PartIn text at (suc n) true → (at < length text) × OneByte text at n true p
byte_escaped text at n p place q = go q.0 (part_stands text at (suc n) q) q.1
  where
    after : List ℕ
    after = drop (length (escapes 34 q.0)) (drop at text)

    go : (bs : List ℕ) → Stands text at bs after → length bs ≡ suc n → (at < length text) × OneByte text at n true p
    go [] s e = absurd (omega arith)
    go (b ∷ bs) s e = byte_stands text at n b bs after s (omega arith) p place

pub part_inside : (text : List ℕ) (at n : ℕ) (e : Bool) → PartIn text at (suc n) e → at < length text
part_inside text at n true q = (byte_escaped text at n (byte_place text at true) refl q).0
part_inside text at n false q = omega arith

pub one_byte : (text : List ℕ) (at n : ℕ) (e : Bool) (p : ℕ) → p ≡ byte_place text at e → PartIn text at (suc n) e → OneByte text at n e p
one_byte text at n true p place q = (byte_escaped text at n p place q).1
one_byte text at n false p place q =
    let l : at < length text = omega arith in
    let o : OneByte text at n false at = record {
      inside = l;
      first = ap (λ (t : List ℕ). take (suc n) t) (drop-cons text at 0 l);
      rest = omega arith;
    } in
    rw place o

-- .. as a loop over n bytes has it
pub record NextByte (text : List ℕ) (at n : ℕ) (e : Bool) (p : ℕ) : Type 0 where
  pub inside : p < length text
  pub first : bytes_in text at n e ≡ get_or text p 0 ∷ bytes_in text (p + 1) (n - 1) e
  pub rest : PartIn text (p + 1) (n - 1) e

pub byte_inside : (text : List ℕ) (at n : ℕ) (e : Bool) → 0 < n → PartIn text at n e → at < length text
byte_inside text at zero e h q = absurd (omega arith)
byte_inside text at (suc n) e h q = part_inside text at n e q

pub next_byte : (text : List ℕ) (at n : ℕ) (e : Bool) (p : ℕ) → 0 < n → p ≡ byte_place text at e → PartIn text at n e → NextByte text at n e p
next_byte text at zero e p h place q = absurd (omega arith)
next_byte text at (suc n) e p h place q =
    let o = one_byte text at n e p place q in
    let m : suc n - 1 ≡ n = omega arith in
    record { inside = o.inside; first = rw (add-one, m) o.first; rest = rw (add-one, m) o.rest }

pub no_byte : (text : List ℕ) (at n : ℕ) (e : Bool) → n ≤ 0 → bytes_in text at n e ≡ []
no_byte text at zero true h = refl
no_byte text at zero false h = refl
no_byte text at (suc n) e h = absurd (omega arith)

-- ---- a span's name

pub escaped_part_lem : (text : List ℕ) (s : Span) → (s.nameescapes ≡ 0 → ⊥) → SpanIn text s → PartIn text s.name s.namelen true
escaped_part_lem text s h p = rw (lt-ltb 0 s.nameescapes (omega arith)) at p.named

pub escaped_name : (text : List ℕ) (s : Span) → (s.nameescapes ≡ 0 → ⊥) → bytes_in text s.name s.namelen true ≡ name_in text s
escaped_name text s h = ap (bytes_in text s.name s.namelen) (sym (lt-ltb 0 s.nameescapes (omega arith)))

pub plain_part : (text : List ℕ) (s : Span) → s.nameescapes ≡ 0 → SpanIn text s → s.name + s.namelen ≤ length text
plain_part text s h p = rw h at p.named

pub plain_name : (text : List ℕ) (s : Span) → s.nameescapes ≡ 0 → take s.namelen (drop s.name text) ≡ name_in text s
plain_name text s h = ap (λ (n : ℕ). bytes_in text s.name s.namelen (ltb 0 n)) (sym h)

-- .. as a slice
pub plain_slice : (text : List ℕ) (s : Span) → s.nameescapes ≡ 0 → take (s.name + s.namelen - s.name) (drop s.name text) ≡ name_in text s
plain_slice text s h =
    let e : s.name + s.namelen - s.name ≡ s.namelen = omega arith in
    ap (λ (n : ℕ). take n (drop s.name text)) e ∙ plain_name text s h

-- ---- names with escapes, byte by byte

-- from `i` on `left` bytes are to be judged
pub record Judged (text : List ℕ) (at n i left : ℕ) : Type 0 where
  pub lies : PartIn text i left true
  pub rest : name_right (bytes_in text at n true) ≡ printable (bytes_in text i left true)

pub small_name : (n : ℕ) → (ltb n 1 || ltb 64 n) ≡ false → (1 ≤ n) × (n ≤ 64)
small_name n e = let p = neither (ltb n 1) (ltb 64 n) e in (ltb-false n 1 p.0, ltb-false 64 n p.1)

module _ (text : List ℕ) (at n : ℕ) (q : PartIn text at n true) where
  pub judged_none : 1 ≤ n → n ≤ 64 → Judged text at n at n
  judged_none h l =
      let e = length_bytes text at n true q in
      record { lies = q; rest = sym (by_bytes (bytes_in text at n true) (λ z. omega arith) (omega arith)) }

  pub name_wrong : (ltb n 1 || ltb 64 n) ≡ true → false ≡ name_right (bytes_in text at n true)
  name_wrong h = go (or_parts (ltb n 1) (ltb 64 n) h)
    where
      go : (ltb n 1 ≡ true) ⊎ (ltb 64 n ≡ true) → false ≡ name_right (bytes_in text at n true)
      go (inl e) = empty_wrong (bytes_in text at n true) (omega (arith, length_bytes text at n true q, ltb-true n 1 e))
      go (inr e) = long_wrong (bytes_in text at n true) (omega (arith, length_bytes text at n true q, ltb-true 64 n e))

module _ (text : List ℕ) (at n i left : ℕ) (j : Judged text at n i left) where
  pub judged_end : left ≤ 0 → true ≡ name_right (bytes_in text at n true)
  judged_end h = sym (j.rest ∙ ap printable (no_byte text i left true h))

  module _ (p : ℕ) (h : 0 < left) (place : p ≡ byte_place text i true) where
    first_byte : name_right (bytes_in text at n true) ≡ ((leb 32 (get_or text p 0) && leb (get_or text p 0) 126) && printable (bytes_in text (p + 1) (left - 1) true))
    first_byte = j.rest ∙ ap printable (next_byte text i left true p h place j.lies).first

    pub judged_wrong : (ltb (get_or text p 0) 32 || ltb 126 (get_or text p 0)) ≡ true → false ≡ name_right (bytes_in text at n true)
    judged_wrong w = sym (first_byte ∙ ap (λ (x : Bool). x && printable (bytes_in text (p + 1) (left - 1) true)) (go (or_parts (ltb (get_or text p 0) 32) (ltb 126 (get_or text p 0)) w)))
      where
        go : (ltb (get_or text p 0) 32 ≡ true) ⊎ (ltb 126 (get_or text p 0) ≡ true) → (leb 32 (get_or text p 0) && leb (get_or text p 0) 126) ≡ false
        go (inl e) = rw (lt-leb 32 (get_or text p 0) (ltb-true (get_or text p 0) 32 e))
        go (inr e) = let l = ltb-true 126 (get_or text p 0) e in rw (le-leb 32 (get_or text p 0) (omega arith), lt-leb (get_or text p 0) 126 l)

    pub judged_more : (ltb (get_or text p 0) 32 || ltb 126 (get_or text p 0)) ≡ false → Judged text at n (p + 1) (left - 1)
    judged_more w =
        let k = neither (ltb (get_or text p 0) 32) (ltb 126 (get_or text p 0)) w in
        let a : (leb 32 (get_or text p 0) && leb (get_or text p 0) 126) ≡ true = rw (le-leb 32 (get_or text p 0) (ltb-false (get_or text p 0) 32 k.0), le-leb (get_or text p 0) 126 (ltb-false 126 (get_or text p 0) k.1)) in
        record {
          lies = (next_byte text i left true p h place j.lies).rest;
          rest = first_byte ∙ ap (λ (x : Bool). x && printable (bytes_in text (p + 1) (left - 1) true)) a;
        }
