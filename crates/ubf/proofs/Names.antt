-- Names as they stand in a text: byte by byte, and how two of them compare. Assumes nothing.
use mathlib.Core.Path.{◌≡◌, refl, sym, ap, ap₂, ◌∙◌}
use mathlib.Core.Bool.{Bool, true, false, not, ◌&&◌, ◌||◌, or-false}
use mathlib.Core.List.{List, [], ◌∷◌}
use Prim.Native.Nat.{ℕ, zero, suc, ◌+◌, ◌-◌, ◌≤◌, ◌<◌}
use native.Mathlib.Omega.{arith}
use native.Mathlib.Numerals.{add-one}
use borrow.Author.Tests.{eq-eqb, ne_eqb, lt-ltb, le-ltb}
use lib.Dec.{eqb, ltb}
use lib.ListN.{length, get_or, take, drop}
use Rattle.common.proofs.Choice.{true_false}
use Rattle.octets.specs.Octets.{folded, same_of, before_of}
use Rattle.octets.proofs.Theorems.{same, before_irreflexive, not_folded}
use Rattle.notice.proofs.Orders.{after_by_other}
use Rattle.ubf.specs.Escape.{bytes_in, byte_place}
use Rattle.ubf.specs.Span.{name_in, PartIn, SpanIn}
use Rattle.ubf.specs.declared.spans.Span.{Span}
use Rattle.ubf.proofs.Parts.{part_inside, one_byte, length_bytes}

pub or_neither : (a b : Bool) → (a || b) ≡ false → (a ≡ false) × (b ≡ false)
or_neither true b e = true_false e
or_neither false b e = (refl, e)

-- the code's test for escapes
pub nonzero : (n : ℕ) → not (eqb n 0) ≡ ltb 0 n
nonzero zero = refl
nonzero (suc n) = ap not (ne_eqb (suc n) 0 (λ e. omega arith)) ∙ sym (lt-ltb 0 (suc n) (omega arith))

-- the first of n bytes stands at p, and the others from there on
pub record ByteOf (text : List ℕ) (at n : ℕ) (e : Bool) (p : ℕ) : Type 0 where
  pub inside : p < length text
  pub first : bytes_in text at n e ≡ get_or text p 0 ∷ bytes_in text (p + 1) (n - 1) e
  pub rest : PartIn text (p + 1) (n - 1) e

pub byte_of : (text : List ℕ) (at n : ℕ) (e : Bool) (p : ℕ) → 0 < n → p ≡ byte_place text at e → PartIn text at n e → ByteOf text at n e p
byte_of text at zero e p h place q = absurd (omega arith)
byte_of text at (suc n) e p h place q =
    let o = one_byte text at n e p place q in
    let m : suc n - 1 ≡ n = omega arith in
    record { inside = o.inside; first = rw (m, add-one) o.first; rest = rw (m, add-one) o.rest }

pub part_starts : (text : List ℕ) (at n : ℕ) (e : Bool) → 0 < n → PartIn text at n e → at < length text
part_starts text at zero e h q = absurd (omega arith)
part_starts text at (suc n) e h q = part_inside text at n e q

-- two names whose first bytes differ, whose first bytes are the same, and of which one has ended
pub first_differ : (x y : ℕ) (xs ys : List ℕ) → (x ≡ y → ⊥) → ltb x y ≡ before_of (x ∷ xs) (y ∷ ys)
first_differ x y xs ys h = rw (ne_eqb x y h) (sym (or-false (ltb x y)))

pub first_same : (x y : ℕ) (xs ys : List ℕ) → x ≡ y → before_of xs ys ≡ before_of (x ∷ xs) (y ∷ ys)
first_same x y xs ys h = let l : ltb x y ≡ false = le-ltb x y (omega arith) in rw (l, eq-eqb x y h)

pub ended : (n m : ℕ) → (ltb 0 n && ltb 0 m) ≡ false → 0 < n → 0 < m → ⊥
ended n m e h k = true_false (sym (ap₂ (λ (a b : Bool). a && b) (lt-ltb 0 n h) (lt-ltb 0 m k)) ∙ e)

pub one_ended : (text : List ℕ) (i n j m : ℕ) (e f : Bool) → (0 < n → 0 < m → ⊥) → PartIn text i n e → PartIn text j m f → ltb n m ≡ before_of (bytes_in text i n e) (bytes_in text j m f)
one_ended text i n j m e f h p q = ap₂ ltb (sym (length_bytes text i n e p)) (sym (length_bytes text j m f q)) ∙ go (bytes_in text i n e) (bytes_in text j m f) (length_bytes text i n e p) (length_bytes text j m f q)
  where
    go : (xs ys : List ℕ) → length xs ≡ n → length ys ≡ m → ltb (length xs) (length ys) ≡ before_of xs ys
    go [] [] a b = refl
    go [] (y ∷ ys) a b = lt-ltb 0 (suc (length ys)) (omega arith)
    go (x ∷ xs) [] a b = le-ltb (suc (length xs)) 0 (omega arith)
    go (x ∷ xs) (y ∷ ys) a b = absurd (h (omega arith) (omega arith))

-- two names are the same exactly if neither is before the other
pub same_neither : (s t : List ℕ) → (not (before_of s t) && not (before_of t s)) ≡ same_of s t
same_neither s t = go (same_of s t) (before_of s t) refl refl
  where
    go : (x b : Bool) → same_of s t ≡ x → before_of s t ≡ b → (not b && not (before_of t s)) ≡ x
    go true b e f =
        let q : s ≡ t = (same s t).0 e in
        let n : b ≡ false = sym f ∙ (ap (before_of s) (sym q) ∙ before_irreflexive s) in
        let m : before_of t s ≡ false = ap (before_of t) q ∙ before_irreflexive t in
        rw (n, m)
    go false true e f = refl
    go false false e f = rw (after_by_other s t e f)

-- a name without escapes is a part of the text
pub record Plain (text : List ℕ) (s : Span) : Type 0 where
  pub fits : s.name + s.namelen ≤ length text
  pub bytes : folded false (take (s.name + s.namelen - s.name) (drop s.name text)) ≡ name_in text s

plain_name : (text : List ℕ) (s : Span) → SpanIn text s → not (eqb s.nameescapes 0) ≡ false → Plain text s
plain_name text s lies e =
    let f : ltb 0 s.nameescapes ≡ false = sym (nonzero s.nameescapes) ∙ e in
    let n : s.name + s.namelen - s.name ≡ s.namelen = omega arith in
    record {
      fits = rw f at lies.named;
      bytes = not_folded (take (s.name + s.namelen - s.name) (drop s.name text)) ∙ rw (n, f);
    }

pub plain_names : (text : List ℕ) (s t : Span) → SpanIn text s → SpanIn text t → (not (eqb s.nameescapes 0) || not (eqb t.nameescapes 0)) ≡ false → Plain text s × Plain text t
plain_names text s t p q e =
    let h = or_neither (not (eqb s.nameescapes 0)) (not (eqb t.nameescapes 0)) e in
    (plain_name text s p h.0, plain_name text t q h.1)
