-- Storing fields as a notice: their parts, one field after the other, and the header before them. Assumes nothing.
use mathlib.Core.Path.{◌≡◌, refl, sym, ap, ap₂, ◌∙◌}
use mathlib.Core.Logic.{inl, inr}
use mathlib.Core.Bool.{Bool, true, false}
use mathlib.Core.List.{List, [], ◌∷◌, ◌++◌, append_assoc}
use Prim.Native.Nat.{ℕ, zero, suc, ◌+◌, ◌-◌, ◌≤◌, ◌<◌}
use native.Mathlib.Omega.{arith}
use native.Mathlib.Numerals.{add-one}
use borrow.Author.Tests.{eq-eqb, ne_eqb}
use lib.Dec.{eqb, ltb}
use lib.ListN.{length, get_or, set, take, drop, length-append, length-drop, length-map, drop_of_length-le}
use lib.Seq.{sets, sets-eq, drop-cons, length-take-le}
use Rattle.common.proofs.Stores.{sets_append}
use Rattle.word.specs.Word.{word_bytes}
use Rattle.word.proofs.Laws.{length_word_bytes}
use Rattle.decimal.specs.Decimal.{Put}
use Rattle.notice.specs.Render.{field_bytes, fields_bytes, render}
use Rattle.notice.proofs.Fields.{length_field}
use Rattle.notice.proofs.Stores.{field_stored}
use Rattle.notice.proofs.Renders.{length_render}
use Rattle.ubf.specs.Escape.{bytes_in, Plain}
use Rattle.ubf.specs.Answer.{notice_size, leaves}
use Rattle.ubf.specs.Span.{value_in, name_in, field_in, PartIn, ValuePart, SpanIn, row_in, row_fields, ordered, RowsShort, Placing}
use Rattle.ubf.specs.declared.spans.Span.{Span}
use Rattle.ubf.proofs.Parts.{plain, longer, length_bytes, length_value}
use Rattle.ubf.proofs.Names.{ByteOf, byte_of}

-- a byte more of those that have escapes
pub unescaped_one : (d text : List ℕ) (at i n k j : ℕ) → k < n → ByteOf text i (n - k) true j
    → sets (set d (at + k) (get_or text j 0)) (at + (k + 1)) (bytes_in text (j + 1) (n - (k + 1)) true) ≡ sets d (at + k) (bytes_in text i (n - k) true)
unescaped_one d text at i n k j h b =
    let e : at + (k + 1) ≡ suc (at + k) = omega arith in
    let m : n - (k + 1) ≡ n - k - 1 = omega arith in
    ap₂ (λ (x y : ℕ). sets (set d (at + k) (get_or text j 0)) x (bytes_in text (j + 1) y true)) e m ∙ ap (sets d (at + k)) (sym b.first)

pub unescaped_rest : (text : List ℕ) (i n k j : ℕ) → k < n → ByteOf text i (n - k) true j → PartIn text (j + 1) (n - (k + 1)) true
unescaped_rest text i n k j h b = let m : n - (k + 1) ≡ n - k - 1 = omega arith in rw m b.rest

-- a run of them that has no escape
pub record Run (text : List ℕ) (i n r : ℕ) : Type 0 where
  pub inside : i + r ≤ length text
  pub bytes : bytes_in text i n true ≡ take r (drop i text) ++ bytes_in text (i + r) (n - r) true
  pub rest : PartIn text (i + r) (n - r) true

pub part_run : (r : ℕ) (text : List ℕ) (i n : ℕ) → r ≤ n → Plain text 34 i (i + r) → PartIn text i n true → Run text i n r
part_run zero text i n h p q =
    let e : i + 0 ≡ i = omega arith in
    let m : n - 0 ≡ n = omega arith in
    record { inside = omega (arith, q.2); bytes = rw (e, m); rest = rw (e, m) q }
part_run (suc r) text i n h p q =
    let b : ℕ = get_or text i 0 in
    let f : eqb b 92 ≡ false = plain 34 b (p i (omega arith) (omega arith)) in
    let o = byte_of text i n true i (omega arith) (rw f) q in
    let e : i + 1 + r ≡ i + suc r = omega arith in
    let m : n - 1 - r ≡ n - suc r = omega arith in
    let one : i + 1 ≡ suc i = omega arith in
    let ih : Run text (i + 1) (n - 1) r = part_run r text (i + 1) (n - 1) (omega arith) (λ j l k. p j (omega arith) (omega arith)) o.rest in
    record {
      inside = omega (arith, ih.inside);
      bytes = o.first
          ∙ (ap (λ (x : List ℕ). b ∷ x) ih.bytes
          ∙ (ap₂ (λ (j k : ℕ). (b ∷ take r (drop (i + 1) text)) ++ bytes_in text j k true) e m
          ∙ (ap (λ (j : ℕ). (b ∷ take r (drop j text)) ++ bytes_in text (i + suc r) (n - suc r) true) one
          ∙ ap (λ (x : List ℕ). take (suc r) x ++ bytes_in text (i + suc r) (n - suc r) true) (sym (drop-cons text i 0 (omega (arith, ih.inside)))))));
      rest = rw (e, m) at ih.rest;
    }

pub part_room : (text : List ℕ) (i n : ℕ) → PartIn text i n true → i + n ≤ length text
part_room text i n q = omega (arith, q.1, q.2, longer 34 q.0)

-- the run is stored, and what is left of them makes the same of the buffer
pub record RunStored (d after text : List ℕ) (at i n k end : ℕ) : Type 0 where
  pub next : k + (end - i) ≤ n
  pub rest : PartIn text end (n - (k + (end - i))) true
  pub same : sets after (at + (k + (end - i))) (bytes_in text end (n - (k + (end - i))) true) ≡ sets d (at + k) (bytes_in text i (n - k) true)

pub run_stored : (d after text : List ℕ) (at i n k end : ℕ) → k ≤ n → i ≤ end → end ≤ i + (n - k) → Plain text 34 i end → PartIn text i (n - k) true → after ≡ sets d (at + k) (take (end - i) (drop i text)) → RunStored d after text at i n k end
run_stored d after text at i n k end h l m p q w =
    let r = end - i in
    let e : i + r ≡ end = omega arith in
    let z : n - k - r ≡ n - (k + r) = omega arith in
    let g = part_run r text i (n - k) (omega arith) (λ j a b. p j a (omega arith)) q in
    let t : length (take r (drop i text)) ≡ r = length-take-le r (drop i text) (simp length-drop (omega (arith, g.inside))) in
    let a : at + (k + r) ≡ at + k + length (take r (drop i text)) = omega (arith, t) in
    let rest : bytes_in text (i + r) (n - k - r) true ≡ bytes_in text end (n - (k + r)) true = ap₂ (λ (x y : ℕ). bytes_in text x y true) e z in
    record {
      next = omega arith;
      rest = rw (e, z) at g.rest;
      same = ap₂ (λ (x : List ℕ) (j : ℕ). sets x j (bytes_in text end (n - (k + r)) true)) w a
          ∙ (sym (sets_append (take r (drop i text)) (bytes_in text end (n - (k + r)) true) d (at + k))
          ∙ ap (sets d (at + k)) (sym (g.bytes ∙ ap (λ (x : List ℕ). take r (drop i text) ++ x) rest)));
    }

-- a value by its kind
module _ (text : List ℕ) (kind at len : ℕ) (e : Bool) where
  pub record Numeric (size : ℕ) : Type 0 where
    pub long : len ≡ size
    pub bytes : word_bytes size at ≡ value_in text kind at len e

  pub int32_value : ValuePart text kind at len e → kind ≡ 1 → Numeric 4 × (at < 4294967296)
  int32_value v k = (record { long = (go v).0; bytes = rw (eq-eqb kind 1 k) }, (go v).1)
    where
      go : ValuePart text kind at len e → (len ≡ 4) × (at < 4294967296)
      go (inl p) = (p.1, p.2)
      go (inr (inl p)) = absurd (omega (arith, p.0))
      go (inr (inr (inl p))) = absurd (omega (arith, p.0))
      go (inr (inr (inr p))) = absurd (omega (arith, p.0))

  pub int64_value : ValuePart text kind at len e → (kind ≡ 1 → ⊥) → kind ≡ 2 → Numeric 8
  int64_value v n k = record { long = go v; bytes = rw (ne_eqb kind 1 n, eq-eqb kind 2 k) }
    where
      go : ValuePart text kind at len e → len ≡ 8
      go (inl p) = absurd (omega (arith, p.0))
      go (inr (inl p)) = p.1
      go (inr (inr (inl p))) = absurd (omega (arith, p.0))
      go (inr (inr (inr p))) = absurd (omega (arith, p.0))

  pub record Textual : Type 0 where
    pub lies : PartIn text at len e
    pub bytes : bytes_in text at len e ≡ value_in text kind at len e

  pub text_value : ValuePart text kind at len e → (kind ≡ 1 → ⊥) → (kind ≡ 2 → ⊥) → Textual
  text_value v n m = record { lies = go v; bytes = rw (ne_eqb kind 1 n, ne_eqb kind 2 m) }
    where
      go : ValuePart text kind at len e → PartIn text at len e
      go (inl p) = absurd (n p.0)
      go (inr (inl p)) = absurd (m p.0)
      go (inr (inr (inl p))) = p.1
      go (inr (inr (inr p))) = p.2

  pub kind_small : ValuePart text kind at len e → kind ≤ 5
  kind_small (inl p) = omega (arith, p.0)
  kind_small (inr (inl p)) = omega (arith, p.0)
  kind_small (inr (inr (inl p))) = omega (arith, p.0)
  kind_small (inr (inr (inr p))) = omega (arith, p.0)

-- a span as a field
module _ (text : List ℕ) (s : Span) (lies : SpanIn text s) where
  pub name_length : length (name_in text s) ≡ s.namelen
  name_length = length_bytes text s.name s.namelen (ltb 0 s.nameescapes) lies.named

  pub value_length : length (field_in text s).value ≡ s.len
  value_length = length_value text s.kind s.value s.len (ltb 0 s.escapes) lies.valued

  pub span_length : length (field_bytes (field_in text s)) ≡ 5 + s.namelen + s.len
  span_length = length_field (field_in text s) ∙ ap₂ (λ (a b : ℕ). 5 + a + b) name_length value_length

  pub span_stored : (d : List ℕ) (at : ℕ)
      → sets (sets (set (sets (sets d at (word_bytes 2 (3 + s.namelen + s.len))) (at + 2) (word_bytes 2 s.kind)) (at + 4) s.namelen) (at + 5) (name_in text s)) (at + 5 + s.namelen) (field_in text s).value
      ≡ sets d at (field_bytes (field_in text s))
  span_stored d at =
      let f = field_in text s in
      ap₂ (λ (a b : ℕ). sets (sets (set (sets (sets d at (word_bytes 2 (3 + a + b))) (at + 2) (word_bytes 2 s.kind)) (at + 4) a) (at + 5) f.name) (at + 5 + a) f.value) (sym name_length) (sym value_length)
      ∙ field_stored d at f

  pub span_put : (d after : List ℕ) (at : ℕ) → after ≡ sets d at (field_bytes (field_in text s)) → Put d at (field_bytes (field_in text s)) after (at + 5 + s.namelen + s.len)
  span_put d after at e = record { stored = e; next = omega (arith, span_length) }

-- ---- one field after the other

module _ (text rows order : List ℕ) (long : length order ≡ 64) where
  -- the fields from place k of the order on
  abbrev rest : ℕ → List ℕ
  rest k = fields_bytes (row_fields text rows (drop k order))

  pub order_one : (k : ℕ) → k < 64 → drop k order ≡ get_or order k 0 ∷ drop (k + 1) order
  order_one k h = drop-cons order k 0 (omega arith) ∙ ap (λ (n : ℕ). get_or order k 0 ∷ drop n order) (sym (add-one k))

  pub record RowShort (k : ℕ) : Type 0 where
    pub near : get_or order k 0 < 64
    pub lies : SpanIn text (row_in rows (get_or order k 0))
    pub name_short : (row_in rows (get_or order k 0)).namelen ≤ 64
    pub value_short : (row_in rows (get_or order k 0)).len ≤ 1024
    pub others : RowsShort text rows (drop (k + 1) order)

  pub row_short : (k : ℕ) → k < 64 → RowsShort text rows (drop k order) → RowShort k
  row_short k h all =
      let a : RowsShort text rows (get_or order k 0 ∷ drop (k + 1) order) = rw (order_one k h) at all in
      record { near = a.0.0; lies = a.0.1; name_short = a.0.2; value_short = a.0.3; others = a.1 }

  rest_one : (k : ℕ) → k < 64 → rest k ≡ field_bytes (field_in text (row_in rows (get_or order k 0))) ++ rest (k + 1)
  rest_one k h = ap (λ (l : List ℕ). fields_bytes (row_fields text rows l)) (order_one k h)

  pub rest_length : (k : ℕ) → k < 64 → length (fields_bytes (row_fields text rows (drop k order))) ≡ length (field_bytes (field_in text (row_in rows (get_or order k 0)))) + length (fields_bytes (row_fields text rows (drop (k + 1) order)))
  rest_length k h = ap length (rest_one k h) ∙ length-append (field_bytes (field_in text (row_in rows (get_or order k 0)))) (rest (k + 1))

  pub rest_stored : (d after : List ℕ) (at next k : ℕ) (s : Span) → k < 64 → s ≡ row_in rows (get_or order k 0) → Put d at (field_bytes (field_in text s)) after next
      → sets after next (fields_bytes (row_fields text rows (drop (k + 1) order))) ≡ sets d at (fields_bytes (row_fields text rows (drop k order)))
  rest_stored d after at next k s h e p =
      let f = field_bytes (field_in text s) in
      let q : rest k ≡ f ++ rest (k + 1) = rest_one k h ∙ ap (λ (t : Span). field_bytes (field_in text t) ++ rest (k + 1)) (sym e) in
      ap₂ (λ (x : List ℕ) (n : ℕ). sets x n (rest (k + 1))) p.stored p.next ∙ (sym (sets_append f (rest (k + 1)) d at) ∙ ap (sets d at) (sym q))

  pub rest_none : (k : ℕ) → 64 ≤ k → fields_bytes (row_fields text rows (drop k order)) ≡ []
  rest_none k h = ap (λ (l : List ℕ). fields_bytes (row_fields text rows l)) (drop_of_length-le order {i = k} (omega arith))

-- ---- the whole notice

module _ (text rows order : List ℕ) (count size room : ℕ) (p : Placing text rows order count size room) where
  pub ordered_length : length (ordered text rows count order) ≡ count
  ordered_length =
      length-map (drop (64 - count) order) (λ (k : ℕ). field_in text (row_in rows k)) ∙ omega (arith, length-drop (64 - count) order, p.order_long, p.few)

  pub placing_whole : (d : List ℕ) → length d ≡ room → Placing text rows order count (notice_size (ordered text rows count order)) (length d)
  placing_whole d e =
      record {
        rows_long = p.rows_long;
        order_long = p.order_long;
        few = p.few;
        lie = p.lie;
        size_is = refl;
        short = omega (arith, p.size_is, p.short);
        fits = omega (arith, p.size_is, p.fits);
      }

  pub notice_stored : (d : List ℕ) → length d ≡ room
      → sets (sets (sets (sets d 0 (word_bytes 4 (size - 4))) 4 (word_bytes 2 1)) 6 (word_bytes 2 count)) 8 (fields_bytes (ordered text rows count order)) ≡ leaves 0 (render (ordered text rows count order)) d
  notice_stored d l =
      let fs = ordered text rows count order in
      let body = fields_bytes fs in
      let n : size - 4 ≡ 4 + length body = omega (arith, p.size_is) in
      let a = word_bytes 4 (4 + length body) in
      let k = word_bytes 2 1 in
      let c = word_bytes 2 (length fs) in
      let la : 0 + length a ≡ 4 = omega (arith, length_word_bytes 4 (4 + length body)) in
      let lk : 4 + length k ≡ 6 = omega (arith, length_word_bytes 2 1) in
      let lc : 6 + length c ≡ 8 = omega (arith, length_word_bytes 2 (length fs)) in
      let lr : 0 + length (render fs) ≡ length (render fs) = omega arith in
      let d1 = sets d 0 a in
      let d2 = sets d1 4 k in
      let whole : render fs ≡ a ++ (k ++ (c ++ body)) = append_assoc a (k ++ c) body ∙ ap (λ (x : List ℕ). a ++ x) (append_assoc k c body) in
      let put : sets (sets d2 6 c) 8 body ≡ sets d 0 (render fs) =
      sym (ap (sets d 0) whole
      ∙ (sets_append a (k ++ (c ++ body)) d 0
      ∙ (ap (λ (x : ℕ). sets d1 x (k ++ (c ++ body))) la
      ∙ (sets_append k (c ++ body) d1 4
      ∙ (ap (λ (x : ℕ). sets d2 x (c ++ body)) lk
      ∙ (sets_append c body d2 6 ∙ ap (λ (x : ℕ). sets (sets d2 6 c) x body) lc)))))) in
      let fit : 0 + length (render fs) ≤ length d = omega (arith, length_render fs, p.size_is, p.fits) in
      ap₂ (λ (x y : ℕ). sets (sets (sets (sets d 0 (word_bytes 4 x)) 4 k) 6 (word_bytes 2 y)) 8 body) n (sym ordered_length) ∙ (put ∙ (sets-eq (render fs) d 0 fit ∙ ap (λ (x : ℕ). render fs ++ drop x d) lr))
