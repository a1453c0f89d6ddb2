-- What reading answers, case by case, and the bytes that it leaves. Assumes nothing.
use mathlib.Core.Path.{◌≡◌, refl, sym, ap, ap₂, ◌∙◌}
use mathlib.Core.Logic.{◌⊎◌, inl, inr}
use mathlib.Core.Bool.{Bool, true, false, cond, ◌&&◌, ◌||◌, and-false}
use mathlib.Core.List.{List, [], ◌∷◌, map}
use Prim.Native.Nat.{ℕ, zero, suc, ◌+◌, ◌-◌, ◌≤◌, ◌<◌}
use native.Mathlib.Omega.{arith}
use borrow.Author.Tests.{lt-leb, le-leb, ne_eqb, ltb-true, ltb-false}
use lib.Dec.{leb, ltb}
use lib.ListN.{length, get_or, drop}
use Rattle.common.specs.Each.{Each}
use Rattle.common.proofs.Choice.{true_false}
use Rattle.common.proofs.Each.{each_map}
use Rattle.octets.proofs.Theorems.{and_parts, or_parts}
use Rattle.notice.specs.Field.{Field, name_right, size_right, field_right}
use Rattle.notice.specs.Render.{render}
use Rattle.notice.specs.Read.{blank}
use Rattle.notice.specs.Write.{sorted}
use Rattle.notice.proofs.Fields.{right_small}
use Rattle.notice.proofs.Renders.{length_render}
use Rattle.notice.proofs.Sorted.{sorted_size}
use Rattle.ubf.specs.Fields.{Said, no_text, no_tuple, says, said, in_syntax, is_tuple}
use Rattle.std.specs.Prelude.{Err}
use Rattle.refusal.specs.declared.Refusal.{Refusal}
use Rattle.refusal.specs.Refusal.{number_of, place_of}
use Rattle.refusal.proofs.Numbers.{refuses as no_zero}
use Rattle.ubf.specs.Answer.{Answer, answer_of, names_right, sizes_right, repeated, notice_size, fits_in, read_by, read_number, said_fields, read_answer, read_bytes, leaves}
use Rattle.ubf.specs.Span.{field_in, SpanIn, SizeIs, spans_in, TupleFound, row_in, ordered, ArrangedIs, RefusalIs}
use Rattle.ubf.specs.declared.spans.Tuple.{Tuple}
use Rattle.ubf.proofs.Names.{or_neither}
use Rattle.ubf.proofs.Arranged.{row_lies, row_field}
use Rattle.ubf.proofs.Placed.{name_length, value_length}

-- each of some right fields is right
right_at_lem : (fs : List Field) (k : ℕ) → names_right fs ≡ true → sizes_right fs ≡ true → k < length fs → field_right (get_or fs k blank) ≡ true
right_at_lem [] k n s h = absurd (omega arith)
right_at_lem (f ∷ fs) zero n s h = ap₂ (λ (a b : Bool). a && b) (and_parts (name_right f.name) (names_right fs) n).0 (and_parts (size_right f.kind (length f.value)) (sizes_right fs) s).0
right_at_lem (f ∷ fs) (suc k) n s h = right_at_lem fs k (and_parts (name_right f.name) (names_right fs) n).1 (and_parts (size_right f.kind (length f.value)) (sizes_right fs) s).1 (omega arith)

-- over all fields: the refusals in their order
module _ (text rows : List ℕ) (t : Tuple) (found : TupleFound text rows t) where
  pub few_lie : length rows ≡ 448 → t.count ≤ 64 → (map (field_in text) (spans_in t.count rows) ≡ found.fields) × Each (SpanIn text) (spans_in t.count rows)
  few_lie l h = found.known.stored (omega arith)

  module _ (order : List ℕ) (room : ℕ) where
    refuses : (n : ℕ) → 0 < n → read_by (says found.fields) room ≡ n → RefusalIs text rows t order room n
    refuses n h e = record { number = sym (ap (λ (x : Said). read_by x room) found.says_them ∙ e); placing = λ z. absurd (omega arith); rises = λ z. absurd (omega arith) }

    pub wrong_name : t.named ≡ false → RefusalIs text rows t order room 13
    wrong_name e = let n : names_right found.fields ≡ false = sym found.known.named ∙ e in refuses 13 (omega arith) (rw n)

    module _ (p : t.named ≡ true) where
      named : names_right found.fields ≡ true
      named = sym found.known.named ∙ p

      pub wrong_size : t.sized ≡ false → RefusalIs text rows t order room 16
      wrong_size e = let n : sizes_right found.fields ≡ false = sym found.known.sized ∙ e in refuses 16 (omega arith) (rw (named, n))

      module _ (q : t.sized ≡ true) where
        sized : sizes_right found.fields ≡ true
        sized = sym found.known.sized ∙ q

        pub name-again : repeated found.fields ≡ true → RefusalIs text rows t order room 14
        name-again e = refuses 14 (omega arith) (rw (named, sized, e))

        no_room : repeated found.fields ≡ false → fits_in found.fields room ≡ false → RefusalIs text rows t order room 15
        no_room e f = refuses 15 (omega arith) (rw (named, sized, e, f))

        pub too_many : 64 < t.count → repeated found.fields ≡ false → RefusalIs text rows t order room 15
        too_many h e = let f : leb (length found.fields) 64 ≡ false = lt-leb (length found.fields) 64 (omega (arith, found.known.count)) in no_room e (rw f)

        module _ (few : t.count ≤ 64) where
          few-fields : leb (length found.fields) 64 ≡ true
          few-fields = le-leb (length found.fields) 64 (omega (arith, found.known.count))

          size : SizeIs found.fields t.size
          size = found.known.size named sized

          long : 16384 < notice_size found.fields → fits_in found.fields room ≡ false
          long h = let f : leb (notice_size found.fields) 16384 ≡ false = lt-leb (notice_size found.fields) 16384 h in rw (few-fields, f)

          wide : room < notice_size found.fields → fits_in found.fields room ≡ false
          wide h =
              let f : leb (notice_size found.fields) room ≡ false = lt-leb (notice_size found.fields) room h in
              rw (few-fields, f) (and-false (leb (notice_size found.fields) 16384))

          pub too_long : (ltb 16384 t.size || ltb room t.size) ≡ true → repeated found.fields ≡ false → RefusalIs text rows t order room 15
          too_long e u = no_room u (go size (or_parts (ltb 16384 t.size) (ltb room t.size) e))
            where
              go : SizeIs found.fields t.size → (ltb 16384 t.size ≡ true) ⊎ (ltb room t.size ≡ true) → fits_in found.fields room ≡ false
              go (inl s) (inl h) = long (omega (arith, ltb-true 16384 t.size h))
              go (inl s) (inr h) = wide (omega (arith, ltb-true room t.size h))
              go (inr s) h = long s.1

          -- nothing is refused
          module _ (e : (ltb 16384 t.size || ltb room t.size) ≡ false) where
            pub record Sized : Type 0 where
              pub exact : t.size ≡ notice_size found.fields
              pub short : t.size ≤ 16384
              pub fits : t.size ≤ room

            sizes : Sized
            sizes =
                let h = or_neither (ltb 16384 t.size) (ltb room t.size) e in
                let a = ltb-false 16384 t.size h.0 in
                let b = ltb-false room t.size h.1 in
                record { exact = go a size; short = a; fits = b }
              where
                go : t.size ≤ 16384 → SizeIs found.fields t.size → t.size ≡ notice_size found.fields
                go a (inl s) = s
                go a (inr s) = absurd (omega (arith, s.0))

            pub accepted : length rows ≡ 448 → length order ≡ 64 → ArrangedIs text rows t.count order true → RefusalIs text rows t order room 0
            accepted rl ol arr =
                let z = sizes in
                let lie = few_lie rl few in
                let fs = found.fields in
                let once : repeated fs ≡ false = sym (ap repeated lie.0) ∙ arr.once refl in
                let rises : ordered text rows t.count order ≡ sorted fs = arr.rises refl ∙ ap sorted lie.0 in
                let f1 : leb (notice_size fs) 16384 ≡ true = le-leb (notice_size fs) 16384 (omega (arith, z.exact, z.short)) in
                let f2 : leb (notice_size fs) room ≡ true = le-leb (notice_size fs) room (omega (arith, z.exact, z.fits)) in
                let short : (k : ℕ) → k < t.count → (k < 64) × SpanIn text (row_in rows k) × ((row_in rows k).namelen ≤ 64) × ((row_in rows k).len ≤ 1024) = λ k h.
                let lies = row_lies text rows t.count few rl lie.1 k h in
                let g : get_or fs k blank ≡ field_in text (row_in rows k) = ap (λ (l : List Field). get_or l k blank) (sym lie.0) ∙ row_field text rows t.count few rl lie.1 k h in
                let small = right_small (field_in text (row_in rows k)) (sym (ap field_right g) ∙ right_at_lem fs k named sized (omega (arith, found.known.count))) in
                (omega arith, lies, omega (arith, small.name_fits, name_length text (row_in rows k) lies), omega (arith, small.value_fits, value_length text (row_in rows k) lies)) in
                let same_size : notice_size (ordered text rows t.count order) ≡ notice_size fs = ap notice_size rises ∙ ap (λ (n : ℕ). 8 + n) (sorted_size fs) in
                record {
                  number = sym (ap (λ (x : Said). read_by x room) found.says_them ∙ rw (named, sized, once, few-fields, f1, f2));
                  placing = λ _. record {
                    rows_long = rl;
                    order_long = ol;
                    few = few;
                    lie = each_map (drop (64 - t.count) order) short (arr.within refl);
                    size_is = z.exact ∙ sym same_size;
                    short = z.short;
                    fits = z.fits;
                  };
                  rises = λ _. rises ∙ ap sorted (sym (ap said_fields found.says_them));
                }

-- ---- the whole answer

-- no tuple of fields
pub not_tuple : (text : List ℕ) (room : ℕ) (b : Bool) → is_tuple (said text) ≡ false → b ≡ in_syntax (said text) → read_number text room ≡ cond b 23 22
not_tuple text room b e f = go (said text) e f
  where
    go : (x : Said) → is_tuple x ≡ false → b ≡ in_syntax x → read_by x room ≡ cond b 23 22
    go no_text p q = rw q
    go no_tuple p q = rw q
    go (says fs) p q = true_false p

-- what reading answers and leaves
pub record ReadIs (text buffer : List ℕ) (r : Answer) (after : List ℕ) : Type 0 where
  pub answer : r ≡ read_answer text buffer
  pub bytes : after ≡ read_bytes text buffer

module _ (text buffer : List ℕ) where
  pub read_refused : (n : ℕ) → (n ≡ 0 → ⊥) → read_number text (length buffer) ≡ n → ReadIs text buffer (record { number = n; place = 0; len = 0 }) buffer
  read_refused n z e = record { answer = rw (e, ne_eqb n 0 z); bytes = rw (e, ne_eqb n 0 z) }

  pub read_err : (e : Refusal) → number_of e ≡ read_number text (length buffer) → place_of e ≡ 0 → (answer_of (Err e) ≡ read_answer text buffer) × (buffer ≡ read_bytes text buffer)
  read_err e n p = let r = read_refused (number_of e) (λ z. no_zero e z) (sym n) in (rw p r.answer, r.bytes)

  pub read_accepted : (size : ℕ) (fs : List Field) (after : List ℕ) → read_number text (length buffer) ≡ 0 → fs ≡ sorted (said_fields (said text)) → size ≡ notice_size fs → after ≡ leaves 0 (render fs) buffer
      → ReadIs text buffer (record { number = 0; place = 0; len = size }) after
  read_accepted size fs after e f s a =
      let l : size ≡ length (render (sorted (said_fields (said text)))) = s ∙ (sym (length_render fs) ∙ ap (λ (gs : List Field). length (render gs)) f) in
      record { answer = rw (e, l); bytes = a ∙ (ap (λ (gs : List Field). leaves 0 (render gs) buffer) f ∙ rw e) }
