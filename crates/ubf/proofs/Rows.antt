-- Spans as rows of numbers: how many they are, which is at a place, and one row more. Assumes nothing.
use mathlib.Core.Path.{◌≡◌, refl, sym, ap, ap₂, ◌∙◌}
use mathlib.Core.Bool.{Bool, true, false}
use mathlib.Core.List.{List, [], ◌∷◌, ◌++◌, append_assoc, map-append}
use Prim.Native.Nat.{ℕ, zero, suc, ◌+◌, ◌*◌, ◌/◌, ◌≤◌, ◌<◌}
use native.Mathlib.Omega.{arith}
use native.Mathlib.Numerals.{add-one, add-two, add-three, add-four, add_five, add_six}
use borrow.Author.Tests.{lt-ltb, le-ltb}
use lib.Dec.{ltb}
use lib.ListN.{length, get_or, set, take, drop}
use lib.Seq.{sets, length-sets, sets-eq, drop-set-add, drop-drop, drop_at, length-take-le, get_or-drop}
use Rattle.common.specs.Choice.{pick}
use Rattle.common.proofs.Choice.{pick_yes, pick_no}
use Rattle.common.proofs.Each.{each_append}
use Rattle.common.proofs.Stores.{sets_before}
use Rattle.notice.specs.Field.{Field}
use Rattle.ubf.specs.Fields.{add}
use Rattle.ubf.specs.Span.{field_in, SpanIn, no_span, span_in, row_of, spans_in, kept_in, Stored}
use Rattle.ubf.specs.declared.spans.Span.{Span}

-- ---- rows by their place

pub length_spans : (n : ℕ) (rows : List ℕ) → length (spans_in n rows) ≡ n
unfolding spans_in
length_spans zero rows = refl
length_spans (suc n) rows = ap suc (length_spans n (drop 7 rows))

later_row : (k : ℕ) (rows : List ℕ) → drop (7 * k) (drop 7 rows) ≡ drop (7 * suc k) rows
later_row k rows =
    let e : 7 + 7 * k ≡ 7 * suc k = omega arith in
    drop-drop (7 * k) 7 rows ∙ ap (λ (i : ℕ). drop i rows) e

pub span_row : (n k : ℕ) (rows : List ℕ) → k < n → get_or (spans_in n rows) k no_span ≡ span_in (drop (7 * k) rows)
unfolding spans_in
span_row zero k rows h = absurd (omega arith)
span_row (suc n) zero rows h = refl
span_row (suc n) (suc k) rows h = span_row n k (drop 7 rows) (omega arith) ∙ ap span_in (later_row k rows)

pub spans_last : (n : ℕ) (rows : List ℕ) → spans_in (suc n) rows ≡ spans_in n rows ++ (span_in (drop (7 * n) rows) ∷ [])
unfolding spans_in
spans_last zero rows = refl
spans_last (suc n) rows =
    ap (λ (l : List Span). span_in rows ∷ l) (spans_last n (drop 7 rows))
    ∙ ap (λ (s : List ℕ). span_in rows ∷ (spans_in n (drop 7 rows) ++ (span_in s ∷ []))) (later_row n rows)

-- the numbers of a row, one by one
pub row_read : (rows : List ℕ) (i : ℕ) → record {
  kind = get_or rows i 0;
  name = get_or rows (i + 1) 0;
  namelen = get_or rows (i + 2) 0;
  nameescapes = get_or rows (i + 3) 0;
  value = get_or rows (i + 4) 0;
  len = get_or rows (i + 5) 0;
  escapes = get_or rows (i + 6) 0;
  next = 0;
} ≡ span_in (drop i rows)
row_read rows i =
    let e : i + 0 ≡ i = omega arith in
    let z : get_or (drop i rows) 0 0 ≡ get_or rows i 0 = get_or-drop i rows 0 0 ∙ ap (λ (k : ℕ). get_or rows k 0) e in
    rw (z, get_or-drop i rows 1 0, get_or-drop i rows 2 0, get_or-drop i rows 3 0, get_or-drop i rows 4 0, get_or-drop i rows 5 0, get_or-drop i rows 6 0)

-- ---- a stored row

drop_sets : (n : ℕ) (vs l : List ℕ) (i : ℕ) → drop n (sets l (n + i) vs) ≡ sets (drop n l) i vs
drop_sets n [] l i = refl
drop_sets n (v ∷ vs) l i =
    let e : suc (n + i) ≡ n + suc i = omega arith in
    ap (λ (k : ℕ). drop n (sets (set l (n + i) v) k vs)) e
    ∙ drop_sets n vs (set l (n + i) v) (suc i)
    ∙ ap (λ (t : List ℕ). sets t (suc i) vs) (drop-set-add n l i v)

-- a row has the numbers at the first seven places
same_row : (a b : List ℕ) → ((j : ℕ) → j < 7 → get_or a j 0 ≡ get_or b j 0) → span_in a ≡ span_in b
same_row a b h =
    let e0 = h 0 (omega arith) in
    let e1 = h 1 (omega arith) in
    let e2 = h 2 (omega arith) in
    let e3 = h 3 (omega arith) in
    let e4 = h 4 (omega arith) in
    let e5 = h 5 (omega arith) in
    let e6 = h 6 (omega arith) in
    rw (e0, e1, e2, e3, e4, e5, e6)

-- earlier rows stay
spans_before : (n : ℕ) (rows vs : List ℕ) → spans_in n (sets rows (7 * n) vs) ≡ spans_in n rows
unfolding spans_in
spans_before zero rows vs = refl
spans_before (suc n) rows vs =
    let e : 7 * suc n ≡ 7 + 7 * n = omega arith in
    let first : span_in (sets rows (7 * suc n) vs) ≡ span_in rows = same_row (sets rows (7 * suc n) vs) rows (λ j h. sets_before vs rows (7 * suc n) j (omega arith)) in
    let others : drop 7 (sets rows (7 * suc n) vs) ≡ sets (drop 7 rows) (7 * n) vs = ap (λ (i : ℕ). drop 7 (sets rows i vs)) e ∙ drop_sets 7 vs rows (7 * n) in
    ap₂ (λ (s : Span) (l : List Span). s ∷ l) first (ap (spans_in n) others ∙ spans_before n (drop 7 rows) vs)

-- the span that is read back from a row, which does not say where the next item starts
abbrev read_back : Span → Span
read_back s = record {
  kind = s.kind;
  name = s.name;
  namelen = s.namelen;
  nameescapes = s.nameescapes;
  value = s.value;
  len = s.len;
  escapes = s.escapes;
  next = 0;
}

row_back : (rows : List ℕ) (k : ℕ) (s : Span) → 7 * k + 7 ≤ length rows → span_in (drop (7 * k) (sets rows (7 * k) (row_of s))) ≡ read_back s
row_back rows k s h =
    let i = 7 * k in
    let t : length (take i rows) ≡ i = length-take-le i rows (omega arith) in
    let d : drop i (sets rows i (row_of s)) ≡ row_of s ++ drop (i + 7) rows =
    ap (drop i) (sets-eq (row_of s) rows i h ∙ append_assoc (take i rows) (row_of s) (drop (i + 7) rows)) ∙ drop_at (take i rows) (row_of s ++ drop (i + 7) rows) i t in
    ap span_in d

pub length_kept : (rows : List ℕ) (k : ℕ) (s : Span) → length (kept_in rows k s) ≡ length rows
length_kept rows k s = go (ltb k (length rows / 7))
  where
    go : (b : Bool) → length (pick b (λ _. sets rows (7 * k) (row_of s)) (λ _. rows)) ≡ length rows
    go true = length-sets rows (7 * k) (row_of s)
    go false = refl

-- .. stored number by number
pub row_kept : (rows : List ℕ) (k : ℕ) (s : Span) → k < length rows / 7
    → set (set (set (set (set (set (set rows (7 * k) s.kind) (7 * k + 1) s.name) (7 * k + 2) s.namelen) (7 * k + 3) s.nameescapes) (7 * k + 4) s.value) (7 * k + 5) s.len) (7 * k + 6) s.escapes
    ≡ kept_in rows k s
row_kept rows k s h = rw (add-one, add-two, add-three, add-four, add_five, add_six) (sym (pick_yes (ltb k (length rows / 7)) (λ _. sets rows (7 * k) (row_of s)) (λ _. rows) (lt-ltb k (length rows / 7) h)))

pub row_left : (rows : List ℕ) (k : ℕ) (s : Span) → length rows / 7 ≤ k → rows ≡ kept_in rows k s
row_left rows k s h = sym (pick_no (ltb k (length rows / 7)) (λ _. sets rows (7 * k) (row_of s)) (λ _. rows) (le-ltb k (length rows / 7) h))

kept_spans : (rows : List ℕ) (k : ℕ) (s : Span) → k < length rows / 7 → spans_in (suc k) (kept_in rows k s) ≡ spans_in k rows ++ (read_back s ∷ [])
kept_spans rows k s h =
    ap (spans_in (suc k)) (pick_yes (ltb k (length rows / 7)) (λ _. sets rows (7 * k) (row_of s)) (λ _. rows) (lt-ltb k (length rows / 7) h))
    ∙ spans_last k (sets rows (7 * k) (row_of s))
    ∙ ap₂ (λ (l : List Span) (t : Span). l ++ (t ∷ [])) (spans_before k rows (row_of s)) (row_back rows k s (omega arith))

back_lies : (text : List ℕ) (s : Span) → SpanIn text s → SpanIn text (read_back s)
back_lies text s h = record { named = h.named; valued = h.valued }

-- one field more is stored
pub stored_more : (text : List ℕ) (fs : List Field) (k : ℕ) (rows : List ℕ) (s : Span) → SpanIn text s → Stored text fs k rows → Stored text (add fs (field_in text s)) (k + 1) (kept_in rows k s)
stored_more text fs k rows s lies was room =
    let n : length (kept_in rows k s) ≡ length rows = length_kept rows k s in
    let m : k + 1 ≤ length rows / 7 = rw n at room in
    let old = was (omega arith) in
    let new : spans_in (k + 1) (kept_in rows k s) ≡ spans_in k rows ++ (read_back s ∷ []) = rw add-one (kept_spans rows k s (omega arith)) in
    rw new (
      map-append (field_in text) (spans_in k rows) (read_back s ∷ []) ∙ ap (λ (l : List Field). add l (field_in text s)) old.0,
      each_append (SpanIn text) (spans_in k rows) (read_back s ∷ []) old.1 (back_lies text s lies, tt),
    )
