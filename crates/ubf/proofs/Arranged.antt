-- Rows in the order of their names: the row at a place of the order, what comparing with it tells, and one row more. Assumes nothing.
use mathlib.Core.Path.{◌≡◌, sym, ap, ap₂, ◌∙◌}
use mathlib.Core.Bool.{Bool, true, false, ◌||◌}
use mathlib.Core.List.{List, [], ◌∷◌, ◌++◌, map, append_assoc}
use Prim.Native.Nat.{ℕ, suc, ◌+◌, ◌*◌, ◌-◌, ◌≤◌, ◌<◌}
use native.Mathlib.Omega.{arith}
use lib.ListN.{length, get_or, set, take, drop, length-drop, length-map, length-append, drop_of_length-le}
use lib.Seq.{sets, sets-eq, set_at, drop_at, drop-cons, drop-drop, get_or-drop, length-take-le}
use Rattle.common.specs.Each.{Each}
use Rattle.common.proofs.Choice.{true_false, false_true}
use Rattle.common.proofs.Each.{each_map, each_at}
use Rattle.octets.specs.Octets.{same_of, before_of}
use Rattle.notice.specs.Field.{Field}
use Rattle.notice.specs.Read.{blank}
use Rattle.notice.specs.Write.{has_name, insert_field, sorted, place_among}
use Rattle.ubf.specs.Answer.{repeated}
use Rattle.ubf.specs.Span.{name_in, field_in, SpanIn, no_span, spans_in, row_in, row_fields, Rising, ArrangedIs}
use Rattle.ubf.specs.declared.spans.Span.{Span}
use Rattle.ubf.proofs.Rows.{length_spans, span_row}
use Rattle.notice.proofs.Sorted.{map_at, map_around, each_around, nth_name, place_near, insert_place, place_before, place_after, has_none, has_before, sorted_named}
use Rattle.ubf.proofs.Sorted.{sorted_rising, repeated_drop}

-- a row of an order in which names rise
pub record RowAt (text rows order : List ℕ) (first i : ℕ) : Type 0 where
  pub small : get_or order i 0 < 64
  pub near : 7 * get_or order i 0 + 7 ≤ length rows
  pub lies : SpanIn text (row_in rows (get_or order i 0))
  pub among : i - first < length (row_fields text rows (drop first order))
  pub named : name_in text (row_in rows (get_or order i 0)) ≡ nth_name (row_fields text rows (drop first order)) (i - first)

module _ (text rows order : List ℕ) (first : ℕ) (r : Rising text rows order first) where
  pub length_rows : length (row_fields text rows (drop first order)) ≡ 64 - first
  length_rows = length-map (drop first order) (λ (k : ℕ). field_in text (row_in rows k)) ∙ omega (arith, length-drop first order, r.order_long)

  pub row_at : (i : ℕ) → first ≤ i → i < 64 → RowAt text rows order first i
  row_at i p q =
      let ks = drop first order in
      let f : ℕ → Field = λ (k : ℕ). field_in text (row_in rows k) in
      let j : first + (i - first) ≡ i = omega arith in
      let e : get_or ks (i - first) 0 ≡ get_or order i 0 = get_or-drop first order (i - first) 0 ∙ ap (λ (n : ℕ). get_or order n 0) j in
      let l : i - first < length ks = omega (arith, length-drop first order, r.order_long) in
      let a = each_at (λ (k : ℕ). (k < 64) × SpanIn text (row_in rows k)) ks 0 r.lie (i - first) l in
      let b : (get_or order i 0 < 64) × SpanIn text (row_in rows (get_or order i 0)) = rw e at a in
      record {
        small = b.0;
        near = omega (arith, b.0, r.rows_long);
        lies = b.1;
        among = omega (arith, length_rows);
        named = ap (λ (g : Field). g.name) (sym (map_at f ks (i - first) 0 blank l ∙ ap f e));
      }

  -- what comparing a name with that of a row tells of its place
  module _ (i : ℕ) (p : first ≤ i) (q : i < 64) (own : List ℕ) (s : Span) (e : s ≡ row_in rows (get_or order i 0)) where
    pub not_after : before_of own (name_in text s) ≡ true → first + place_among own (row_fields text rows (drop first order)) ≤ i
    not_after h =
        let a = row_at i p q in
        let b = place_before own (row_fields text rows (drop first order)) (i - first) a.among (ap (before_of own) (sym (ap (name_in text) e ∙ a.named)) ∙ h) in
        omega arith

    pub after : before_of own (name_in text s) ≡ false → i + 1 ≤ first + place_among own (row_fields text rows (drop first order))
    after h =
        let a = row_at i p q in
        let b = place_after own (row_fields text rows (drop first order)) (i - first) r.rise a.among (ap (before_of own) (sym (ap (name_in text) e ∙ a.named)) ∙ h) in
        omega arith

  pub place_within : (own : List ℕ) → first + place_among own (row_fields text rows (drop first order)) ≤ 64
  place_within own = omega (arith, place_near own (row_fields text rows (drop first order)), length_rows, r.near)

  -- whether a name is there already
  pub there : (own : List ℕ) (at : ℕ) → at ≡ first + place_among own (row_fields text rows (drop first order)) → at ≤ first → false ≡ has_name own (row_fields text rows (drop first order))
  there own at e h = sym (has_none own (row_fields text rows (drop first order)) r.rise (omega arith))

  pub there_before : (own : List ℕ) (at : ℕ) (s : Span) → at ≡ first + place_among own (row_fields text rows (drop first order)) → first < at → s ≡ row_in rows (get_or order (at - 1) 0)
      → same_of (name_in text s) own ≡ has_name own (row_fields text rows (drop first order))
  there_before own at s e h q =
      let w = place_within own in
      let a = row_at (at - 1) (omega arith) (omega arith) in
      let gs = row_fields text rows (drop first order) in
      let k : place_among own gs ≡ suc (at - 1 - first) = omega arith in
      ap (λ (n : List ℕ). same_of n own) (ap (name_in text) q ∙ a.named) ∙ sym (has_before own gs (at - 1 - first) r.rise k)

-- ---- one row more

-- the order after the rows before `at` have moved down and the new one is stored
pub order_more : (order : List ℕ) (first at v : ℕ) → 0 < first → first ≤ at → at ≤ length order
    → drop (first - 1) (set (sets order (first - 1) (take (at - first) (drop first order))) (at - 1) v) ≡ take (at - first) (drop first order) ++ (v ∷ drop (at - first) (drop first order))
order_more order first at v z p q =
    let n = at - first in
    let i = first - 1 in
    let x = take n (drop first order) in
    let ld = length-drop first order in
    let lx : length x ≡ n = length-take-le n (drop first order) (omega arith) in
    let li : length (take i order) ≡ i = length-take-le i order (omega arith) in
    let j : i + length x ≡ at - 1 = omega arith in
    let k : suc (at - 1) ≡ at = omega arith in
    let m : first + n ≡ at = omega arith in
    let c : drop (i + length x) order ≡ get_or order (at - 1) 0 ∷ drop at order =
    ap (λ (t : ℕ). drop t order) j ∙ (drop-cons order (at - 1) 0 (omega arith) ∙ ap (λ (t : ℕ). get_or order (at - 1) 0 ∷ drop t order) k) in
    let d : drop at order ≡ drop n (drop first order) = sym (drop-drop n first order ∙ ap (λ (t : ℕ). drop t order) m) in
    let s : sets order i x ≡ (take i order ++ x) ++ (get_or order (at - 1) 0 ∷ drop at order) = sets-eq x order i (omega arith) ∙ ap (λ (t : List ℕ). (take i order ++ x) ++ t) c in
    let l : length (take i order ++ x) ≡ at - 1 = length-append (take i order) x ∙ omega arith in
    ap (λ (t : List ℕ). drop i (set t (at - 1) v)) s
    ∙ (ap (drop i) (set_at (take i order ++ x) (get_or order (at - 1) 0) (drop at order) v (at - 1) l ∙ append_assoc (take i order) x (v ∷ drop at order))
    ∙ (drop_at (take i order) (x ++ (v ∷ drop at order)) i li
    ∙ ap (λ (t : List ℕ). x ++ (v ∷ t)) d))

-- the rows from `left` on are in order
pub record Sofar (text rows : List ℕ) (count : ℕ) (order : List ℕ) (left : ℕ) : Type 0 where
  pub within : Each (λ (k : ℕ). k < count) (drop (64 - count + left) order)
  pub rises : row_fields text rows (drop (64 - count + left) order) ≡ sorted (drop left (map (field_in text) (spans_in count rows)))
  pub once : repeated (drop left (map (field_in text) (spans_in count rows))) ≡ false

module _ (text rows : List ℕ) (count : ℕ) (few : count ≤ 64) (long : length rows ≡ 448) (lie : Each (SpanIn text) (spans_in count rows)) where
  pub row_lies : (k : ℕ) → k < count → SpanIn text (row_in rows k)
  row_lies k h = rw (span_row count k rows h) at (each_at (SpanIn text) (spans_in count rows) no_span lie k (omega (arith, length_spans count rows)))

  pub row_field : (k : ℕ) → k < count → get_or (map (field_in text) (spans_in count rows)) k blank ≡ field_in text (row_in rows k)
  row_field k h = map_at (field_in text) (spans_in count rows) k no_span blank (omega (arith, length_spans count rows)) ∙ ap (field_in text) (span_row count k rows h)

  -- the fields from row k on
  fields_from_lem : (k : ℕ) → k < count → drop k (map (field_in text) (spans_in count rows)) ≡ field_in text (row_in rows k) ∷ drop (suc k) (map (field_in text) (spans_in count rows))
  fields_from_lem k h =
      let ss = spans_in count rows in
      let l = length_spans count rows in
      let m : length (map (field_in text) ss) ≡ length ss = length-map ss (field_in text) in
      drop-cons (map (field_in text) ss) k blank (omega arith)
      ∙ ap (λ (f : Field). f ∷ drop (suc k) (map (field_in text) ss)) (row_field k h)

  module _ (order : List ℕ) (whole : length order ≡ 64) (left : ℕ) (s : Sofar text rows count order left) (some : 0 < left) (most : left ≤ count) where
    pub rising_rows : Rising text rows order (64 - count + left)
    rising_rows =
        record {
          rows_long = long;
          order_long = whole;
          near = omega arith;
          lie = each_map (drop (64 - count + left) order) (λ k h. (omega arith, row_lies k h)) s.within;
          rise = rw s.rises (sorted_rising (drop left (map (field_in text) (spans_in count rows))) s.once);
        }

    here : drop (left - 1) (map (field_in text) (spans_in count rows)) ≡ field_in text (row_in rows (left - 1)) ∷ drop left (map (field_in text) (spans_in count rows))
    here =
        let k : suc (left - 1) ≡ left = omega arith in
        fields_from_lem (left - 1) (omega arith) ∙ ap (λ (n : ℕ). field_in text (row_in rows (left - 1)) ∷ drop n (map (field_in text) (spans_in count rows))) k

    named_there : (b : Bool) → b ≡ has_name (name_in text (row_in rows (left - 1))) (row_fields text rows (drop (64 - count + left) order))
        → has_name (name_in text (row_in rows (left - 1))) (drop left (map (field_in text) (spans_in count rows))) ≡ b
    named_there b e =
        let own = name_in text (row_in rows (left - 1)) in
        sym (e ∙ (ap (has_name own) s.rises ∙ sorted_named own (drop left (map (field_in text) (spans_in count rows)))))

    pub repeated_here : true ≡ has_name (name_in text (row_in rows (left - 1))) (row_fields text rows (drop (64 - count + left) order)) → repeated (map (field_in text) (spans_in count rows)) ≡ true
    repeated_here e =
        let fs = map (field_in text) (spans_in count rows) in
        repeated_drop fs (left - 1) (ap repeated here ∙ ap (λ (b : Bool). b || repeated (drop left fs)) (named_there true e))

    pub sofar_more : (at : ℕ) → at ≡ 64 - count + left + place_among (name_in text (row_in rows (left - 1))) (row_fields text rows (drop (64 - count + left) order))
        → false ≡ has_name (name_in text (row_in rows (left - 1))) (row_fields text rows (drop (64 - count + left) order))
        → Sofar text rows count (set (sets order (64 - count + left - 1) (take (at - (64 - count + left)) (drop (64 - count + left) order))) (at - 1) (left - 1)) (left - 1)
    unfolding sorted
    sofar_more at e new =
        let f0 = 64 - count + left in
        let fs = map (field_in text) (spans_in count rows) in
        let f = field_in text (row_in rows (left - 1)) in
        let g : ℕ → Field = λ (k : ℕ). field_in text (row_in rows k) in
        let ks = drop f0 order in
        let r = rising_rows in
        let w = place_within text rows order f0 r f.name in
        let i : 64 - count + (left - 1) ≡ f0 - 1 = omega arith in
        let n : at - f0 ≡ place_among f.name (row_fields text rows ks) = omega arith in
        let o = order_more order f0 at (left - 1) (omega arith) (omega arith) (omega (arith, w)) in
        let order' = set (sets order (f0 - 1) (take (at - f0) ks)) (at - 1) (left - 1) in
        let d : drop (64 - count + (left - 1)) order' ≡ take (at - f0) ks ++ ((left - 1) ∷ drop (at - f0) ks) = ap (λ (t : ℕ). drop t order') i ∙ o in
        record {
          within = rw d (each_around (λ (k : ℕ). k < count) (at - f0) ks (left - 1) s.within (omega arith));
          rises =
              ap (map g) d
              ∙ (map_around g (at - f0) ks (left - 1)
              ∙ (ap (λ (t : ℕ). take t (row_fields text rows ks) ++ (f ∷ drop t (row_fields text rows ks))) n
              ∙ (sym (insert_place f (row_fields text rows ks))
              ∙ (ap (insert_field f) s.rises ∙ ap sorted (sym here)))));
          once = ap repeated here ∙ ap₂ (λ (a b : Bool). a || b) (named_there false new) s.once;
        }

  pub sofar_start : (order : List ℕ) → length order ≡ 64 → Sofar text rows count order count
  unfolding sorted
  sofar_start order whole =
      let d : drop (64 - count + count) order ≡ [] = drop_of_length-le order {i = 64 - count + count} (omega arith) in
      let l = length_spans count rows in
      let m : length (map (field_in text) (spans_in count rows)) ≡ length (spans_in count rows) = length-map (spans_in count rows) (field_in text) in
      let e : drop count (map (field_in text) (spans_in count rows)) ≡ [] = drop_of_length-le (map (field_in text) (spans_in count rows)) {i = count} (omega arith) in
      record { within = rw d tt; rises = rw (d, e); once = rw e }

  pub arranged : (order : List ℕ) (left : ℕ) → left ≤ 0 → Sofar text rows count order left → ArrangedIs text rows count order true
  arranged order left z s =
      let e : left ≡ 0 = omega arith in
      let i : 64 - count + 0 ≡ 64 - count = omega arith in
      let t : Sofar text rows count order 0 = rw e at s in
      record {
        again = λ p. true_false p;
        once = λ _. t.once;
        within = λ _. rw i at t.within;
        rises = λ _. rw i at t.rises;
      }

  pub not_arranged : (order : List ℕ) → repeated (map (field_in text) (spans_in count rows)) ≡ true → ArrangedIs text rows count order false
  not_arranged order e = record { again = λ _. e; once = λ p. false_true p; within = λ p. false_true p; rises = λ p. false_true p }
