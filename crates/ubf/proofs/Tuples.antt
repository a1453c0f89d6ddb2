-- What is known of fields with one field more, of all fields of a tuple, and of the tuple that a text is. Assumes nothing.
use mathlib.Core.Path.{◌≡◌, refl, sym, ap, ap₂, ◌∙◌}
use mathlib.Core.Bool.{Bool, true, false, cond, ◌&&◌, ◌||◌, and-true, and_assoc}
use mathlib.Core.List.{List, [], ◌∷◌, ◌++◌}
use mathlib.Core.Logic.{inl, inr}
use Prim.Native.Nat.{ℕ, ◌+◌, ◌≤◌, ◌<◌}
use native.Mathlib.Omega.{arith}
use native.Mathlib.Numerals.{add-one}
use borrow.Author.Tests.{leb-true, ltb-true, ltb-false, le-ltb}
use lib.Dec.{leb, ltb}
use lib.ListN.{length, get_or, length-append, get_or-eq_default}
use Rattle.common.proofs.Choice.{true_false, false_true}
use Rattle.octets.proofs.Places.{neither}
use Rattle.octets.proofs.Theorems.{and_parts}
use Rattle.notice.specs.Field.{Field, printable, name_right, size_right}
use Rattle.notice.specs.Write.{field_size}
use Rattle.notice.specs.Render.{field_bytes, fields_bytes}
use Rattle.notice.proofs.Fields.{length_field}
use Rattle.notice.proofs.Inserts.{fields_append}
use Rattle.ubf.specs.Item.{Item, mark, between, state, start, fresh, step}
use Rattle.ubf.specs.Fields.{outside, names, add, next, phase_of, said, is_tuple}
use Rattle.ubf.specs.Answer.{names_right, sizes_right, notice_size}
use Rattle.ubf.specs.Scan.{onward, BlanksTo}
use Rattle.ubf.specs.Span.{value_in, name_in, field_in, ValuePart, SpanIn, Ready, Advance, FieldFound, FieldIs, SizeIs, size_more, spans_in, kept_in, Known, tuple_at, Grown, Collected, CollectedIs, EndsIs, TupleIs}
use Rattle.ubf.specs.declared.spans.Span.{Span}
use Rattle.ubf.specs.declared.spans.Tuple.{Tuple}
use Rattle.ubf.proofs.Machine.{onward_step}
use Rattle.ubf.proofs.Parts.{length_bytes, length_value}
use Rattle.ubf.proofs.Rows.{length_kept, stored_more}
use Rattle.ubf.proofs.Dead.{refused, outside_refuses}
use Rattle.ubf.proofs.Advances.{ready_names, cut}

-- ---- one field more

names_add : (fs : List Field) (f : Field) → names_right (add fs f) ≡ (names_right fs && name_right f.name)
names_add [] f = and-true (name_right f.name)
names_add (g ∷ fs) f = ap (λ (b : Bool). name_right g.name && b) (names_add fs f) ∙ sym (and_assoc (name_right g.name) (names_right fs) (name_right f.name))

sizes_add : (fs : List Field) (f : Field) → sizes_right (add fs f) ≡ (sizes_right fs && size_right f.kind (length f.value))
sizes_add [] f = and-true (size_right f.kind (length f.value))
sizes_add (g ∷ fs) f =
    ap (λ (b : Bool). size_right g.kind (length g.value) && b) (sizes_add fs f)
    ∙ sym (and_assoc (size_right g.kind (length g.value)) (sizes_right fs) (size_right f.kind (length f.value)))

size_add : (fs : List Field) (f : Field) → notice_size (add fs f) ≡ notice_size fs + field_size f
size_add fs f =
    let a = ap length (fields_append fs (f ∷ [])) in
    let b = length-append (fields_bytes fs) (field_bytes f ++ []) in
    let c = length-append (field_bytes f) [] in
    omega (arith, length_field f)

-- the size that a span's kind allows
size_right_lem : (text : List ℕ) (kind at len : ℕ) (e : Bool) → ValuePart text kind at len e → size_right kind (length (value_in text kind at len e)) ≡ leb len 1024
size_right_lem text kind at len e p = ap (size_right kind) (length_value text kind at len e p) ∙ go p
  where
    go : ValuePart text kind at len e → size_right kind len ≡ leb len 1024
    go (inl q) = rw (q.0, q.1)
    go (inr (inl q)) = rw (q.0, q.1)
    go (inr (inr (inl q))) = rw q.0
    go (inr (inr (inr q))) = rw q.0

name_short : (name : List ℕ) → name_right name ≡ true → length name ≤ 64
name_short name e =
    let p = and_parts (leb 1 (length name) && leb (length name) 64) (printable name) e in
    let q = and_parts (leb 1 (length name)) (leb (length name) 64) p.0 in
    leb-true (length name) 64 q.1

size_more_lem : (fs : List Field) (f : Field) (size namelen len : ℕ) → length f.name ≡ namelen → length f.value ≡ len → namelen ≤ 64 → len ≤ 1024 → SizeIs fs size → SizeIs (add fs f) (size_more size namelen len)
size_more_lem fs f size namelen len n l small short s = go (ltb 16384 size) refl s
  where
    grows : notice_size (add fs f) ≡ notice_size fs + (5 + namelen + len)
    grows = size_add fs f ∙ ap₂ (λ (a b : ℕ). notice_size fs + (5 + a + b)) n l

    go : (b : Bool) → ltb 16384 size ≡ b → SizeIs fs size → SizeIs (add fs f) (cond (b || ltb 64 namelen || ltb 1024 len) size (size + 5 + namelen + len))
    go true b (inl e) = let h = ltb-true 16384 size b in inr (h, omega (arith, grows))
    go true b (inr e) = inr (e.0, omega (arith, grows, e.1))
    go false b (inl e) =
        let z : size + 5 + namelen + len ≡ notice_size (add fs f) = omega (arith, grows) in
        rw (le-ltb 64 namelen small, le-ltb 1024 len short) (inl z)
    go false b (inr e) = let h = ltb-false 16384 size b in absurd (omega (arith, e.0))

pub size_small : (size namelen len : ℕ) → (ltb 16384 size || ltb 64 namelen || ltb 1024 len) ≡ false → (size ≤ 16384) × (namelen ≤ 64) × (len ≤ 1024)
size_small size namelen len e =
    let p = neither (ltb 16384 size || ltb 64 namelen) (ltb 1024 len) e in
    let q = neither (ltb 16384 size) (ltb 64 namelen) p.0 in
    (ltb-false 16384 size q.0, ltb-false 64 namelen q.1, ltb-false 1024 len p.1)

-- the exact size where the names and sizes are right
known_size : (text : List ℕ) (fs : List Field) (s : Span) (size : ℕ) → SpanIn text s → (names_right fs ≡ true → sizes_right fs ≡ true → SizeIs fs size)
    → names_right (add fs (field_in text s)) ≡ true → sizes_right (add fs (field_in text s)) ≡ true → SizeIs (add fs (field_in text s)) (size_more size s.namelen s.len)
known_size text fs s size lies was n z =
    let f = field_in text s in
    let p = and_parts (names_right fs) (name_right f.name) (sym (names_add fs f) ∙ n) in
    let q = and_parts (sizes_right fs) (size_right f.kind (length f.value)) (sym (sizes_add fs f) ∙ z) in
    let a : length f.name ≡ s.namelen = length_bytes text s.name s.namelen (ltb 0 s.nameescapes) lies.named in
    let b : length f.value ≡ s.len = length_value text s.kind s.value s.len (ltb 0 s.escapes) lies.valued in
    let c : s.namelen ≤ 64 = omega (arith, a, name_short f.name p.1) in
    let d : s.len ≤ 1024 = leb-true s.len 1024 (sym (size_right_lem text s.kind s.value s.len (ltb 0 s.escapes) lies.valued) ∙ q.1) in
    size_more_lem fs f size s.namelen s.len a b c d (was p.0 q.0)

length_add : (fs : List Field) (f : Field) → length (add fs f) ≡ length fs + 1
length_add fs f = length-append fs (f ∷ [])

pub grown_is : (text : List ℕ) (s : Span) (t : Tuple) (right : Bool) (size : ℕ) → right ≡ name_right (name_in text s) → size ≡ size_more t.size s.namelen s.len
    → Grown text s t (record { right = t.right; at = s.next; count = t.count + 1; named = t.named && right; sized = t.sized && leb s.len 1024; size = size })
grown_is text s t right size n z = record {
  right = refl;
  at = refl;
  known = λ fs rows lies k. record {
    count = ap (λ (m : ℕ). m + 1) k.count ∙ sym (length_add fs (field_in text s));
    named = ap₂ (λ (a b : Bool). a && b) k.named n ∙ sym (names_add fs (field_in text s));
    sized =
        ap₂ (λ (a b : Bool). a && b) k.sized (sym (size_right_lem text s.kind s.value s.len (ltb 0 s.escapes) lies.valued))
        ∙ sym (sizes_add fs (field_in text s));
    size = λ a b. rw z (known_size text fs s t.size lies k.size a b);
    stored = stored_more text fs t.count rows s lies k.stored;
  };
}

-- ---- all fields

-- the fields that were read so far
pub record Collecting (text : List ℕ) (at : ℕ) (rows₀ rows : List ℕ) (t : Tuple) : Type 0 where
  pub right : t.right ≡ true
  pub rooms : length rows ≡ length rows₀
  pub fields : List Field
  pub near : t.at ≤ length text
  pub few : t.count ≤ t.at
  pub known : Known text fields rows t
  pub goes : (its : List Item) (d : ℕ) → Ready text at its [] → Advance text at its d t.at fields

known_none : (text rows : List ℕ) (right : Bool) (at : ℕ) → Known text [] rows (tuple_at right at)
unfolding spans_in
known_none text rows right at = record { count = refl; named = refl; sized = refl; size = λ _ _. inl refl; stored = λ _. (refl, tt) }

pub collecting_none : (text : List ℕ) (at : ℕ) (rows : List ℕ) (t : Tuple) → at ≤ length text → t ≡ tuple_at true at → Collecting text at rows rows t
collecting_none text at rows t l e = rw e (record {
  right = refl;
  rooms = refl;
  fields = [];
  near = l;
  few = omega arith;
  known = known_none text rows true at;
  goes = λ its d w. record { items = its; ready = w; goes = refl };
})

module _ (text : List ℕ) (at : ℕ) (rows₀ rows : List ℕ) (t : Tuple) (c : Collecting text at rows₀ rows t) where
  pub collecting_more : (s : Span) (after : List ℕ) (r : Tuple) → FieldFound text t.at s → after ≡ kept_in rows t.count s → Grown text s t r → Collecting text at rows₀ after r
  collecting_more s after r f kept g =
      let k : Known text (add c.fields (field_in text s)) (kept_in rows t.count s) r = g.known c.fields rows f.lies c.known in
      let n = length_add c.fields (field_in text s) in
      record {
        right = g.right ∙ c.right;
        rooms = ap length kept ∙ length_kept rows t.count s ∙ c.rooms;
        fields = add c.fields (field_in text s);
        near = omega (arith, g.at, f.near);
        few = omega (arith, k.count, c.known.count, c.few, f.later, g.at);
        known = rw kept k;
        goes = λ its d w.
            let a = c.goes its d w in
            let b = f.goes c.fields a.items d a.ready in
            rw g.at (record { items = b.items; ready = b.ready; goes = a.goes ∙ b.goes });
      }

  -- where no name stands
  pub collected : (get_or text t.at 0 ≡ 34 → ⊥) → CollectedIs text at rows t
  collected n = record {
    none = λ e. false_true (sym e ∙ c.right);
    found = λ _. record { fields = c.fields; near = c.near; nameless = n; known = c.known; goes = c.goes };
  }

  pub collected_end : length text ≤ t.at → CollectedIs text at rows t
  collected_end l = collected (λ e. let z : get_or text t.at 0 ≡ 0 = get_or-eq_default text 0 {n = t.at} l in omega (arith, e, z))

  -- where a name stands, and no field
  pub collected_none : (s : Span) (r : Tuple) → FieldIs text t.at s → s.kind ≡ 0 → r ≡ tuple_at false at → CollectedIs text at rows r
  collected_none s r f k e = record {
    none = λ _ its d w. let a = c.goes its d w in ap is_tuple a.goes ∙ f.none k c.fields a.items d a.ready;
    found = λ z. false_true (sym (ap (λ (x : Tuple). x.right) e) ∙ z);
  }

-- ---- the tuple that a text is

no_tuple_lem : (text rows : List ℕ) (t : Tuple) → t.right ≡ false → is_tuple (said text) ≡ false → TupleIs text rows t
no_tuple_lem text rows t e h = record { none = λ _. h; found = λ z. true_false (sym z ∙ e) }

open_step : step start 123 ≡ state between (mark 123 ∷ []) 1
unfolding step fresh
open_step = refl

none_phase : phase_of [] ≡ outside
unfolding phase_of
none_phase = refl

open_phase : phase_of (mark 123 ∷ []) ≡ names []
unfolding phase_of next
open_phase = refl

module _ (text : List ℕ) (first : ℕ) (b : BlanksTo text 0 first) where
  pub tuple_cut : (rows : List ℕ) (at : ℕ) (t : Tuple) → first ≡ length text → t ≡ tuple_at false at → TupleIs text rows t
  tuple_cut rows at t h e = no_tuple_lem text rows t (ap (λ (x : Tuple). x.right) e) (ap is_tuple (cut text 0 first b h [] 0))

  pub tuple_other : (rows : List ℕ) (at : ℕ) (t : Tuple) → first < length text → (get_or text first 0 ≡ 123 → ⊥) → t ≡ tuple_at false at → TupleIs text rows t
  tuple_other rows at t l h e =
      no_tuple_lem text rows t (ap (λ (x : Tuple). x.right) e)
      (ap is_tuple (b.goes [] 0) ∙ refused text first [] 0 outside l (b.item l) none_phase (outside_refuses (get_or text first 0) h))

  module _ (l : first < length text) (e : get_or text first 0 ≡ 123) (at : ℕ) (a : BlanksTo text (first + 1) at) (rows : List ℕ) (t : Tuple) (c : CollectedIs text at rows t) where
    opens : said text ≡ onward text at (state between (mark 123 ∷ []) 1)
    opens =
        b.goes [] 0
        ∙ onward_step text first 123 start (state between (mark 123 ∷ []) 1) l e open_step
        ∙ ap (λ (i : ℕ). onward text i (state between (mark 123 ∷ []) 1)) (sym (add-one first))
        ∙ a.goes (mark 123 ∷ []) 1

    ready : Ready text at (mark 123 ∷ []) []
    ready = ready_names text (first + 1) at (mark 123 ∷ []) [] a open_phase

    pub tuple_none : t.right ≡ false → TupleIs text rows t
    tuple_none n = no_tuple_lem text rows t n (ap is_tuple opens ∙ c.none n (mark 123 ∷ []) 1 ready)

    module _ (right : t.right ≡ true) (r : Bool) (ends : EndsIs text t.at r) where
      found : Collected text at rows t
      found = c.found right

      advance : Advance text at (mark 123 ∷ []) 1 t.at found.fields
      advance = found.goes (mark 123 ∷ []) 1 ready

      pub tuple-found : r ≡ true → TupleIs text rows t
      tuple-found z = record {
        none = λ n. true_false (sym right ∙ n);
        found = λ _. record {
          fields = found.fields;
          says_them = opens ∙ advance.goes ∙ ends.ends z found.fields advance.items advance.ready;
          known = found.known;
        };
      }

      pub tuple-open : (u : Tuple) (i : ℕ) → r ≡ false → u ≡ tuple_at false i → TupleIs text rows u
      tuple-open u i z h =
          no_tuple_lem text rows u (ap (λ (x : Tuple). x.right) h)
          (ap is_tuple (opens ∙ advance.goes) ∙ ends.none z found.nameless found.fields advance.items advance.ready)
