-- Places within the one tuple that a text is: what comes there, and the fields from there on. Assumes nothing.
use mathlib.Core.Path.{◌≡◌, refl, sym, ap, ap₂, ◌∙◌}
use mathlib.Core.Logic.{inl}
use mathlib.Core.Bool.{Bool, true, false, ◌||◌, or-false}
use mathlib.Core.List.{List, [], ◌∷◌, ◌++◌, append_assoc, append-nil}
use Prim.Native.Nat.{ℕ, ◌+◌, ◌<◌}
use native.Mathlib.Decide.{dec_lt}
use native.Mathlib.Omega.{arith}
use native.Mathlib.Numerals.{add-one}
use borrow.Author.Tests.{eqb-true, eqb-false}
use lib.Dec.{eqb}
use lib.ListN.{length, get_or, take, drop, take-append-drop, get_or-eq_default}
use lib.Seq.{take-append_seam, drop-append_seam, drop-length}
use Rattle.common.proofs.Choice.{true_false, false_true}
use Rattle.octets.specs.Octets.{same_of}
use Rattle.notice.specs.Field.{Field}
use Rattle.notice.specs.Write.{has_name}
use Rattle.ubf.specs.Item.{Item, mark, between, state, start, step, fresh}
use Rattle.ubf.specs.Fields.{Said, no_text, no_tuple, says, outside, names, add, next, phase_of, said, is_tuple}
use Rattle.ubf.specs.Answer.{repeated}
use Rattle.ubf.specs.Scan.{onward, BlanksTo}
use Rattle.ubf.specs.Span.{name_in, field_in, settled, Ready, FieldFound, FieldIs, EndsIs, WithinTuple, AmongIs, RepeatsIs}
use Rattle.ubf.specs.declared.spans.Span.{Span}
use Rattle.ubf.proofs.Machine.{onward_step, onward_end}
use Rattle.ubf.proofs.Dead.{refused, outside_refuses}

-- what says fields is a tuple, and the other way round
says_not : {A : Type 0} (x : Said) (fs : List Field) → x ≡ says fs → is_tuple x ≡ false → A
says_not x fs e f = true_false (sym (ap is_tuple e) ∙ f)

tuple_says : (x : Said) → is_tuple x ≡ true → (fs : List Field) × (x ≡ says fs)
tuple_says no_text e = false_true e
tuple_says no_tuple e = false_true e
tuple_says (says fs) e = (fs, refl)

same_fields : (x : Said) (fs gs : List Field) → x ≡ says fs → x ≡ says gs → fs ≡ gs
same_fields x fs gs p q = cc

-- a byte that is not 0 is one of the text
byte_inside : (text : List ℕ) (i b : ℕ) → get_or text i 0 ≡ b → 0 < b → i < length text
byte_inside text i b e h = go (dec_lt i (length text))
  where
    go : Dec (i < length text) → i < length text
    go (yes l) = l
    go (no l) = let z = get_or-eq_default text 0 {n = i} (omega arith) in absurd (omega arith)

module _ (text : List ℕ) (i : ℕ) (w : WithinTuple text i) where
  -- where the tuple does not end, a name comes
  pub name_comes : (r : Bool) → EndsIs text i r → r ≡ false → (i < length text) × (get_or text i 0 ≡ 34)
  name_comes r e f = go (eqb (get_or text i 0) 34) refl
    where
      go : (b : Bool) → eqb (get_or text i 0) 34 ≡ b → (i < length text) × (get_or text i 0 ≡ 34)
      go true q = let n = eqb-true (get_or text i 0) 34 q in (byte_inside text i 34 n (omega arith), n)
      go false q = says_not (onward text i (state between w.items 1)) w.all w.says_all (e.none f (eqb-false (get_or text i 0) 34 q) w.before w.items w.ready)

  -- .. and its field
  pub field_comes : (s : Span) → FieldIs text i s → FieldFound text i s
  field_comes s f = go (eqb s.kind 0) refl
    where
      go : (b : Bool) → eqb s.kind 0 ≡ b → FieldFound text i s
      go true q = says_not (onward text i (state between w.items 1)) w.all w.says_all (f.none (eqb-true s.kind 0 q) w.before w.items 1 w.ready)
      go false q = f.found (eqb-false s.kind 0 q)

  -- after it the tuple goes on
  abbrev pub within_next : (s : Span) → FieldFound text i s → WithinTuple text s.next
  within_next s f =
      let a = f.goes w.before w.items 1 w.ready in
      record { items = a.items; before = add w.before (field_in text s); all = w.all; near = f.near; ready = a.ready; says_all = sym a.goes ∙ w.says_all }

-- ---- the fields from a place on

has_add : (name : List ℕ) (fs : List Field) (f : Field) → has_name name (fs ++ (f ∷ [])) ≡ (has_name name fs || same_of f.name name)
has_add name [] f = or-false (same_of f.name name)
has_add name (g ∷ fs) f = go (same_of g.name name) (has_add name fs f)
  where
    go : (b : Bool) → has_name name (fs ++ (f ∷ [])) ≡ (has_name name fs || same_of f.name name) → (b || has_name name (fs ++ (f ∷ []))) ≡ ((b || has_name name fs) || same_of f.name name)
    go true e = refl
    go false e = e

-- from `at` to i, after these fields, other fields were read; whether one of them has a name
pub record Followed (text : List ℕ) (before all : List Field) (name : List ℕ) (i : ℕ) (found : Bool) : Type 0 where
  pub items : List Item
  pub rest : List Field
  pub ready : Ready text i items (before ++ rest)
  pub says_all : onward text i (state between items 1) ≡ says all
  pub has : found ≡ has_name name rest

abbrev pub Follows : List ℕ → ℕ → List ℕ → ℕ → Bool → Type 0
Follows text at name i found = (its : List Item) (before all : List Field) → Ready text at its before → onward text at (state between its 1) ≡ says all → Followed text before all name i found

pub follows_none : (text : List ℕ) (at : ℕ) (name : List ℕ) → Follows text at name at false
follows_none text at name its before all r e = record { items = its; rest = []; ready = rw append-nil r; says_all = e; has = refl }

pub follows_more : (text : List ℕ) (at : ℕ) (name : List ℕ) (i : ℕ) (found b : Bool) (s : Span) → FieldFound text i s → b ≡ same_of (name_in text s) name → Follows text at name i found → Follows text at name s.next (found || b)
follows_more text at name i found b s f e g its before all r o =
    let h = g its before all r o in
    let a = f.goes (before ++ h.rest) h.items 1 h.ready in
    record {
      items = a.items;
      rest = h.rest ++ (field_in text s ∷ []);
      ready = rw (← append_assoc before h.rest (field_in text s ∷ [])) a.ready;
      says_all = sym a.goes ∙ h.says_all;
      has = ap₂ (λ (x y : Bool). x || y) h.has e ∙ sym (has_add name h.rest (field_in text s));
    }

pub follows_end : (text : List ℕ) (at : ℕ) (name : List ℕ) (i : ℕ) (found r : Bool) → EndsIs text i r → r ≡ true → Follows text at name i found → AmongIs text at name found
follows_end text at name i found r e t g its before all q o =
    let h = g its before all q o in
    let n : all ≡ before ++ h.rest = same_fields (onward text i (state between h.items 1)) all (before ++ h.rest) h.says_all (e.ends t (before ++ h.rest) h.items h.ready) in
    (ap (take (length before)) n ∙ take-append_seam before h.rest, h.has ∙ ap (has_name name) (sym (ap (drop (length before)) n ∙ drop-append_seam before h.rest)))

-- ---- all fields

-- no name of the fields before i is repeated
pub record Passed (text : List ℕ) (i : ℕ) : Type 0 where
  pub within : WithinTuple text i
  pub same : said text ≡ says within.all
  pub later : repeated within.all ≡ repeated (drop (length within.before) within.all)

-- the tuple's `{`
pub brace_comes : (text : List ℕ) (b : ℕ) → is_tuple (said text) ≡ true → BlanksTo text 0 b → (b < length text) × (get_or text b 0 ≡ 123)
unfolding phase_of
brace_comes text b t k = let l = inside (dec_lt b (length text)) in (l, go l (eqb (get_or text b 0) 123) refl)
  where
    here : is_tuple (onward text b start) ≡ true
    here = ap is_tuple (sym (k.goes [] 0)) ∙ t

    inside : Dec (b < length text) → b < length text
    inside (yes l) = l
    inside (no l) = false_true (sym (ap is_tuple (onward_end text b start (omega arith))) ∙ here)

    go : b < length text → (x : Bool) → eqb (get_or text b 0) 123 ≡ x → get_or text b 0 ≡ 123
    go l true q = eqb-true (get_or text b 0) 123 q
    go l false q = false_true (sym (refused text b [] 0 outside l (k.item l) refl (outside_refuses (get_or text b 0) (eqb-false (get_or text b 0) 123 q))) ∙ here)

opened : step start 123 ≡ state between (mark 123 ∷ []) 1
unfolding step fresh
opened = refl

first_names : phase_of (mark 123 ∷ []) ≡ names []
unfolding phase_of next
first_names = refl

pub passed_none : (text : List ℕ) (b i : ℕ) → is_tuple (said text) ≡ true → BlanksTo text 0 b → BlanksTo text (b + 1) i → Passed text i
passed_none text b i t k m =
    let o = brace_comes text b t k in
    let s = tuple_says (said text) t in
    let g : said text ≡ onward text i (state between (mark 123 ∷ []) 1) =
    k.goes [] 0 ∙ (onward_step text b 123 start (state between (mark 123 ∷ []) 1) o.0 o.1 opened ∙ (ap (λ (n : ℕ). onward text n (state between (mark 123 ∷ []) 1)) (sym (add-one b)) ∙ m.goes (mark 123 ∷ []) 1)) in
    record {
      within = record {
        items = mark 123 ∷ [];
        before = [];
        all = s.0;
        near = m.near;
        ready = record { item = m.item; phase = ap settled first_names; untagged = inl first_names };
        says_all = sym g ∙ s.1;
      };
      same = s.1;
      later = refl;
    }

module _ (text : List ℕ) (i : ℕ) (p : Passed text i) (s : Span) (f : FieldFound text i s) (r : Bool) (a : AmongIs text s.next (name_in text s) r) where
  abbrev w : WithinTuple text i
  w = p.within

  abbrev v : WithinTuple text s.next
  v = within_next text i w s f

  -- the fields from i on are this one and those after it
  from_here : drop (length w.before) w.all ≡ field_in text s ∷ drop (length v.before) w.all
  from_here =
      let n = (a v.items v.before w.all v.ready v.says_all).0 in
      let g = field_in text s in
      let b = w.before in
      let rest = drop (length v.before) w.all in
      let whole : w.all ≡ b ++ (g ∷ rest) = sym (take-append-drop (length v.before) w.all) ∙ (ap (λ (l : List Field). l ++ rest) n ∙ append_assoc b (g ∷ []) rest) in
      ap (drop (length b)) whole ∙ drop-append_seam b (g ∷ rest)

  from_here_repeated : repeated (drop (length w.before) w.all) ≡ (r || repeated (drop (length v.before) w.all))
  from_here_repeated =
      let n = (a v.items v.before w.all v.ready v.says_all).1 in
      ap repeated from_here ∙ ap (λ (b : Bool). b || repeated (drop (length v.before) w.all)) (sym n)

  pub passed_more : r ≡ false → Passed text s.next
  passed_more e = record { within = v; same = p.same; later = p.later ∙ (from_here_repeated ∙ ap (λ (b : Bool). b || repeated (drop (length v.before) w.all)) e) }

  pub passed_repeated : r ≡ true → RepeatsIs text true
  passed_repeated e fs q =
      let n : repeated w.all ≡ true = p.later ∙ (from_here_repeated ∙ ap (λ (b : Bool). b || repeated (drop (length v.before) w.all)) e) in
      sym (ap repeated (same_fields (said text) fs w.all q p.same) ∙ n)

pub passed_all : (text : List ℕ) (i : ℕ) (r : Bool) → Passed text i → EndsIs text i r → r ≡ true → RepeatsIs text false
passed_all text i r p e t fs q =
    let w = p.within in
    let n : w.all ≡ w.before = same_fields (onward text i (state between w.items 1)) w.all w.before w.says_all (e.ends t w.before w.items w.ready) in
    let z : drop (length w.before) w.all ≡ [] = ap (drop (length w.before)) n ∙ drop-length w.before in
    sym (ap repeated (same_fields (said text) fs w.all q p.same) ∙ (p.later ∙ ap repeated z))
