-- From a place of a text to another: over a value, over a field, and over the end of the tuple and the text. Assumes nothing.
use mathlib.Core.Path.{◌≡◌, refl, sym, ap, ap₂, ◌∙◌}
use mathlib.Core.Bool.{Bool, true, false, not, ◌&&◌, ◌||◌, not-not}
use mathlib.Core.List.{List, [], ◌∷◌, append-nil}
use mathlib.Core.Logic.{inl, inr}
use Prim.Native.Nat.{ℕ, suc, ◌+◌, ◌-◌, ◌≤◌, ◌<◌}
use native.Mathlib.Omega.{arith}
use native.Mathlib.Numerals.{add-one}
use borrow.Author.Tests.{eqb-true, eqb-false}
use lib.Dec.{eqb, ltb}
use lib.ListN.{length, get_or, take, drop}
use Rattle.common.proofs.Choice.{true_false, false_true}
use Rattle.word.specs.Word.{word_bytes}
use Rattle.octets.specs.Octets.{same_of, folded}
use Rattle.octets.proofs.Theorems.{same, same_refl, and_parts, not_folded}
use Rattle.notice.specs.Field.{Field}
use Rattle.notice.specs.Write.{field}
use Rattle.ubf.specs.Byte.{is, is_space, is_digit, is_quote}
use Rattle.ubf.specs.Escape.{escapes, unescapes_by, unescaped, bytes_in}
use Rattle.ubf.specs.Item.{Item, integer, quoted, binary, mark, between, within, counted, ended, broken, state, closed, fresh, step}
use Rattle.ubf.specs.Fields.{names, value, number, whole, wrong, add, fits, number_bytes, as_number, int64, next, phase_of, no_text, said_by, is_tuple}
use Rattle.ubf.specs.Scan.{onward, part, is_blank, Capped, Closes, QuotedIs, BlanksTo, Reads, IntegerIs, BinaryIs}
use Rattle.ubf.specs.Span.{settled, Ready, ValueFound, ValueIs, AfterFound, AfterIs, FieldIs, no_span, EndsIs}
use Rattle.ubf.specs.declared.spans.Value.{Value}
use Rattle.ubf.specs.declared.spans.Span.{Span}
use Rattle.ubf.proofs.Machine.{onward_step, onward_end, onward_breaks, quote_open}
use Rattle.ubf.proofs.Numbers.{capped_zero, capped_fits, capped_same}
use Rattle.ubf.proofs.Parts.{unescaped_escapes, Between, closed_part}
use Rattle.ubf.proofs.Dead.{phase_with, dead_onward, refused, value_refuses, whole_refuses, large_refuses, settled_refuses, next_name, next_end}

pub ready_names : (text : List ℕ) (a r : ℕ) (its : List Item) (fs : List Field) → BlanksTo text a r → phase_of its ≡ names fs → Ready text r its fs
ready_names text a r its fs b e = record { item = b.item; phase = ap settled e; untagged = inl e }

-- ---- a quoted item

module _ (text : List ℕ) (at q : ℕ) (l : at < length text) (e : get_or text at 0 ≡ q) (space : is_space q ≡ false) (quote : is_quote q ≡ true) where
  opens : (its : List Item) (d : ℕ) → onward text at (state between its d) ≡ onward text (at + 1) (state (within q []) its d)
  opens its d =
      onward_step text at q (state between its d) (state (within q []) its d) l e (quote_open q its d quote)
      ∙ ap (λ (i : ℕ). onward text i (state (within q []) its d)) (sym (add-one at))

  unclosed : (end count : ℕ) → QuotedIs text (at + 1) q end count → end ≡ length text → (its : List Item) (d : ℕ) → onward text at (state between its d) ≡ no_text
  unclosed end count c h its d = opens its d ∙ c.unclosed (omega arith) its d

  closes : (end count r : ℕ) (c : Closes text (at + 1) q end count) → BlanksTo text (end + 1) r → (its : List Item) (d : ℕ)
      → onward text at (state between its d) ≡ onward text r (state between (closed q c.bytes its) d)
  closes end count r c b its d =
      opens its d
      ∙ c.goes its d
      ∙ ap (λ (i : ℕ). onward text i (state between (closed q c.bytes its) d)) (sym (add-one end))
      ∙ b.goes (closed q c.bytes its) d

-- the text ends after blanks
pub cut : (text : List ℕ) (a r : ℕ) → BlanksTo text a r → r ≡ length text → (its : List Item) (d : ℕ) → onward text a (state between its d) ≡ no_text
cut text a r b h its d = b.goes its d ∙ onward_end text r (state between its d) (omega arith)

-- ---- values

pub no_value : (text : List ℕ) (at : ℕ) (v : Value) → v.kind ≡ 0 → ((fs : List Field) (name : List ℕ) (its : List Item) (d : ℕ) → phase_of its ≡ value fs name → is_tuple (onward text at (state between its d)) ≡ false)
    → ValueIs text at v
no_value text at v k h = record { none = λ _. h; found = λ n. absurd (n k) }

one_value : (text : List ℕ) (at : ℕ) (v : Value) → (v.kind ≡ 0 → ⊥) → ValueFound text at v → ValueIs text at v
one_value text at v k h = record { none = λ e. absurd (k e); found = λ _. h }

module _ (text : List ℕ) (at end count : ℕ) (l : at < length text) (e : get_or text at 0 ≡ 34) (q : QuotedIs text (at + 1) 34 end count) where
  pub string_none : (v : Value) → end ≡ length text → v.kind ≡ 0 → ValueIs text at v
  string_none v h k = no_value text at v k (λ fs name its d p. ap is_tuple (unclosed text at 34 l e refl refl end count q h its d))

  pub string_found : (r : ℕ) → end < length text → BlanksTo text (end + 1) r
      → ValueIs text at (record { kind = 4; value = at + 1; len = end - (at + 1) - count; escapes = count; next = r })
  unfolding next
  string_found r h b =
      let c = q.closes h in
      let p = closed_part text (at + 1) end count q.near c in
      one_value text at (record { kind = 4; value = at + 1; len = end - (at + 1) - count; escapes = count; next = r }) (λ z. omega arith) (record {
        later = omega (arith, c.after, b.after);
        near = b.near;
        valued = inr (inr (inl (refl, p.lies)));
        goes = λ fs name its d ph. record {
          items = quoted 34 c.bytes ∷ its;
          ready = ready_names text (end + 1) r (quoted 34 c.bytes ∷ its) (add fs (field 4 name (bytes_in text (at + 1) (end - (at + 1) - count) (ltb 0 count)))) b
              (phase_with its (quoted 34 c.bytes) (value fs name) (names (add fs (field 4 name (bytes_in text (at + 1) (end - (at + 1) - count) (ltb 0 count))))) ph
              (ap (λ (bs : List ℕ). names (add fs (field 4 name bs))) (sym p.are)));
          goes = closes text at 34 l e refl refl end count r c b its d;
        };
      })

-- ---- what follows an integer

pub no_number : (text : List ℕ) (at : ℕ) (negative : Bool) (size : ℕ) (v : Value) → v.kind ≡ 0
    → ((exact : ℕ) → Capped exact size → (fs : List Field) (name : List ℕ) (its : List Item) (d : ℕ) → phase_of its ≡ value fs name → is_tuple (onward text at (state between (integer negative exact ∷ its) d)) ≡ false)
    → AfterIs text at negative size v
no_number text at negative size v k h = record { none = λ _. h; found = λ n. absurd (n k) }

one_number : (text : List ℕ) (at : ℕ) (negative : Bool) (size : ℕ) (v : Value) → (v.kind ≡ 0 → ⊥) → AfterFound text at negative size v → AfterIs text at negative size v
one_number text at negative size v k h = record { none = λ e. absurd (k e); found = λ _. h }

number_phase : (its : List Item) (negative : Bool) (n : ℕ) (fs : List Field) (name : List ℕ) → phase_of its ≡ value fs name → phase_of (integer negative n ∷ its) ≡ number fs name negative n
unfolding next
number_phase its negative n fs name e = phase_with its (integer negative n) (value fs name) (number fs name negative n) e refl

tilde_broken : (negative : Bool) (n : ℕ) (its : List Item) (d : ℕ) → (negative && not (eqb n 0)) ≡ true → step (state between (integer negative n ∷ its) d) 126 ≡ state broken its d
unfolding step fresh
tilde_broken negative n its d h = rw h

tilde_counts : (negative : Bool) (n : ℕ) (its : List Item) (d : ℕ) → (negative && not (eqb n 0)) ≡ false → step (state between (integer negative n ∷ its) d) 126 ≡ state (counted n []) its d
unfolding step fresh
tilde_counts negative n its d h = rw h

module _ (text : List ℕ) (at : ℕ) (negative : Bool) (size : ℕ) (l : at < length text) (e : get_or text at 0 ≡ 126) where
  pub binary_negative : (v : Value) → (negative && not (eqb size 0)) ≡ true → v.kind ≡ 0 → AfterIs text at negative size v
  binary_negative v h k = no_number text at negative size v k (λ exact c fs name its d p.
      ap is_tuple (onward_breaks text at 126 (state between (integer negative exact ∷ its) d) its d l e (tilde_broken negative exact its d (rw (capped_zero exact size c) h))))

  module _ (end : ℕ) (m : (negative && not (eqb size 0)) ≡ false) (b : BinaryIs text at size end) where
    counts : (exact : ℕ) → Capped exact size → (its : List Item) (d : ℕ) → onward text at (state between (integer negative exact ∷ its) d) ≡ onward text (suc at) (state (counted exact []) its d)
    counts exact c its d = onward_step text at 126 (state between (integer negative exact ∷ its) d) (state (counted exact []) its d) l e (tilde_counts negative exact its d (rw (capped_zero exact size c) m))

    pub binary_none : (v : Value) → end ≡ length text → v.kind ≡ 0 → AfterIs text at negative size v
    binary_none v h k = no_number text at negative size v k (λ exact c fs name its d p. ap is_tuple (counts exact c its d ∙ b.unclosed (omega arith) exact c its d))

    pub binary_found : (r : ℕ) → end < length text → BlanksTo text (end + 1) r
        → AfterIs text at negative size (record { kind = 5; value = at + 1; len = size; escapes = 0; next = r })
    unfolding next
    binary_found r h t =
        let w = b.closes h size (inl refl) in
        let s : take size (drop (at + 1) text) ≡ part text (suc at) end =
        (let z : size ≡ end - suc at = omega (arith, w.0) in ap₂ (λ (n i : ℕ). take n (drop i text)) z (add-one at)) in
        one_number text at negative size (record { kind = 5; value = at + 1; len = size; escapes = 0; next = r }) (λ z. omega arith) (record {
          later = omega (arith, w.0, t.after);
          near = t.near;
          valued = inr (inr (inr (refl, refl, omega (arith, w.0))));
          goes = λ exact c fs name its d ph. record {
            items = binary (part text (suc at) end) ∷ its;
            ready = ready_names text (end + 1) r (binary (part text (suc at) end) ∷ its) (add fs (field 5 name (take size (drop (at + 1) text)))) t
                (phase_with its (binary (part text (suc at) end)) (value fs name) (names (add fs (field 5 name (take size (drop (at + 1) text))))) ph
                (ap (λ (bs : List ℕ). names (add fs (field 5 name bs))) (sym s)));
            goes =
                counts exact c its d
                ∙ (b.closes h exact c).2 its d
                ∙ ap (λ (i : ℕ). onward text i (state between (binary (part text (suc at) end) ∷ its) d)) (sym (add-one end))
                ∙ t.goes (binary (part text (suc at) end) ∷ its) d;
          };
        })

-- ---- tests

pub not-true : (b : Bool) → not b ≡ true → b ≡ false
not-true b e = sym (not-not b) ∙ ap not e

pub not-false : (b : Bool) → not b ≡ false → b ≡ true
not-false b e = sym (not-not b) ∙ ap not e

pub digit_or : (d : Bool) (b : ℕ) → d ≡ is_digit b → (d || eqb b 45) ≡ (is_digit b || is "-" b)
digit_or d b e = ap (λ (y : Bool). y || eqb b 45) e

-- ---- tags

-- a tag is `int64` exactly if its bytes as they stand are
tag_there : (bs : List ℕ) → same_of (escapes 96 bs) int64 ≡ same_of bs int64
unfolding escapes unescapes_by
tag_there bs = go (same_of bs int64) refl (same_of (escapes 96 bs) int64) refl
  where
    go : (x : Bool) → same_of bs int64 ≡ x → (y : Bool) → same_of (escapes 96 bs) int64 ≡ y → same_of (escapes 96 bs) int64 ≡ same_of bs int64
    go true e y f =
        let b : bs ≡ int64 = (same bs int64).0 e in
        ap (λ (t : List ℕ). same_of (escapes 96 t) int64) b ∙ sym e
    go false e true f =
        let b : escapes 96 bs ≡ int64 = (same (escapes 96 bs) int64).0 f in
        let u : bs ≡ int64 = sym (append-nil bs) ∙ sym (unescaped_escapes 96 bs []) ∙ ap unescaped (append-nil (escapes 96 bs)) ∙ ap unescaped b in
        true_false (sym (same_refl int64) ∙ ap (λ (t : List ℕ). same_of t int64) (sym u) ∙ e)
    go false e false f = f ∙ sym e

tag_phase : (fs : List Field) (name : List ℕ) (negative : Bool) (n : ℕ) (bs : List ℕ) → same_of bs int64 ≡ true → next (number fs name negative n) (quoted 96 bs) ≡ as_number 2 8 fs name negative n
unfolding next
tag_phase fs name negative n bs h = rw h

tag_wrong : (fs : List Field) (name : List ℕ) (negative : Bool) (n : ℕ) (bs : List ℕ) → same_of bs int64 ≡ false → next (number fs name negative n) (quoted 96 bs) ≡ wrong
unfolding next
tag_wrong fs name negative n bs h = rw h

as_number_lem : (kind k : ℕ) (fs : List Field) (name : List ℕ) (negative : Bool) (n : ℕ) → fits k negative n ≡ true → as_number kind k fs name negative n ≡ names (add fs (field kind name (number_bytes k negative n)))
as_number_lem kind k fs name negative n h = rw h

no_number_fits : (kind k : ℕ) (fs : List Field) (name : List ℕ) (negative : Bool) (n : ℕ) → fits k negative n ≡ false → as_number kind k fs name negative n ≡ wrong
no_number_fits kind k fs name negative n h = rw h

-- the code's two tests
pub tag_told : (text : List ℕ) (at : ℕ) (negative : Bool) (size end : ℕ) (tagged small : Bool) → tagged ≡ same_of (folded false (part text (at + 1) end)) (folded false int64) → small ≡ fits 8 negative size
    → (same_of (part text (at + 1) end) int64 && fits 8 negative size) ≡ (tagged && small)
tag_told text at negative size end tagged small t s =
    ap₂ (λ (a b : Bool). a && b) (ap₂ same_of (sym (not_folded (part text (at + 1) end))) (sym (not_folded int64)) ∙ sym t) (sym s)

module _ (text : List ℕ) (at : ℕ) (negative : Bool) (size end count : ℕ) (l : at < length text) (e : get_or text at 0 ≡ 96) (q : QuotedIs text (at + 1) 96 end count) where
  pub tag_none : (v : Value) → end ≡ length text → v.kind ≡ 0 → AfterIs text at negative size v
  tag_none v h k = no_number text at negative size v k (λ exact c fs name its d p. ap is_tuple (unclosed text at 96 l e refl refl end count q h (integer negative exact ∷ its) d))

  module _ (h : end < length text) where
    tag_is : same_of (part text (at + 1) end) int64 ≡ same_of (q.closes h).bytes int64
    tag_is = ap (λ (t : List ℕ). same_of t int64) (q.closes h).stands ∙ tag_there (q.closes h).bytes

    pub tag_other : (v : Value) → (same_of (part text (at + 1) end) int64 && fits 8 negative size) ≡ false → v.kind ≡ 0 → AfterIs text at negative size v
    tag_other v n k = no_number text at negative size v k (λ exact c fs name its d p.
        let s = q.closes h in
        ap is_tuple (opens text at 96 l e refl refl (integer negative exact ∷ its) d ∙ s.goes (integer negative exact ∷ its) d)
        ∙ dead_onward text (suc end) (state between (quoted 96 s.bytes ∷ integer negative exact ∷ its) d)
        (phase_with (integer negative exact ∷ its) (quoted 96 s.bytes) (number fs name negative exact) wrong (number_phase its negative exact fs name p) (lost exact c fs name)))
      where
        lost : (exact : ℕ) → Capped exact size → (fs : List Field) (name : List ℕ) → next (number fs name negative exact) (quoted 96 (q.closes h).bytes) ≡ wrong
        lost exact c fs name = go (same_of (q.closes h).bytes int64) refl
          where
            go : (x : Bool) → same_of (q.closes h).bytes int64 ≡ x → next (number fs name negative exact) (quoted 96 (q.closes h).bytes) ≡ wrong
            go true x =
                let f : fits 8 negative exact ≡ false = capped_fits 8 negative exact size (omega arith) c ∙ (rw (tag_is, x) at n) in
                tag_phase fs name negative exact (q.closes h).bytes x ∙ no_number_fits 2 8 fs name negative exact f
            go false x = tag_wrong fs name negative exact (q.closes h).bytes x

    pub tag_found : (bits r : ℕ) → (same_of (part text (at + 1) end) int64 && fits 8 negative size) ≡ true → word_bytes 8 bits ≡ number_bytes 8 negative size → BlanksTo text (end + 1) r
        → AfterIs text at negative size (record { kind = 2; value = bits; len = 8; escapes = 0; next = r })
    tag_found bits r n w b =
        let s = q.closes h in
        let p = and_parts (same_of (part text (at + 1) end) int64) (fits 8 negative size) n in
        one_number text at negative size (record { kind = 2; value = bits; len = 8; escapes = 0; next = r }) (λ z. omega arith) (record {
          later = omega (arith, s.after, b.after);
          near = b.near;
          valued = inr (inl (refl, refl));
          goes = λ exact c fs name its d ph.
              let x : exact ≡ size = capped_same 8 negative exact size (omega arith) p.1 c in
              record {
                items = quoted 96 s.bytes ∷ integer negative exact ∷ its;
                ready = ready_names text (end + 1) r (quoted 96 s.bytes ∷ integer negative exact ∷ its) (add fs (field 2 name (word_bytes 8 bits))) b
                    (phase_with (integer negative exact ∷ its) (quoted 96 s.bytes) (number fs name negative exact) (names (add fs (field 2 name (word_bytes 8 bits)))) (number_phase its negative exact fs name ph)
                    (tag_phase fs name negative exact s.bytes (sym tag_is ∙ p.0)
                    ∙ ap (as_number 2 8 fs name negative) x
                    ∙ as_number_lem 2 8 fs name negative size p.1
                    ∙ ap (λ (bs : List ℕ). names (add fs (field 2 name bs))) (sym w)));
                goes = closes text at 96 l e refl refl end count r s b (integer negative exact ∷ its) d;
              };
        })

-- ---- integers without a tag

module _ (text : List ℕ) (at : ℕ) (negative : Bool) (size : ℕ) (l : at < length text) (item : is_blank (get_or text at 0) ≡ false) (tag : get_or text at 0 ≡ 96 → ⊥) (tilde : get_or text at 0 ≡ 126 → ⊥) where
  pub plain_large : (v : Value) → fits 4 negative size ≡ false → v.kind ≡ 0 → AfterIs text at negative size v
  plain_large v f k = no_number text at negative size v k (λ exact c fs name its d p.
      refused text at (integer negative exact ∷ its) d (number fs name negative exact) l item (number_phase its negative exact fs name p)
      (large_refuses fs name negative exact (get_or text at 0) tag tilde (capped_fits 4 negative exact size (omega arith) c ∙ f)))

  pub plain_found : (bits : ℕ) → fits 4 negative size ≡ true → (word_bytes 4 bits ≡ number_bytes 4 negative size) × (bits < 4294967296)
      → AfterIs text at negative size (record { kind = 1; value = bits; len = 4; escapes = 0; next = at })
  plain_found bits f w = one_number text at negative size (record { kind = 1; value = bits; len = 4; escapes = 0; next = at }) (λ z. omega arith) (record {
    later = omega arith;
    near = omega arith;
    valued = inl (refl, refl, w.1);
    goes = λ exact c fs name its d ph.
        let x : exact ≡ size = capped_same 4 negative exact size (omega arith) f c in
        record {
          items = integer negative exact ∷ its;
          ready = record {
            item = λ _. item;
            phase =
                ap settled (number_phase its negative exact fs name ph)
                ∙ ap (as_number 1 4 fs name negative) x
                ∙ as_number_lem 1 4 fs name negative size f
                ∙ ap (λ (bs : List ℕ). names (add fs (field 1 name bs))) (sym w.0);
            untagged = inr (tag, tilde);
          };
          goes = refl;
        };
  })

-- ---- integers

module _ (text : List ℕ) (at : ℕ) (negative : Bool) (size end : ℕ) (n : IntegerIs text at negative size end) where
  pub integer_none : (v : Value) → end ≤ at → v.kind ≡ 0 → ValueIs text at v
  integer_none v h k = no_value text at v k (λ fs name its d p. ap is_tuple (n.none h its d))

  module _ (h : at < end) (r : ℕ) (b : BlanksTo text end r) where
    pub integer_cut : (v : Value) → r ≡ length text → v.kind ≡ 0 → ValueIs text at v
    integer_cut v z k = no_value text at v k (λ fs name its d p. let s = n.reads h in ap is_tuple (s.goes its d ∙ cut text end r b z (integer negative s.exact ∷ its) d))

    pub integer_after : (v : Value) → AfterIs text r negative size v → ValueIs text at v
    integer_after v a = record {
      none = λ k fs name its d p. ap is_tuple (goes its d) ∙ a.none k s.exact s.capped fs name its d p;
      found = λ k.
          let f = a.found k in
          record {
            later = omega (arith, b.after, f.later);
            near = f.near;
            valued = f.valued;
            goes = λ fs name its d p. let g = f.goes s.exact s.capped fs name its d p in record { items = g.items; ready = g.ready; goes = goes its d ∙ g.goes };
          };
    }
      where
        s : Reads text at negative size end
        s = n.reads h

        goes : (its : List Item) (d : ℕ) → onward text at (state between its d) ≡ onward text r (state between (integer negative s.exact ∷ its) d)
        goes its d = s.goes its d ∙ b.goes (integer negative s.exact ∷ its) d

pub value_other : (text : List ℕ) (at : ℕ) (v : Value) → at < length text → is_blank (get_or text at 0) ≡ false → (get_or text at 0 ≡ 34 → ⊥) → (is_digit (get_or text at 0) || is "-" (get_or text at 0)) ≡ false → v.kind ≡ 0 → ValueIs text at v
value_other text at v l item h g k = no_value text at v k (λ fs name its d p. refused text at its d (value fs name) l item p (value_refuses fs name (get_or text at 0) h g))

-- ---- fields

module _ (text : List ℕ) (at end count : ℕ) (l : at < length text) (e : get_or text at 0 ≡ 34) (q : QuotedIs text (at + 1) 34 end count) where
  pub field_unclosed : (s : Span) → end ≡ length text → s ≡ no_span → FieldIs text at s
  field_unclosed s h z = record {
    none = λ _ fs its d w. ap is_tuple (unclosed text at 34 l e refl refl end count q h its d);
    found = λ n. absurd (n (ap (λ (t : Span). t.kind) z));
  }

  module _ (r : ℕ) (h : end < length text) (b : BlanksTo text (end + 1) r) where
    name_goes : (its : List Item) (d : ℕ) → onward text at (state between its d) ≡ onward text r (state between (quoted 34 (q.closes h).bytes ∷ its) d)
    name_goes its d = closes text at 34 l e refl refl end count r (q.closes h) b its d

    pub field_cut : (s : Span) → r ≡ length text → s ≡ no_span → FieldIs text at s
    field_cut s z k = record {
      none = λ _ fs its d w. ap is_tuple (name_goes its d ∙ onward_end text r (state between (quoted 34 (q.closes h).bytes ∷ its) d) (omega arith));
      found = λ n. absurd (n (ap (λ (t : Span). t.kind) k));
    }

    pub field_after : (v : Value) → ValueIs text r v
        → FieldIs text at (record { kind = v.kind; name = at + 1; namelen = end - (at + 1) - count; nameescapes = count; value = v.value; len = v.len; escapes = v.escapes; next = v.next })
    field_after v f = record {
      none = λ k fs its d w. ap is_tuple (name_goes its d) ∙ f.none k fs bs (quoted 34 bs ∷ its) d (named fs its w);
      found = λ k.
          let g = f.found k in
          record {
            later = omega (arith, (q.closes h).after, b.after, g.later);
            near = g.near;
            lies = record { named = p.lies; valued = g.valued };
            goes = λ fs its d w.
                let a = g.goes fs (bytes_in text (at + 1) (end - (at + 1) - count) (ltb 0 count)) (quoted 34 bs ∷ its) d (named fs its w ∙ ap (value fs) (sym p.are)) in
                record { items = a.items; ready = a.ready; goes = name_goes its d ∙ a.goes };
          };
    }
      where
        bs : List ℕ
        bs = (q.closes h).bytes

        p : Between text (at + 1) (end - (at + 1) - count) (ltb 0 count) bs
        p = closed_part text (at + 1) end count q.near (q.closes h)

        named : (fs : List Field) (its : List Item) → Ready text at its fs → phase_of (quoted 34 bs ∷ its) ≡ value fs bs
        named fs its w = phase_with its (quoted 34 bs) (phase_of its) (value fs bs) refl (next_name (phase_of its) fs bs w.phase)

-- ---- the end of the tuple and of the text

pub ends_cut : (text : List ℕ) (at : ℕ) → at ≡ length text → EndsIs text at false
ends_cut text at h = record {
  none = λ _ n fs its w. ap is_tuple (onward_end text at (state between its 1) (omega arith));
  ends = λ e. false_true e;
}

pub ends_other : (text : List ℕ) (at : ℕ) → at < length text → (get_or text at 0 ≡ 125 → ⊥) → EndsIs text at false
ends_other text at l h = record {
  none = λ _ n fs its w. refused text at its 1 (phase_of its) l (w.item l) refl (settled_refuses (phase_of its) fs (get_or text at 0) w.phase w.untagged n h);
  ends = λ e. false_true e;
}

close_step : (its : List Item) → step (state between its 1) 125 ≡ state between (mark 125 ∷ its) 0
unfolding step fresh
close_step its = refl

dollar_step : (its : List Item) → step (state between its 0) 36 ≡ state ended its 0
unfolding step fresh
dollar_step its = refl

after_end : (its : List Item) (b : ℕ) → step (state ended its 0) b ≡ state broken its 0
unfolding step
after_end its b = refl

module _ (text : List ℕ) (at r : ℕ) (l : at < length text) (e : get_or text at 0 ≡ 125) (b : BlanksTo text (at + 1) r) where
  shuts : (its : List Item) → onward text at (state between its 1) ≡ onward text r (state between (mark 125 ∷ its) 0)
  shuts its =
      onward_step text at 125 (state between its 1) (state between (mark 125 ∷ its) 0) l e (close_step its)
      ∙ ap (λ (i : ℕ). onward text i (state between (mark 125 ∷ its) 0)) (sym (add-one at))
      ∙ b.goes (mark 125 ∷ its) 0

  pub ends_open : r ≡ length text → EndsIs text at false
  ends_open h = record {
    none = λ _ n fs its w. ap is_tuple (shuts its ∙ onward_end text r (state between (mark 125 ∷ its) 0) (omega arith));
    ends = λ z. false_true z;
  }

  module _ (h : r < length text) where
    whole_phase : (fs : List Field) (its : List Item) → Ready text at its fs → phase_of (mark 125 ∷ its) ≡ whole fs
    whole_phase fs its w = phase_with its (mark 125) (phase_of its) (whole fs) refl (next_end (phase_of its) fs w.phase)

    ended_at : (its : List Item) → get_or text r 0 ≡ 36 → onward text at (state between its 1) ≡ onward text (suc r) (state ended (mark 125 ∷ its) 0)
    ended_at its z = shuts its ∙ onward_step text r 36 (state between (mark 125 ∷ its) 0) (state ended (mark 125 ∷ its) 0) h z (dollar_step (mark 125 ∷ its))

    pub ends_last : EndsIs text at (eqb (get_or text r 0) 36 && eqb (length text - r) 1)
    ends_last = go (eqb (get_or text r 0) 36) refl (eqb (length text - r) 1) refl
      where
        go : (x : Bool) → eqb (get_or text r 0) 36 ≡ x → (y : Bool) → eqb (length text - r) 1 ≡ y → EndsIs text at (x && y)
        go false x y f = record {
          none = λ _ n fs its w. ap is_tuple (shuts its) ∙ refused text r (mark 125 ∷ its) 0 (whole fs) h (b.item h) (whole_phase fs its w) (whole_refuses fs (get_or text r 0) (eqb-false (get_or text r 0) 36 x));
          ends = λ z. false_true z;
        }
        go true x false f =
            let n : length text - r ≡ 1 → ⊥ = eqb-false (length text - r) 1 f in
            record {
              none = λ _ _ fs its w. ap is_tuple (ended_at its (eqb-true (get_or text r 0) 36 x)
                  ∙ onward_breaks text (suc r) (get_or text (suc r) 0) (state ended (mark 125 ∷ its) 0) (mark 125 ∷ its) 0 (omega arith) refl (after_end (mark 125 ∷ its) (get_or text (suc r) 0)));
              ends = λ z. false_true z;
            }
        go true x true f =
            let n : length text - r ≡ 1 = eqb-true (length text - r) 1 f in
            record {
              none = λ z. true_false z;
              ends = λ _ fs its w.
                  ended_at its (eqb-true (get_or text r 0) 36 x)
                  ∙ onward_end text (suc r) (state ended (mark 125 ∷ its) 0) (omega arith)
                  ∙ ap said_by (whole_phase fs its w);
            }
