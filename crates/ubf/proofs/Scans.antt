-- What scanning one item answers. Assumes nothing.
use mathlib.Core.Path.{◌≡◌, refl, sym, ap, ap₂, ◌∙◌}
use mathlib.Core.Bool.{Bool, true, false, ◌&&◌, ◌||◌}
use mathlib.Core.List.{List, [], ◌∷◌, ◌++◌, append_assoc}
use mathlib.Core.Logic.{inl, inr}
use Prim.Native.Nat.{ℕ, zero, suc, ◌+◌, ◌*◌, ◌-◌, ◌≤◌, ◌<◌}
use native.Mathlib.Decide.{dec_lt}
use native.Mathlib.Omega.{arith}
use borrow.Author.Tests.{ne_eqb, eqb-true, eqb-false, lt-ltb, le-ltb, ltb-true, ltb-false}
use lib.Dec.{eqb, ltb}
use lib.ListN.{length, get_or, take, drop, length-append, length-drop}
use lib.Seq.{length-take-le}
use Rattle.common.proofs.Choice.{true_false, false_true}
use Rattle.octets.proofs.Theorems.{and_parts}
use Rattle.ubf.specs.Byte.{is, is_space, is_digit, digit_of}
use Rattle.ubf.specs.Escape.{needs_escape, escape_of, escapes, escape_right, byte_place, Plain, PlainTo}
use Rattle.ubf.specs.Item.{Item, integer, binary, between, within, escaped, minus, digits, counted, State, state, closed, run}
use Rattle.ubf.specs.Fields.{no_text}
use Rattle.ubf.specs.Scan.{onward, part, Capped, Grows, QuotedIs, BlanksTo, DigitsTo, IntegerIs, BinaryIs}
use Rattle.ubf.proofs.Machine.{onward_one, onward_step, onward_end, onward_part, onward_breaks, part_none, part_more, quoted_close, quoted_plain, quoted_backslash, quoted_escaped, quoted_wrong, escapes_none, escapes_more, quote_open, space_step, digit_more, digit_first, digit_signed, minus_first, minus_wrong, digits_step, counted_run, counted_short, binary_close, binary_wrong}

-- ---- quoted items

-- a quoted item's bytes from `at` to i, where it is still open
pub record Opens (text : List ℕ) (at q i count : ℕ) : Type 0 where
  pub after : at ≤ i
  pub near : i ≤ length text
  pub bytes : List ℕ
  pub stands : part text at i ≡ escapes q bytes
  pub count_is : at + (count + length bytes) ≡ i
  pub goes : (its : List Item) (d : ℕ) → onward text at (state (within q []) its d) ≡ onward text i (state (within q bytes) its d)

pub opens_none : (text : List ℕ) (at q : ℕ) → at ≤ length text → Opens text at q at 0
opens_none text at q h =
    record {
      after = omega arith;
      near = h;
      bytes = [];
      stands = part_none text at ∙ sym (escapes_none q);
      count_is = omega arith;
      goes = λ its d. refl;
    }

needs_none : (q b : ℕ) → (b ≡ q → ⊥) → (b ≡ 92 → ⊥) → needs_escape q b ≡ false
needs_none q b h g = simp (ne_eqb b q h, ne_eqb b 92 g)

module _ (text : List ℕ) (at q i count : ℕ) (o : Opens text at q i count) where
  opens_plain : i < length text → needs_escape q (get_or text i 0) ≡ false → Opens text at q (i + 1) count
  opens_plain l n =
      let b : ℕ = get_or text i 0 in
      let e : i + 1 ≡ suc i = omega arith in
      let w : escape_of q b ≡ b ∷ [] = rw n in
      let r = length-append o.bytes (b ∷ []) in
      record {
        after = omega (arith, o.after);
        near = omega arith;
        bytes = o.bytes ++ (b ∷ []);
        stands = ap (part text at) e ∙ part_more text at i o.after l ∙ ap₂ (λ (x y : List ℕ). x ++ y) o.stands (sym w) ∙ sym (escapes_more q o.bytes b);
        count_is = omega (arith, o.count_is);
        goes = λ its d. o.goes its d ∙ onward_step text i b (state (within q o.bytes) its d) (state (within q (o.bytes ++ (b ∷ []))) its d) l refl (quoted_plain q o.bytes its d b n) ∙ ap (λ (k : ℕ). onward text k (state (within q (o.bytes ++ (b ∷ []))) its d)) (sym e);
      }

  pub opens_one : i < length text → (get_or text i 0 ≡ q → ⊥) → (get_or text i 0 ≡ 92 → ⊥) → Opens text at q (i + 1) count
  opens_one l h g = opens_plain l (needs_none q (get_or text i 0) h g)

  pub opens_two : (q ≡ 92 → ⊥) → i < length text → get_or text i 0 ≡ 92 → escape_right text i q ≡ true → Opens text at q (i + 2) (count + 1)
  opens_two v l g h =
      let b : ℕ = get_or text (suc i) 0 in
      let p = and_parts (ltb (suc i) (length text)) (needs_escape q b) h in
      let m : suc i < length text = ltb-true (suc i) (length text) p.0 in
      let e : i + 2 ≡ suc (suc i) = omega arith in
      let w : escape_of q b ≡ 92 ∷ b ∷ [] = rw p.1 in
      let r = length-append o.bytes (b ∷ []) in
      record {
        after = omega (arith, o.after);
        near = omega arith;
        bytes = o.bytes ++ (b ∷ []);
        stands =
            ap (part text at) e
            ∙ part_more text at (suc i) (omega (arith, o.after)) m
            ∙ ap (λ (x : List ℕ). x ++ (b ∷ [])) (part_more text at i o.after l ∙ ap₂ (λ (x : List ℕ) (y : ℕ). x ++ (y ∷ [])) o.stands g)
            ∙ append_assoc (escapes q o.bytes) (92 ∷ []) (b ∷ [])
            ∙ ap (λ (x : List ℕ). escapes q o.bytes ++ x) (sym w)
            ∙ sym (escapes_more q o.bytes b);
        count_is = omega (arith, o.count_is);
        goes = λ its d.
            o.goes its d
            ∙ onward_step text i 92 (state (within q o.bytes) its d) (state (escaped q o.bytes) its d) l g (quoted_backslash q o.bytes its d v)
            ∙ onward_step text (suc i) b (state (escaped q o.bytes) its d) (state (within q (o.bytes ++ (b ∷ []))) its d) m refl (quoted_escaped q o.bytes its d b p.1)
            ∙ ap (λ (k : ℕ). onward text k (state (within q (o.bytes ++ (b ∷ []))) its d)) (sym e);
      }

  pub opens_close : i < length text → get_or text i 0 ≡ q → QuotedIs text at q i count
  opens_close l g =
      record {
        near = o.near;
        closes = λ m.
            record {
              after = o.after;
              bytes = o.bytes;
              stands = o.stands;
              count_is = o.count_is;
              goes = λ its d. o.goes its d ∙ onward_step text i q (state (within q o.bytes) its d) (state between (closed q o.bytes its) d) l g (quoted_close q o.bytes its d);
            };
        unclosed = λ m. absurd (omega arith);
      }

  -- the text's end, or an escape that is none
  pub never_closes : ((its : List Item) (d : ℕ) → onward text i (state (within q o.bytes) its d) ≡ no_text) → QuotedIs text at q (length text) 0
  never_closes h = record { near = omega arith; closes = λ m. absurd (omega arith); unclosed = λ m its d. o.goes its d ∙ h its d }

  pub opens_cut : length text ≤ i → QuotedIs text at q (length text) 0
  opens_cut l = never_closes (λ its d. onward_end text i (state (within q o.bytes) its d) l)

  pub opens_wrong : (q ≡ 92 → ⊥) → i < length text → get_or text i 0 ≡ 92 → escape_right text i q ≡ false → QuotedIs text at q (length text) 0
  opens_wrong v l g h = never_closes (λ its d. onward_step text i 92 (state (within q o.bytes) its d) (state (escaped q o.bytes) its d) l g (quoted_backslash q o.bytes its d v) ∙ after its d (dec_lt (suc i) (length text)))
    where
      after : (its : List Item) (d : ℕ) → Dec (suc i < length text) → onward text (suc i) (state (escaped q o.bytes) its d) ≡ no_text
      after its d (yes m) =
          let n : needs_escape q (get_or text (suc i) 0) ≡ false = rw (lt-ltb (suc i) (length text) m) at h in
          onward_breaks text (suc i) (get_or text (suc i) 0) (state (escaped q o.bytes) its d) its d m refl (quoted_wrong q o.bytes its d (get_or text (suc i) 0) n)
      after its d (no m) = onward_end text (suc i) (state (escaped q o.bytes) its d) (omega arith)

-- a run in which no byte has an escape
opens_run : (n : ℕ) (text : List ℕ) (at q i count : ℕ) → Opens text at q i count → i + n ≤ length text → Plain text q i (i + n) → Opens text at q (i + n) count
opens_run zero text at q i count o h p = let e : i + 0 ≡ i = omega arith in rw e o
opens_run (suc n) text at q i count o h p =
    let e : i + 1 + n ≡ i + suc n = omega arith in
    let one = opens_plain text at q i count o (omega arith) (p i (omega arith) (omega arith)) in
    rw e at (opens_run n text at q (i + 1) count one (omega arith) (λ j l m. p j (omega arith) (omega arith)))

pub opens_to : (text : List ℕ) (at q i count end : ℕ) → Opens text at q i count → PlainTo text q i end → Opens text at q end count
opens_to text at q i count end o r =
    let e : i + (end - i) ≡ end = omega (arith, r.after) in
    rw e at (opens_run (end - i) text at q i count o (omega (arith, r.after, r.near)) (λ j l m. r.plain j l (omega (arith, r.after))))

pub stop_backslash : (q b : ℕ) → needs_escape q b ≡ true → (b ≡ q → ⊥) → b ≡ 92
stop_backslash q b e h = eqb-true b 92 (rw (ne_eqb b q h) at e)

pub escape_cut : (text : List ℕ) (at q : ℕ) → length text - at < 2 → false ≡ escape_right text at q
escape_cut text at q h = rw (le-ltb (suc at) (length text) (omega arith))

pub escape_there : (text : List ℕ) (at q : ℕ) → 2 ≤ length text - at → needs_escape q (get_or text (at + 1) 0) ≡ escape_right text at q
escape_there text at q h =
    let e : at + 1 ≡ suc at = omega arith in
    rw (lt-ltb (suc at) (length text) (omega arith)) (ap (λ (k : ℕ). needs_escape q (get_or text k 0)) e)

pub place_escaped : (text : List ℕ) (at : ℕ) (x : Bool) → (x && eqb (get_or text at 0) 92) ≡ true → at + 1 ≡ byte_place text at x
place_escaped text at x h = let e : at + 1 ≡ suc at = omega arith in rw h e

pub place_plain : (text : List ℕ) (at : ℕ) (x : Bool) → (x && eqb (get_or text at 0) 92) ≡ false → at ≡ byte_place text at x
place_plain text at x h = rw h

-- ---- whitespace and comments

pub record Skips (text : List ℕ) (at i : ℕ) : Type 0 where
  pub after : at ≤ i
  pub near : i ≤ length text
  pub goes : (its : List Item) (d : ℕ) → onward text at (state between its d) ≡ onward text i (state between its d)

pub skips_none : (text : List ℕ) (at : ℕ) → at ≤ length text → Skips text at at
skips_none text at h = record { after = omega arith; near = h; goes = λ its d. refl }

module _ (text : List ℕ) (at i : ℕ) (s : Skips text at i) where
  pub skips_space : i < length text → is_space (get_or text i 0) ≡ true → Skips text at (i + 1)
  skips_space l h =
      let e : i + 1 ≡ suc i = omega arith in
      record {
        after = omega (arith, s.after);
        near = omega arith;
        goes = λ its d. s.goes its d ∙ onward_step text i (get_or text i 0) (state between its d) (state between its d) l refl (space_step (get_or text i 0) its d h) ∙ ap (λ (k : ℕ). onward text k (state between its d)) (sym e);
      }

  comment_goes : i < length text → get_or text i 0 ≡ 37 → (its : List Item) (d : ℕ) → onward text at (state between its d) ≡ onward text (i + 1) (state (within 37 []) its d)
  comment_goes l g its d =
      let e : i + 1 ≡ suc i = omega arith in
      s.goes its d ∙ onward_step text i 37 (state between its d) (state (within 37 []) its d) l g (quote_open 37 its d refl) ∙ ap (λ (k : ℕ). onward text k (state (within 37 []) its d)) (sym e)

  module _ (end count : ℕ) (q : QuotedIs text (i + 1) 37 end count) where
    pub skips_comment : i < length text → get_or text i 0 ≡ 37 → end < length text → Skips text at (end + 1)
    skips_comment l g m =
        let k = q.closes m in
        let e : end + 1 ≡ suc end = omega arith in
        record {
          after = omega (arith, s.after, k.after);
          near = omega arith;
          goes = λ its d. comment_goes l g its d ∙ k.goes its d ∙ ap (λ (n : ℕ). onward text n (state between its d)) (sym e);
        }

    pub blanks_cut : i < length text → get_or text i 0 ≡ 37 → end ≡ length text → BlanksTo text at end
    blanks_cut l g m =
        record {
          after = omega (arith, s.after);
          near = q.near;
          item = λ n. absurd (omega arith);
          goes = λ its d. comment_goes l g its d ∙ q.unclosed (omega arith) its d ∙ sym (onward_end text end (state between its d) (omega arith));
        }

  pub blanks_item : is_space (get_or text i 0) ≡ false → (get_or text i 0 ≡ 37 → ⊥) → BlanksTo text at i
  blanks_item h g = record { after = s.after; near = s.near; item = λ n. rw (h, ne_eqb (get_or text i 0) 37 g); goes = s.goes }

  pub blanks_end : length text ≤ i → BlanksTo text at i
  blanks_end l = record { after = s.after; near = s.near; item = λ n. absurd (omega arith); goes = s.goes }

-- ---- integers

pub grow_small : (size b : ℕ) → size ≤ 1844674407370955161 → Grows size b (size * 10 + digit_of b)
grow_small size b h n (inl e) = inl (ap (λ (x : ℕ). x * 10 + digit_of b) e)
grow_small size b h n (inr (p, q)) = absurd (omega arith)

pub grow_big : (size b : ℕ) → 18446744073709551615 ≤ size * 10 + digit_of b → Grows size b 18446744073709551615
grow_big size b h n (inl e) = inr (omega arith, omega arith)
grow_big size b h n (inr (p, q)) = inr (omega arith, omega arith)

-- the test of a digit that is too much, and what it leaves
pub over_facts : (size d : ℕ) → (eqb size 1844674407370955161 && ltb 5 d) ≡ true → (size ≡ 1844674407370955161) × (5 < d)
over_facts size d h = let p = and_parts (eqb size 1844674407370955161) (ltb 5 d) h in (eqb-true size 1844674407370955161 p.0, ltb-true 5 d p.1)

pub digit_fits : (size d : ℕ) → size ≤ 1844674407370955161 → d ≤ 9 → (eqb size 1844674407370955161 && ltb 5 d) ≡ false → size * 10 + d ≤ 18446744073709551615
digit_fits size d h g e = go (eqb size 1844674407370955161) refl e
  where
    go : (x : Bool) → eqb size 1844674407370955161 ≡ x → (x && ltb 5 d) ≡ false → size * 10 + d ≤ 18446744073709551615
    go true p f = let l : d ≤ 5 = ltb-false 5 d f in omega arith
    go false p f = let n = eqb-false size 1844674407370955161 p in omega arith

-- digits from `first` to i
pub record Counts (text : List ℕ) (first i size : ℕ) : Type 0 where
  pub after : first ≤ i
  pub near : i ≤ length text
  pub digit : first < i → is_digit (get_or text first 0) ≡ true
  pub exact : ℕ
  pub capped : Capped exact size
  pub goes : (negative : Bool) (its : List Item) (d : ℕ) → onward text first (state (digits negative 0) its d) ≡ onward text i (state (digits negative exact) its d)

pub counts_none : (text : List ℕ) (first : ℕ) → first ≤ length text → Counts text first first 0
counts_none text first h = record { after = omega arith; near = h; digit = λ l. absurd (omega arith); exact = 0; capped = inl refl; goes = λ negative its d. refl }

-- the byte after an integer is one between items, and the text's end breaks both
integer_ends : (text : List ℕ) (i : ℕ) (negative : Bool) (n : ℕ) (its : List Item) (d : ℕ) → (i < length text → is_digit (get_or text i 0) ≡ false)
    → onward text i (state (digits negative n) its d) ≡ onward text i (state between (integer negative n ∷ its) d)
integer_ends text i negative n its d h = go (dec_lt i (length text))
  where
    go : Dec (i < length text) → onward text i (state (digits negative n) its d) ≡ onward text i (state between (integer negative n ∷ its) d)
    go (yes l) = onward_one text i (state (digits negative n) its d) l ∙ ap (λ (s : State). onward text (suc i) s) (digits_step its d negative n (get_or text i 0) (h l)) ∙ sym (onward_one text i (state between (integer negative n ∷ its) d) l)
    go (no l) = onward_end text i (state (digits negative n) its d) (omega arith) ∙ sym (onward_end text i (state between (integer negative n ∷ its) d) (omega arith))

module _ (text : List ℕ) (first i size : ℕ) (k : Counts text first i size) where
  pub counts_one : (r : ℕ) → i < length text → is_digit (get_or text i 0) ≡ true → Grows size (get_or text i 0) r → Counts text first (i + 1) r
  counts_one r l h g =
      let e : i + 1 ≡ suc i = omega arith in
      let n : ℕ = k.exact * 10 + digit_of (get_or text i 0) in
      record {
        after = omega (arith, k.after);
        near = omega arith;
        digit = λ m. there (dec_lt first i);
        exact = n;
        capped = g k.exact k.capped;
        goes = λ negative its d. k.goes negative its d ∙ onward_step text i (get_or text i 0) (state (digits negative k.exact) its d) (state (digits negative n) its d) l refl (digit_more its d negative k.exact (get_or text i 0) h) ∙ ap (λ (j : ℕ). onward text j (state (digits negative n) its d)) (sym e);
      }
    where
      there : Dec (first < i) → is_digit (get_or text first 0) ≡ true
      there (yes m) = k.digit m
      there (no m) = let e : first ≡ i = omega (arith, k.after) in ap (λ (j : ℕ). is_digit (get_or text j 0)) e ∙ h

  pub counts_end : (i < length text → is_digit (get_or text i 0) ≡ false) → DigitsTo text first size i
  counts_end h =
      record {
        after = k.after;
        near = k.near;
        digit = k.digit;
        none = λ m l. let e : first ≡ i = omega (arith, k.after) in ap (λ (j : ℕ). is_digit (get_or text j 0)) e ∙ h (omega arith);
        exact = k.exact;
        capped = k.capped;
        goes = λ negative its d. k.goes negative its d ∙ integer_ends text i negative k.exact its d h;
      }

-- "integer ::= '-'?[0-9]+"
pub digit_there : (b : ℕ) → (is_digit b || is "-" b) ≡ true → (b ≡ 45 → ⊥) → is_digit b ≡ true
digit_there b h g = go (is_digit b) refl
  where
    go : (x : Bool) → is_digit b ≡ x → is_digit b ≡ true
    go true e = e
    go false e = let z : false ≡ true = rw (e, ne_eqb b 45 g) at h in false_true z

pub integer_plain : (text : List ℕ) (at size end : ℕ) → at < length text → is_digit (get_or text at 0) ≡ true → DigitsTo text at size end → IntegerIs text at false size end
integer_plain text at size end l h k =
    record {
      after = k.after;
      reads = λ m.
          record {
            near = k.near;
            exact = k.exact;
            capped = k.capped;
            goes = λ its d. onward_one text at (state between its d) l ∙ ap (λ (s : State). onward text (suc at) s) (digit_first its d (get_or text at 0) h) ∙ sym (onward_one text at (state (digits false 0) its d) l) ∙ k.goes false its d;
          };
      none = λ m its d. true_false (sym h ∙ k.none m l);
    }

module _ (text : List ℕ) (at : ℕ) (l : at < length text) (g : get_or text at 0 ≡ 45) where
  minus_goes : (its : List Item) (d : ℕ) → onward text at (state between its d) ≡ onward text (at + 1) (state minus its d)
  minus_goes its d =
      let e : at + 1 ≡ suc at = omega arith in
      onward_step text at 45 (state between its d) (state minus its d) l g (minus_first its d) ∙ ap (λ (k : ℕ). onward text k (state minus its d)) (sym e)

  pub integer_signed : (size end : ℕ) → (end ≡ at + 1 → ⊥) → DigitsTo text (at + 1) size end → IntegerIs text at true size end
  integer_signed size end h k =
      let m : at + 1 < end = omega (arith, k.after, h) in
      let n : at + 1 < length text = omega (arith, k.near) in
      record {
        after = omega arith;
        reads = λ z.
            record {
              near = k.near;
              exact = k.exact;
              capped = k.capped;
              goes = λ its d.
                  minus_goes its d
                  ∙ onward_one text (at + 1) (state minus its d) n
                  ∙ ap (λ (s : State). onward text (suc (at + 1)) s) (digit_signed its d (get_or text (at + 1) 0) (k.digit m))
                  ∙ sym (onward_one text (at + 1) (state (digits true 0) its d) n)
                  ∙ k.goes true its d;
            };
        none = λ z. absurd (omega arith);
      }

  -- a sign without a digit
  pub integer_bare : (size end : ℕ) → end ≡ at + 1 → DigitsTo text (at + 1) size end → IntegerIs text at true 0 at
  integer_bare size end h k = record { after = omega arith; reads = λ m. absurd (omega arith); none = λ m its d. minus_goes its d ∙ after its d (dec_lt (at + 1) (length text)) }
    where
      after : (its : List Item) (d : ℕ) → Dec (at + 1 < length text) → onward text (at + 1) (state minus its d) ≡ no_text
      after its d (yes n) = onward_breaks text (at + 1) (get_or text (at + 1) 0) (state minus its d) its d n refl (minus_wrong its d (get_or text (at + 1) 0) (k.none (omega arith) n))
      after its d (no n) = onward_end text (at + 1) (state minus its d) (omega arith)

-- ---- binaries

pub capped_exact : (n size : ℕ) → size ≤ 18446744073709551614 → Capped n size → n ≡ size
capped_exact n size h (inl e) = sym e
capped_exact n size h (inr (p, q)) = absurd (omega arith)

capped_most : (m n size : ℕ) → m ≤ size → m ≤ 18446744073709551614 → Capped n size → m ≤ n
capped_most m n size h g (inl e) = omega arith
capped_most m n size h g (inr (p, q)) = omega arith

module _ (text : List ℕ) (at size : ℕ) (l : at < length text) (f : length text ≤ 18446744073709551615) where
  pub binary_cut : length text - at - 1 ≤ size → BinaryIs text at size (length text)
  binary_cut h =
      record {
        near = omega arith;
        closes = λ m. absurd (omega arith);
        unclosed = λ m n c its d.
            let g : length text - suc at ≤ n = capped_most (length text - suc at) n size (omega arith) (omega arith) c in
            counted_short n (drop (suc at) text) [] its d (omega (arith, length-drop (suc at) text));
      }

  module _ (h : size < length text - at - 1) where
    -- the binary's bytes
    counted_to_lem : (n : ℕ) → Capped n size → (its : List Item) (d : ℕ) → onward text (suc at) (state (counted n []) its d) ≡ onward text (at + 1 + size) (state (counted 0 (part text (suc at) (at + 1 + size))) its d)
    counted_to_lem n c its d =
        let bs : List ℕ = part text (suc at) (at + 1 + size) in
        let e : at + 1 + size - suc at ≡ size = omega arith in
        let w : suc at + size ≡ at + 1 + size = omega arith in
        let r : length bs ≡ size = length-take-le (at + 1 + size - suc at) (drop (suc at) text) (omega (arith, length-drop (suc at) text)) ∙ e in
        let v : n ≡ length bs = capped_exact n size (omega arith) c ∙ sym r in
        onward_part text (suc at) size (state (counted n []) its d)
        ∙ ap₂ (λ (k m : ℕ). onward text k (run (state (counted n []) its d) (take m (drop (suc at) text)))) w (sym e)
        ∙ ap (λ (k : ℕ). onward text (at + 1 + size) (run (state (counted k []) its d) bs)) v
        ∙ ap (λ (s : State). onward text (at + 1 + size) s) (counted_run bs [] its d)

    pub binary_ends : get_or text (at + 1 + size) 0 ≡ 126 → BinaryIs text at size (at + 1 + size)
    binary_ends g =
        let m : at + 1 + size < length text = omega arith in
        record {
          near = omega arith;
          closes = λ _ n c.
              let e : n ≡ size = capped_exact n size (omega arith) c in
              (omega arith, e, λ its d. counted_to_lem n c its d ∙ onward_step text (at + 1 + size) 126 (state (counted 0 (part text (suc at) (at + 1 + size))) its d) (state between (binary (part text (suc at) (at + 1 + size)) ∷ its) d) m g (binary_close (part text (suc at) (at + 1 + size)) its d));
          unclosed = λ z. absurd (omega arith);
        }

    pub binary_lacks : (get_or text (at + 1 + size) 0 ≡ 126 → ⊥) → BinaryIs text at size (length text)
    binary_lacks g =
        let m : at + 1 + size < length text = omega arith in
        record {
          near = omega arith;
          closes = λ z. absurd (omega arith);
          unclosed = λ z n c its d. counted_to_lem n c its d ∙ onward_breaks text (at + 1 + size) (get_or text (at + 1 + size) 0) (state (counted 0 (part text (suc at) (at + 1 + size))) its d) its d m refl (binary_wrong (get_or text (at + 1 + size) 0) (part text (suc at) (at + 1 + size)) its d g);
        }
