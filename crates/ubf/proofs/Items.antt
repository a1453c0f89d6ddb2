-- What one item more answers, and the text item by item. Assumes nothing.
use mathlib.Core.Path.{◌≡◌, refl, sym, ap, ◌∙◌}
use mathlib.Core.Bool.{Bool, true, false, not, ◌&&◌, ◌||◌}
use mathlib.Core.List.{List, [], ◌∷◌}
use mathlib.Core.Logic.{inl, inr}
use Prim.Native.Nat.{ℕ, zero, suc, ◌+◌, ◌-◌, ◌≤◌, ◌<◌}
use native.Mathlib.Decide.{dec_lt}
use native.Mathlib.Omega.{arith}
use borrow.Author.Tests.{eq-eqb, ne_eqb}
use lib.Dec.{eqb}
use lib.ListN.{length, get_or}
use Rattle.common.proofs.Choice.{true_false}
use Rattle.ubf.specs.Byte.{is, is_digit}
use Rattle.ubf.specs.Item.{Item, integer, quoted, binary, mark, between, within, counted, ended, broken, state, closed, counting, shut, step}
use Rattle.ubf.specs.Fields.{Phase, outside, names, value, number, whole, wrong, no_text, phase_of, said_by, said, in_syntax}
use Rattle.ubf.specs.Scan.{onward, part, Capped, is_blank, QuotedIs, BlanksTo, IntegerIs, BinaryIs, Held, passed, is_delimiter, is_mark, Onto, ItemIs}
use Rattle.ubf.specs.declared.syntax.Progress.{Progress}
use Rattle.ubf.proofs.Machine.{onward_step, onward_end, onward_breaks, quote_open, tilde_step, open_step, shut_step, comma_step, dollar_step, ended_step, mark_step, or_none}

-- ---- one item more

pub delimiter_not : (q b : ℕ) → is_delimiter q ≡ true → is_delimiter b ≡ false → q ≡ b → ⊥
delimiter_not q b h g e = true_false (sym h ∙ ap is_delimiter e ∙ g)

zero_capped : (n size : ℕ) → Capped n size → eqb n 0 ≡ eqb size 0
zero_capped n size (inl e) = ap (λ (k : ℕ). eqb k 0) (sym e)
zero_capped n size (inr (p, q)) = ne_eqb n 0 (λ e. omega arith) ∙ sym (ne_eqb size 0 (λ e. omega arith))

module _ (text : List ℕ) (p : Progress) (l : p.at < length text) where
  -- what is outside the syntax ends the judging
  stops : (end : ℕ) → end ≡ length text → ((its : List Item) → Held its p → onward text p.at (state between its p.depth) ≡ no_text) → ItemIs text p (passed end p.depth)
  stops end e h =
      record {
        later = omega arith;
        near = omega arith;
        deep = omega arith;
        onto = λ its k. record { items = []; held = refl; goes = ap in_syntax (h its k ∙ sym (onward_end text end (state between [] p.depth) (omega arith))) };
      }

  module _ (q end count : ℕ) (g : get_or text p.at 0 ≡ q) (h : is_delimiter q ≡ true) (k : QuotedIs text (p.at + 1) q end count) where
    quote_goes : (its : List Item) (d : ℕ) → onward text p.at (state between its d) ≡ onward text (p.at + 1) (state (within q []) its d)
    quote_goes its d =
        let e : suc p.at ≡ p.at + 1 = omega arith in
        onward_step text p.at q (state between its d) (state (within q []) its d) l g (quote_open q its d (rw h)) ∙ ap (λ (n : ℕ). onward text n (state (within q []) its d)) e

    pub quoted_unclosed : end ≡ length text → ItemIs text p (passed end p.depth)
    quoted_unclosed e = stops end e (λ its w. quote_goes its p.depth ∙ k.unclosed (omega arith) its p.depth)

    pub quoted_past : (end ≡ length text → ⊥) → ItemIs text p (passed (end + 1) p.depth)
    quoted_past n =
        let m : end < length text = omega (arith, k.near, n) in
        let c = k.closes m in
        let e : suc end ≡ end + 1 = omega arith in
        record {
          later = omega (arith, c.after);
          near = omega arith;
          deep = omega arith;
          onto = λ its w.
              let z : closed q c.bytes its ≡ quoted q c.bytes ∷ its = rw (ne_eqb q 37 (delimiter_not q 37 h refl)) in
              record {
                items = quoted q c.bytes ∷ its;
                held = refl;
                goes = ap in_syntax (quote_goes its p.depth ∙ c.goes its p.depth ∙ ap (λ (is : List Item). onward text (suc end) (state between is p.depth)) z ∙ ap (λ (j : ℕ). onward text j (state between (quoted q c.bytes ∷ its) p.depth)) e);
              };
        }

  module _ (negative : Bool) (size end : ℕ) (k : IntegerIs text p.at negative size end) where
    pub integer_none : end ≡ p.at → ItemIs text p (passed (length text) p.depth)
    integer_none e = stops (length text) refl (λ its w. k.none (omega arith) its p.depth)

    pub integer_past : (end ≡ p.at → ⊥) → ItemIs text p (record { at = end; depth = p.depth; held = true; negative = negative; size = size })
    integer_past n =
        let m : p.at < end = omega (arith, k.after, n) in
        let r = k.reads m in
        record {
          later = m;
          near = r.near;
          deep = omega arith;
          onto = λ its w. record { items = integer negative r.exact ∷ its; held = (refl, refl, r.capped); goes = ap in_syntax (r.goes its p.depth) };
        }

  -- "a binary with no integer just before it or with a negative .. count"
  module _ (g : get_or text p.at 0 ≡ 126) where
    tilde_breaks : (its rest : List Item) → counting its p.depth ≡ state broken rest p.depth → onward text p.at (state between its p.depth) ≡ no_text
    tilde_breaks its rest e = onward_breaks text p.at 126 (state between its p.depth) rest p.depth l g (tilde_step its p.depth ∙ e)

    pub binary_none : (not p.held || (p.negative && not (eqb p.size 0))) ≡ true → ItemIs text p (passed (length text) p.depth)
    binary_none h = stops (length text) refl none
      where
        none : (its : List Item) → Held its p → onward text p.at (state between its p.depth) ≡ no_text
        none [] w = tilde_breaks [] [] refl
        none (integer sign n ∷ its) (a, b, c) =
            let f : (sign && not (eqb n 0)) ≡ true = rw (← b, zero_capped n p.size c) (rw a at h) in
            tilde_breaks (integer sign n ∷ its) its (rw f)
        none (quoted q bs ∷ its) w = tilde_breaks (quoted q bs ∷ its) its refl
        none (binary bs ∷ its) w = tilde_breaks (binary bs ∷ its) its refl
        none (mark b ∷ its) w = tilde_breaks (mark b ∷ its) its refl

    module _ (h : (not p.held || (p.negative && not (eqb p.size 0))) ≡ false) (end : ℕ) (k : BinaryIs text p.at p.size end) where
      count-goes : (its : List Item) (sign : Bool) (n : ℕ) → p.held ≡ true → p.negative ≡ sign → Capped n p.size → onward text p.at (state between (integer sign n ∷ its) p.depth) ≡ onward text (suc p.at) (state (counted n []) its p.depth)
      count-goes its sign n a b c =
          let f : (sign && not (eqb n 0)) ≡ false = rw (← b, zero_capped n p.size c) (rw a at h) in
          onward_step text p.at 126 (state between (integer sign n ∷ its) p.depth) (state (counted n []) its p.depth) l g (tilde_step (integer sign n ∷ its) p.depth ∙ rw f)

      pub binary-unclosed : end ≡ length text → ItemIs text p (passed end p.depth)
      binary-unclosed e = stops end e none
        where
          none : (its : List Item) → Held its p → onward text p.at (state between its p.depth) ≡ no_text
          none [] w = tilde_breaks [] [] refl
          none (integer sign n ∷ its) (a, b, c) = count-goes its sign n a b c ∙ k.unclosed (omega arith) n c its p.depth
          none (quoted q bs ∷ its) w = tilde_breaks (quoted q bs ∷ its) its refl
          none (binary bs ∷ its) w = tilde_breaks (binary bs ∷ its) its refl
          none (mark b ∷ its) w = tilde_breaks (mark b ∷ its) its refl

      -- an integer is held
      held_not : p.held ≡ false → true ≡ false
      held_not e = rw e at h

      closes-after : end < length text → p.at < end
      closes-after m = let c = k.closes m p.size (inl refl) in omega (arith, c.0)

      pub binary-past : (end ≡ length text → ⊥) → ItemIs text p (passed (end + 1) p.depth)
      binary-past n =
          let m : end < length text = omega (arith, k.near, n) in
          record { later = omega (arith, closes-after m); near = omega arith; deep = omega arith; onto = past m }
        where
          past : end < length text → (its : List Item) → Held its p → Onto text its p (passed (end + 1) p.depth)
          past m [] w = true_false (held_not w)
          past m (integer sign n ∷ its) (a, b, c) =
              let e : suc end ≡ end + 1 = omega arith in
              let z : List Item = binary (part text (suc p.at) end) ∷ its in
              record { items = z; held = refl; goes = ap in_syntax (count-goes its sign n a b c ∙ (k.closes m n c).2 its p.depth ∙ ap (λ (j : ℕ). onward text j (state between z p.depth)) e) }
          past m (quoted q bs ∷ its) w = true_false (held_not w)
          past m (binary bs ∷ its) w = true_false (held_not w)
          past m (mark b ∷ its) w = true_false (held_not w)

  module _ (b : ℕ) (g : get_or text p.at 0 ≡ b) where
    one_byte : (e : ℕ) → e ≤ p.depth + 1 → ((its : List Item) → step (state between its p.depth) b ≡ state between (mark b ∷ its) e) → ItemIs text p (passed (p.at + 1) e)
    one_byte e h f =
        let n : suc p.at ≡ p.at + 1 = omega arith in
        record {
          later = omega arith;
          near = omega arith;
          deep = h;
          onto = λ its w. record { items = mark b ∷ its; held = refl; goes = ap in_syntax (onward_step text p.at b (state between its p.depth) (state between (mark b ∷ its) e) l g (f its) ∙ ap (λ (j : ℕ). onward text j (state between (mark b ∷ its) e)) n) };
        }

    no_byte : ((its : List Item) → step (state between its p.depth) b ≡ state broken its p.depth) → ItemIs text p (passed (length text) p.depth)
    no_byte f = stops (length text) refl (λ its w. onward_breaks text p.at b (state between its p.depth) its p.depth l g (f its))

    pub mark_open : b ≡ 123 → ItemIs text p (passed (p.at + 1) (p.depth + 1))
    mark_open e =
        let n : suc p.depth ≡ p.depth + 1 = omega arith in
        one_byte (p.depth + 1) (omega arith) (λ its. rw e (open_step its p.depth ∙ ap (λ (j : ℕ). state between (mark 123 ∷ its) j) n))

    -- "no `}` without its `{`"
    shut_none : (its : List Item) (d : ℕ) → d ≡ 0 → shut its d ≡ state broken its d
    shut_none its zero e = refl
    shut_none its (suc d) e = absurd (omega arith)

    shut_one : (its : List Item) (d : ℕ) → (d ≡ 0 → ⊥) → shut its d ≡ state between (mark 125 ∷ its) (d - 1)
    shut_one its zero h = absurd (h refl)
    shut_one its (suc d) h = let n : d ≡ suc d - 1 = omega arith in ap (λ (j : ℕ). state between (mark 125 ∷ its) j) n

    pub mark_unmatched : b ≡ 125 → p.depth ≡ 0 → ItemIs text p (passed (length text) p.depth)
    mark_unmatched e z = no_byte (λ its. ap (step (state between its p.depth)) e ∙ shut_step its p.depth ∙ shut_none its p.depth z)

    pub mark_shut : b ≡ 125 → (p.depth ≡ 0 → ⊥) → ItemIs text p (passed (p.at + 1) (p.depth - 1))
    mark_shut e z = one_byte (p.depth - 1) (omega arith) (λ its. rw e (shut_step its p.depth ∙ shut_one its p.depth z))

    pub mark_comma : b ≡ 44 → ItemIs text p (passed (length text) p.depth)
    mark_comma e = no_byte (λ its. ap (step (state between its p.depth)) e ∙ comma_step its p.depth)

    pub mark_other : is_mark b ≡ true → (b ≡ 123 → ⊥) → (b ≡ 125 → ⊥) → (b ≡ 44 → ⊥) → ItemIs text p (passed (p.at + 1) p.depth)
    mark_other h o s c = one_byte p.depth (omega arith) (λ its. mark_step its p.depth b h o s c)

-- which byte starts a mark
pub mark_there : (b : ℕ) → is_blank b ≡ false → is_delimiter b ≡ false → (is_digit b || is "-" b) ≡ false → (b ≡ 126 → ⊥) → (b ≡ 36 → ⊥) → is_mark b ≡ true
mark_there b h g e t u =
    let x = or_none (is_digit b) (is "-" b) e in
    rw (h, g, x.0, x.1, ne_eqb b 126 t, ne_eqb b 36 u)

-- ---- a text, item by item

-- how far a text was judged
pub record Judged (text : List ℕ) (p : Progress) : Type 0 where
  pub near : p.at ≤ length text
  pub deep : p.depth ≤ p.at
  pub items : List Item
  pub held : Held items p
  pub goes : in_syntax (said text) ≡ in_syntax (onward text p.at (state between items p.depth))

abbrev pub moved_to : Progress → ℕ → Progress
moved_to p at = record { at = at; depth = p.depth; held = p.held; negative = p.negative; size = p.size }

pub judged_none : (text : List ℕ) → Judged text (passed 0 0)
judged_none text = record { near = omega arith; deep = omega arith; items = []; held = refl; goes = refl }

said_in : (p : Phase) → in_syntax (said_by p) ≡ true
said_in outside = refl
said_in (names fs) = refl
said_in (value fs name) = refl
said_in (number fs name negative n) = refl
said_in (whole fs) = refl
said_in wrong = refl

-- "The first `$` outside .. ends the text"
dollar_ends : (text : List ℕ) (at : ℕ) (its : List Item) (d : ℕ) → at < length text → get_or text at 0 ≡ 36 → (eqb d 0 && eqb (length text - at) 1) ≡ in_syntax (onward text at (state between its d))
dollar_ends text at its zero l g = go (dec_lt (suc at) (length text))
  where
    go : Dec (suc at < length text) → eqb (length text - at) 1 ≡ in_syntax (onward text at (state between its 0))
    go (yes m) = ne_eqb (length text - at) 1 (λ e. omega arith) ∙ sym (ap in_syntax (onward_step text at 36 (state between its 0) (state ended its 0) l g (dollar_step its 0) ∙ onward_breaks text (suc at) (get_or text (suc at) 0) (state ended its 0) its 0 m refl (ended_step its 0 (get_or text (suc at) 0))))
    go (no m) = eq-eqb (length text - at) 1 (omega arith) ∙ sym (ap in_syntax (onward_step text at 36 (state between its 0) (state ended its 0) l g (dollar_step its 0) ∙ onward_end text (suc at) (state ended its 0) (omega arith)) ∙ said_in (phase_of its))
dollar_ends text at its (suc d) l g =
    rw (ne_eqb (suc d) 0 (λ e. omega arith)) (sym (ap in_syntax (onward_breaks text at 36 (state between its (suc d)) its (suc d) l g (dollar_step its (suc d)))))

module _ (text : List ℕ) (p : Progress) (j : Judged text p) where
  pub judged_moved : (at : ℕ) → BlanksTo text p.at at → Judged text (moved_to p at)
  judged_moved at k = record { near = k.near; deep = omega (arith, j.deep, k.after); items = j.items; held = j.held; goes = j.goes ∙ ap in_syntax (k.goes j.items p.depth) }

  pub judged_item : (r : Progress) → ItemIs text p r → Judged text r
  judged_item r k =
      let o = k.onto j.items j.held in
      record { near = k.near; deep = omega (arith, j.deep, k.later, k.deep); items = o.items; held = o.held; goes = j.goes ∙ o.goes }

  pub judged_cut : length text ≤ p.at → false ≡ in_syntax (said text)
  judged_cut h = sym (j.goes ∙ ap in_syntax (onward_end text p.at (state between j.items p.depth) h))

  pub judged_dollar : p.at < length text → get_or text p.at 0 ≡ 36 → (eqb p.depth 0 && eqb (length text - p.at) 1) ≡ in_syntax (said text)
  judged_dollar l g = dollar_ends text p.at j.items p.depth l g ∙ sym j.goes
