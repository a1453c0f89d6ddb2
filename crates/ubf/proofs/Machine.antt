-- The machine of specs/Item.antt on the parts of a text: quoted items by any delimiter, whitespace and comments, integers, binaries, marks. Assumes nothing.
use mathlib.Core.Path.{◌≡◌, refl, sym, ap, ◌∙◌}
use mathlib.Core.Bool.{Bool, true, false, cond, ◌||◌}
use mathlib.Core.List.{List, [], ◌∷◌, ◌++◌, append_assoc, append-nil}
use mathlib.Core.Logic.{◌⊎◌, inl, inr}
use Prim.Native.Nat.{ℕ, zero, suc, ◌+◌, ◌*◌, ◌-◌, ◌≤◌, ◌<◌}
use native.Mathlib.Omega.{arith}
use borrow.Author.Tests.{eq-eqb, ne_eqb, eqb-true, leb-true, le-leb, not-true}
use lib.Dec.{eqb, leb}
use lib.ListN.{length, get_or, take, drop, length-drop, take-append-drop, drop_of_length-le}
use lib.Seq.{drop-cons, drop-drop, take-suc, get_or-drop}
use Rattle.common.proofs.Choice.{true_false}
use Rattle.octets.proofs.Theorems.{and_parts, or_parts}
use Rattle.ubf.specs.Byte.{is, is_space, is_digit, digit_of, is_quote}
use Rattle.ubf.specs.Escape.{needs_escape, escape_of, escapes}
use Rattle.ubf.specs.Item.{Item, integer, binary, mark, between, within, escaped, minus, digits, counted, ended, broken, State, state, closed, counting, shut, dollar, fresh, step, run}
use Rattle.ubf.specs.Fields.{no_text, said_in}
use Rattle.ubf.specs.Scan.{onward, part, is_blank, is_delimiter, is_mark}

-- ---- runs

pub run_append : (s : State) (xs ys : List ℕ) → run s (xs ++ ys) ≡ run (run s xs) ys
unfolding run
run_append s [] ys = refl
run_append s (x ∷ xs) ys = run_append (step s x) xs ys

pub run_one : (s : State) (x : ℕ) (xs : List ℕ) → run s (x ∷ xs) ≡ run (step s x) xs
unfolding run
run_one s x xs = refl

pub run_none : (s : State) → run s [] ≡ s
unfolding run
run_none s = refl

-- what is outside the syntax stays so
pub broken_run : (its : List Item) (d : ℕ) (bs : List ℕ) → run (state broken its d) bs ≡ state broken its d
unfolding run step
broken_run its d [] = refl
broken_run its d (b ∷ bs) = broken_run its d bs

-- ---- a text from a place on

pub onward_one : (text : List ℕ) (at : ℕ) (s : State) → at < length text → onward text at s ≡ onward text (suc at) (step s (get_or text at 0))
onward_one text at s h = ap (λ (l : List ℕ). said_in (run s l)) (drop-cons text at 0 h) ∙ ap said_in (run_one s (get_or text at 0) (drop (suc at) text))

-- where its byte there is known, and what the machine makes of it
pub onward_step : (text : List ℕ) (at b : ℕ) (s t : State) → at < length text → get_or text at 0 ≡ b → step s b ≡ t → onward text at s ≡ onward text (suc at) t
onward_step text at b s t h e g = onward_one text at s h ∙ ap (λ (u : State). onward text (suc at) u) (ap (step s) e ∙ g)

pub onward_end : (text : List ℕ) (at : ℕ) (s : State) → length text ≤ at → onward text at s ≡ said_in s
onward_end text at s h = ap (λ (l : List ℕ). said_in (run s l)) (drop_of_length-le text h) ∙ ap said_in (run_none s)

pub onward_part : (text : List ℕ) (at n : ℕ) (s : State) → onward text at s ≡ onward text (at + n) (run s (take n (drop at text)))
onward_part text at n s =
    ap (λ (l : List ℕ). said_in (run s l)) (sym (take-append-drop n (drop at text)))
    ∙ ap said_in (run_append s (take n (drop at text)) (drop n (drop at text)))
    ∙ ap (λ (l : List ℕ). said_in (run (run s (take n (drop at text))) l)) (drop-drop n at text)

pub onward_broken : (text : List ℕ) (at : ℕ) (its : List Item) (d : ℕ) → onward text at (state broken its d) ≡ no_text
onward_broken text at its d = ap said_in (broken_run its d (drop at text))

-- a byte that no text in the syntax has there
pub onward_breaks : (text : List ℕ) (at b : ℕ) (s : State) (its : List Item) (d : ℕ) → at < length text → get_or text at 0 ≡ b → step s b ≡ state broken its d → onward text at s ≡ no_text
onward_breaks text at b s its d h e g = onward_step text at b s (state broken its d) h e g ∙ onward_broken text (suc at) its d

pub part_none : (text : List ℕ) (at : ℕ) → part text at at ≡ []
part_none text at =
    let e : at - at ≡ 0 = omega arith in
    ap (λ (n : ℕ). take n (drop at text)) e

pub part_more : (text : List ℕ) (at i : ℕ) → at ≤ i → i < length text → part text at (suc i) ≡ part text at i ++ (get_or text i 0 ∷ [])
part_more text at i h l =
    let e : suc i - at ≡ suc (i - at) = omega arith in
    let f : at + (i - at) ≡ i = omega arith in
    let g : i - at < length (drop at text) = omega (arith, length-drop at text) in
    ap (λ (n : ℕ). take n (drop at text)) e
    ∙ take-suc (drop at text) (i - at) 0 g
    ∙ ap (λ (b : ℕ). part text at i ++ (b ∷ [])) (get_or-drop at text (i - at) 0 ∙ ap (λ (k : ℕ). get_or text k 0) f)

-- ---- quoted items

module _ (q : ℕ) (acc : List ℕ) (its : List Item) (d : ℕ) where
  pub quoted_close : step (state (within q acc) its d) q ≡ state between (closed q acc its) d
  unfolding step
  quoted_close = rw (eq-eqb q q refl)

  pub quoted_plain : (b : ℕ) → needs_escape q b ≡ false → step (state (within q acc) its d) b ≡ state (within q (acc ++ (b ∷ []))) its d
  unfolding step
  quoted_plain b h = go (eqb b q) refl (eqb b 92) refl
    where
      go : (x : Bool) → eqb b q ≡ x → (y : Bool) → eqb b 92 ≡ y → step (state (within q acc) its d) b ≡ state (within q (acc ++ (b ∷ []))) its d
      go true e y f = let z : true ≡ false = rw e at h in true_false z
      go false e true f = let z : true ≡ false = rw (e, f) at h in true_false z
      go false e false f = simp (e, f)

  -- "a backslash stands before itself or the delimiter"
  pub quoted_backslash : (q ≡ 92 → ⊥) → step (state (within q acc) its d) 92 ≡ state (escaped q acc) its d
  unfolding step
  quoted_backslash h = rw (ne_eqb 92 q (λ e. h (sym e)))

  pub quoted_escaped : (b : ℕ) → needs_escape q b ≡ true → step (state (escaped q acc) its d) b ≡ state (within q (acc ++ (b ∷ []))) its d
  unfolding step
  quoted_escaped b h = go (eqb b q) refl
    where
      go : (x : Bool) → eqb b q ≡ x → step (state (escaped q acc) its d) b ≡ state (within q (acc ++ (b ∷ []))) its d
      go true e = simp e
      go false e = let y : eqb b 92 ≡ true = rw e at h in simp (e, y)

  pub quoted_wrong : (b : ℕ) → needs_escape q b ≡ false → step (state (escaped q acc) its d) b ≡ state broken its d
  unfolding step
  quoted_wrong b h = go (eqb b q) refl (eqb b 92) refl
    where
      go : (x : Bool) → eqb b q ≡ x → (y : Bool) → eqb b 92 ≡ y → step (state (escaped q acc) its d) b ≡ state broken its d
      go true e y f = let z : true ≡ false = rw e at h in true_false z
      go false e true f = let z : true ≡ false = rw (e, f) at h in true_false z
      go false e false f = simp (e, f)

quoted_byte : (q b : ℕ) (acc : List ℕ) (its : List Item) (d : ℕ) → (q ≡ 92 → ⊥) → run (state (within q acc) its d) (escape_of q b) ≡ state (within q (acc ++ (b ∷ []))) its d
quoted_byte q b acc its d h = go (needs_escape q b) refl
  where
    go : (x : Bool) → needs_escape q b ≡ x → run (state (within q acc) its d) (cond x (92 ∷ b ∷ []) (b ∷ [])) ≡ state (within q (acc ++ (b ∷ []))) its d
    go true e =
        run_one (state (within q acc) its d) 92 (b ∷ [])
        ∙ ap (λ (s : State). run s (b ∷ [])) (quoted_backslash q acc its d h)
        ∙ run_one (state (escaped q acc) its d) b []
        ∙ run_none (step (state (escaped q acc) its d) b)
        ∙ quoted_escaped q acc its d b e
    go false e = run_one (state (within q acc) its d) b [] ∙ run_none (step (state (within q acc) its d) b) ∙ quoted_plain q acc its d b e

pub quoted_body : (q : ℕ) (bs acc : List ℕ) (its : List Item) (d : ℕ) → (q ≡ 92 → ⊥) → run (state (within q acc) its d) (escapes q bs) ≡ state (within q (acc ++ bs)) its d
unfolding escapes
quoted_body q [] acc its d h = run_none (state (within q acc) its d) ∙ ap (λ (l : List ℕ). state (within q l) its d) (sym (append-nil acc))
quoted_body q (b ∷ bs) acc its d h =
    run_append (state (within q acc) its d) (escape_of q b) (escapes q bs)
    ∙ ap (λ (s : State). run s (escapes q bs)) (quoted_byte q b acc its d h)
    ∙ quoted_body q bs (acc ++ (b ∷ [])) its d h
    ∙ ap (λ (l : List ℕ). state (within q l) its d) (append_assoc acc (b ∷ []) bs)

pub escapes_none : (q : ℕ) → escapes q [] ≡ []
unfolding escapes
escapes_none q = refl

pub escapes_more : (q : ℕ) (bs : List ℕ) (b : ℕ) → escapes q (bs ++ (b ∷ [])) ≡ escapes q bs ++ escape_of q b
unfolding escapes
escapes_more q [] b = append-nil (escape_of q b)
escapes_more q (a ∷ bs) b = ap (λ (l : List ℕ). escape_of q a ++ l) (escapes_more q bs b) ∙ sym (append_assoc (escape_of q a) (escapes q bs) (escape_of q b))

quote_is : (q : ℕ) → is_quote q ≡ true → (q ≡ 34) ⊎ ((q ≡ 39) ⊎ ((q ≡ 96) ⊎ (q ≡ 37)))
quote_is q h = fourth (or_parts (eqb q 34 || eqb q 39 || eqb q 96) (eqb q 37) h)
  where
    first : (eqb q 34 ≡ true) ⊎ (eqb q 39 ≡ true) → (q ≡ 34) ⊎ ((q ≡ 39) ⊎ ((q ≡ 96) ⊎ (q ≡ 37)))
    first (inl e) = inl (eqb-true q 34 e)
    first (inr e) = inr (inl (eqb-true q 39 e))

    third : ((eqb q 34 || eqb q 39) ≡ true) ⊎ (eqb q 96 ≡ true) → (q ≡ 34) ⊎ ((q ≡ 39) ⊎ ((q ≡ 96) ⊎ (q ≡ 37)))
    third (inl e) = first (or_parts (eqb q 34) (eqb q 39) e)
    third (inr e) = inr (inr (inl (eqb-true q 96 e)))

    fourth : ((eqb q 34 || eqb q 39 || eqb q 96) ≡ true) ⊎ (eqb q 37 ≡ true) → (q ≡ 34) ⊎ ((q ≡ 39) ⊎ ((q ≡ 96) ⊎ (q ≡ 37)))
    fourth (inl e) = third (or_parts (eqb q 34 || eqb q 39) (eqb q 96) e)
    fourth (inr e) = inr (inr (inr (eqb-true q 37 e)))

pub quote_open : (q : ℕ) (its : List Item) (d : ℕ) → is_quote q ≡ true → step (state between its d) q ≡ state (within q []) its d
unfolding step fresh
quote_open q its d h = go (quote_is q h)
  where
    go : (q ≡ 34) ⊎ ((q ≡ 39) ⊎ ((q ≡ 96) ⊎ (q ≡ 37))) → step (state between its d) q ≡ state (within q []) its d
    go (inl e) = rw e
    go (inr (inl e)) = rw e
    go (inr (inr (inl e))) = rw e
    go (inr (inr (inr e))) = rw e

-- ---- whitespace and comments

pub space_step : (b : ℕ) (its : List Item) (d : ℕ) → is_space b ≡ true → step (state between its d) b ≡ state between its d
unfolding step fresh
space_step b its d e = rw e

-- ---- integers

pub digit_bounds : (b : ℕ) → is_digit b ≡ true → (48 ≤ b) × (b ≤ 57)
digit_bounds b e = let p = and_parts (leb 48 b) (leb b 57) e in (leb-true 48 b p.0, leb-true b 57 p.1)

pub fresh_digit : (b : ℕ) (its : List Item) (d : ℕ) → is_digit b ≡ true → fresh its d b ≡ state (digits false (digit_of b)) its d
unfolding fresh
fresh_digit b its d e =
    let p = digit_bounds b e in
    simp (ne_eqb b 32 (λ e. omega arith), ne_eqb b 10 (λ e. omega arith), ne_eqb b 13 (λ e. omega arith), ne_eqb b 9 (λ e. omega arith), ne_eqb b 34 (λ e. omega arith), ne_eqb b 39 (λ e. omega arith), ne_eqb b 96 (λ e. omega arith), ne_eqb b 37 (λ e. omega arith), le-leb 48 b p.0, le-leb b 57 p.1)

module _ (its : List Item) (d : ℕ) where
  pub digit_more : (negative : Bool) (n b : ℕ) → is_digit b ≡ true → step (state (digits negative n) its d) b ≡ state (digits negative (n * 10 + digit_of b)) its d
  unfolding step
  digit_more negative n b e = rw e

  -- a digit is the first of an integer as it is one after others
  pub digit_first : (b : ℕ) → is_digit b ≡ true → step (state between its d) b ≡ step (state (digits false 0) its d) b
  unfolding step
  digit_first b e =
      let z : digit_of b ≡ 0 * 10 + digit_of b = omega arith in
      fresh_digit b its d e ∙ ap (λ (n : ℕ). state (digits false n) its d) z ∙ sym (digit_more false 0 b e)

  pub digit_signed : (b : ℕ) → is_digit b ≡ true → step (state minus its d) b ≡ step (state (digits true 0) its d) b
  unfolding step
  digit_signed b e =
      let z : digit_of b ≡ 0 * 10 + digit_of b = omega arith in
      rw e (ap (λ (n : ℕ). state (digits true n) its d) z)

  pub minus_first : step (state between its d) 45 ≡ state minus its d
  unfolding step fresh
  minus_first = refl

  pub minus_wrong : (b : ℕ) → is_digit b ≡ false → step (state minus its d) b ≡ state broken its d
  unfolding step
  minus_wrong b e = rw e

  -- the byte after an integer is one between items
  pub digits_step : (negative : Bool) (n b : ℕ) → is_digit b ≡ false → step (state (digits negative n) its d) b ≡ step (state between (integer negative n ∷ its) d) b
  unfolding step
  digits_step negative n b e = rw e

-- ---- binaries

pub counted_run : (bs acc : List ℕ) (its : List Item) (d : ℕ) → run (state (counted (length bs) acc) its d) bs ≡ state (counted 0 (acc ++ bs)) its d
unfolding run step
counted_run [] acc its d = ap (λ (l : List ℕ). state (counted 0 l) its d) (sym (append-nil acc))
counted_run (b ∷ bs) acc its d = counted_run bs (acc ++ (b ∷ [])) its d ∙ ap (λ (l : List ℕ). state (counted 0 l) its d) (append_assoc acc (b ∷ []) bs)

-- a text that ends before its binary does
pub counted_short : (n : ℕ) (bs acc : List ℕ) (its : List Item) (d : ℕ) → length bs ≤ n → said_in (run (state (counted n acc) its d) bs) ≡ no_text
unfolding run step
counted_short n [] acc its d h = refl
counted_short zero (b ∷ bs) acc its d h = absurd (omega arith)
counted_short (suc n) (b ∷ bs) acc its d h = counted_short n bs (acc ++ (b ∷ [])) its d (omega arith)

pub binary_close : (bs : List ℕ) (its : List Item) (d : ℕ) → step (state (counted 0 bs) its d) 126 ≡ state between (binary bs ∷ its) d
unfolding step
binary_close bs its d = refl

pub binary_wrong : (b : ℕ) (bs : List ℕ) (its : List Item) (d : ℕ) → (b ≡ 126 → ⊥) → step (state (counted 0 bs) its d) b ≡ state broken its d
unfolding step
binary_wrong b bs its d h = rw (ne_eqb b 126 h)

-- ---- marks, and what ends a text

-- neither of two tests
pub or_none : (a b : Bool) → (a || b) ≡ false → (a ≡ false) × (b ≡ false)
or_none true b e = true_false e
or_none false b e = (refl, e)

module _ (its : List Item) (d : ℕ) where
  pub tilde_step : step (state between its d) 126 ≡ counting its d
  unfolding step fresh
  tilde_step = refl

  pub open_step : step (state between its d) 123 ≡ state between (mark 123 ∷ its) (suc d)
  unfolding step fresh
  open_step = refl

  pub shut_step : step (state between its d) 125 ≡ shut its d
  unfolding step fresh
  shut_step = refl

  pub comma_step : step (state between its d) 44 ≡ state broken its d
  unfolding step fresh
  comma_step = refl

  pub dollar_step : step (state between its d) 36 ≡ dollar its d
  unfolding step fresh
  dollar_step = refl

  pub ended_step : (b : ℕ) → step (state ended its d) b ≡ state broken its d
  unfolding step
  ended_step b = refl

  -- a mark that is no brace
  pub mark_step : (b : ℕ) → is_mark b ≡ true → (b ≡ 123 → ⊥) → (b ≡ 125 → ⊥) → (b ≡ 44 → ⊥) → step (state between its d) b ≡ state between (mark b ∷ its) d
  unfolding step fresh
  mark_step b h o s c =
      let x1 = or_none (is_blank b || is_delimiter b || is_digit b || is "-" b || is "~" b) (is "$" b) (not-true (is_blank b || is_delimiter b || is_digit b || is "-" b || is "~" b || is "$" b) h) in
      let x2 = or_none (is_blank b || is_delimiter b || is_digit b || is "-" b) (is "~" b) x1.0 in
      let x3 = or_none (is_blank b || is_delimiter b || is_digit b) (is "-" b) x2.0 in
      let x4 = or_none (is_blank b || is_delimiter b) (is_digit b) x3.0 in
      let x5 = or_none (is_blank b) (is_delimiter b) x4.0 in
      let x6 = or_none (is_space b) (is "%" b) x5.0 in
      rw (x6.0, x5.1, x6.1, x4.1, x3.1, x2.1, ne_eqb b 123 o, ne_eqb b 125 s, x1.1, ne_eqb b 44 c)
