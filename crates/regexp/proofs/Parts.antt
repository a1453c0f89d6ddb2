-- One word of a text, as the code answers it, and the flags of a kind. Assumes nothing.
use mathlib.Core.Path.{◌≡◌, refl, sym, ap, ◌∙◌}
use mathlib.Core.Bool.{Bool, true, false, or-false}
use mathlib.Core.List.{List, [], ◌∷◌}
use Prim.Native.Nat.{ℕ, suc, ◌+◌, ◌*◌, ◌≤◌, ◌<◌, ◌/◌, ◌%◌}
use native.Mathlib.Numerals.{add-one, add-two}
use native.Mathlib.Decide.{dec_lt}
use native.Mathlib.Omega.{arith}
use lib.ListN.{length, get_or, drop, drop_of_length-le, length-drop}
use lib.Seq.{drop-cons, drop-drop}
use lib.Dec.{eqb}
use borrow.Author.Tests.{eq-eqb, ne_eqb}
use Rattle.common.specs.Choice.{pick}
use Rattle.common.proofs.Choice.{pick_yes, pick_no, false_true}
use Rattle.pattern.specs.Sets.{spans_of, in_spans, width_by, width_from, width_of}
use Rattle.pattern.specs.Wildcard.{is_set}
use Rattle.pattern.specs.Steps.{begins, test_at, turned}
use Rattle.pattern.specs.declared.sets.SetTest.{SetTest}
use Rattle.std.specs.Prelude.{Some, None}
use Rattle.std.specs.Prelude.{Option as Maybe}
use mir.Val.{bool_byte}
use Rattle.pattern.proofs.Texts.{sign_here}
use Rattle.automaton.proofs.Step.{get_d_any}
use Rattle.automaton.specs.Table.{held_of, repeats, absent, outside, sort}
use Rattle.regexp.specs.Language.{plain, any, set, takes, star, plus, optional}
use Rattle.regexp.specs.Words.{item, set_by, set_or_not, set_of, word_of}
use Rattle.regexp.specs.Promise.{SetAt, WordAt}
use Rattle.regexp.specs.declared.Read.TheVariants.{Item, Repeat, Bad}
use Rattle.regexp.proofs.Told.{set_width}
use Rattle.regexp.proofs.Turns.{Again, Lacks}

-- ---- the flags of a kind
pub again_not : (k : ℕ) → Again k false k
again_not k = (refl, refl, refl, sym (or-false (repeats k)))

pub lacks_not : (k : ℕ) → Lacks k false k
lacks_not k = (refl, refl, refl, sym (or-false (absent k)))

pub again_is : (k : ℕ) → (k % 2 ≡ 0 → ⊥) → Again k true k
unfolding repeats
again_is k h = let e : k % 2 ≡ 1 = omega arith in (refl, refl, refl, rw e)

pub again_more : (k : ℕ) → k % 2 ≡ 0 → Again k true (k + 1)
unfolding repeats absent outside sort
again_more k h =
    let n8 : k % 8 ≡ 7 → ⊥ = λ z. omega arith in
    let l8 : k % 8 < 7 = omega (arith, n8) in
    let a : (k + 1) / 8 ≡ k / 8 = omega arith in
    let n4 : k % 4 ≡ 3 → ⊥ = λ z. omega arith in
    let l4 : k % 4 < 3 = omega (arith, n4) in
    let b : (k + 1) / 4 ≡ k / 4 = omega arith in
    let c : (k + 1) / 2 ≡ k / 2 = omega arith in
    let d : (k + 1) % 2 ≡ 1 = omega arith in
    (a, rw b, rw c, rw (d, h))

pub lacks_is : (k : ℕ) → (k / 2 % 2 ≡ 0 → ⊥) → Lacks k true k
unfolding absent
lacks_is k h = let e : k / 2 % 2 ≡ 1 = omega arith in (refl, refl, refl, rw e)

below_six : (x : ℕ) → x < 8 → (x ≡ 6 → ⊥) → (x ≡ 7 → ⊥) → x < 6
below_six x h a b = omega (arith, a, b)

by_eight : (k : ℕ) → k % 8 < 6 → (k + 2) / 8 ≡ k / 8
by_eight k h = omega arith

by_four : (k : ℕ) → k % 4 < 2 → (k + 2) / 4 ≡ k / 4
by_four k h = omega arith

four_of : (k : ℕ) → k / 2 % 2 ≡ 0 → k % 4 < 2
four_of k h = let g2 : k / 2 ≡ 2 * (k / 2 / 2) = omega arith in omega arith

eight_of : (k : ℕ) → k % 4 < 2 → k % 8 < 6
eight_of k h = below_six (k % 8) (omega arith) (λ z. omega arith) (λ z. omega arith)

next_half : (k : ℕ) → k / 2 % 2 ≡ 0 → (k + 2) / 2 % 2 ≡ 1
next_half k h = let e : (k + 2) / 2 ≡ k / 2 + 1 = omega arith in rw e (omega arith)

pub lacks_more : (k : ℕ) → k / 2 % 2 ≡ 0 → Lacks k true (k + 2)
unfolding repeats absent outside sort
lacks_more k h =
    let l4 = four_of k h in
    let c : (k + 2) % 2 ≡ k % 2 = omega arith in
    (by_eight k (eight_of k l4), rw (by_four k l4), rw c, rw (next_half k h, h))

-- ---- sets
module _ (i : ℕ) (s : List ℕ) where
  pub test_ends : (t : SetTest) → Some t ≡ test_at i s 0 → (is_set s ≡ true) × (t.end ≡ i + width_of s)
  test_ends t e = go (is_set s) refl
    where
      go : (b : Bool) → is_set s ≡ b → (is_set s ≡ true) × (t.end ≡ i + width_of s)
      go true f = let q : Some t ≡ Some (record { hit = in_spans (spans_of s) 0; end = i + width_of s }) = e ∙ pick_yes (is_set s) _ _ f in (f, cc)
      go false f = let q : Some t ≡ None = e ∙ pick_no (is_set s) _ _ f in absurd (cc)

  pub test_bad : None ≡ test_at i s 0 → is_set s ≡ false
  test_bad e = go (is_set s) refl
    where
      go : (b : Bool) → is_set s ≡ b → is_set s ≡ false
      go true f = let q : ◌≡◌ {A = Maybe SetTest} None (Some (record { hit = in_spans (spans_of s) 0; end = i + width_of s })) = e ∙ pick_yes (is_set s) _ _ f in absurd (cc)
      go false f = f

  -- the token of a set takes what the set takes
  held_set : (out : Bool) → is_set s ≡ true → ◌≡◌ {A = ℕ → Bool} (λ c. turned out (held_of (test_at i s c))) (takes (set out (spans_of s)))
  held_set out h = ap (λ (b : Bool). λ (c : ℕ). turned out (held_of (pick b (λ _. Some (record { hit = in_spans (spans_of s) c; end = i + width_of s })) (λ _. None)))) h

set_long : (s : List ℕ) → is_set s ≡ true → 0 < width_of s
set_long [] h = false_true h
set_long (b ∷ s) h = go (eqb b 93) (eqb b 92)
  where
    go : (x y : Bool) → 0 < width_by x y (λ e. width_from e s)
    go true y = omega arith
    go false true = omega arith
    go false false = omega arith

-- the set that stands at an index lies in the text
module _ (text : List ℕ) (i : ℕ) (h : is_set (drop i text) ≡ true) where
  pub set_starts : i < length text
  set_starts = go (dec_lt i (length text))
    where
      go : Dec (i < length text) → i < length text
      go (yes l) = l
      go (no l) = false_true (rw (drop_of_length-le text {i = i} (omega arith)) at h)

  pub set_ends : i + width_of (drop i text) ≤ length text
  set_ends = omega (arith, set_width (drop i text) h, length-drop i text, set_starts)

no_hat : (s : List ℕ) → begins 94 s ≡ false → set_of s ≡ set_by (is_set s) false s
no_hat [] e = refl
no_hat (b ∷ s) e = ap (λ (x : Bool). set_or_not x b s) e

module _ (text : List ℕ) (i : ℕ) where
  pub set_out : begins 94 (drop i text) ≡ true → (j : ℕ) → is_set (drop (i + 1) text) ≡ true → j ≡ i + 1 + width_of (drop (i + 1) text) → SetAt text i (Item 20 (i + 1) j)
  unfolding repeats absent outside sort
  set_out b j h e =
      let s = drop (i + 1) text in
      let l = set_starts text (i + 1) h in
      let g = set_ends text (i + 1) h in
      let w : drop (width_of (drop (i + 1) text)) (drop (i + 1) text) ≡ drop j text = drop-drop (width_of (drop (i + 1) text)) (i + 1) text ∙ ap (λ (n : ℕ). drop n text) (sym e) in (
        (
          set true (spans_of (drop (i + 1) text)),
          ap set_of (sign_here text i 94 b) ∙ ap (λ (x : Bool). set_by x true (drop (i + 1) text)) h ∙ ap (item (set true (spans_of (drop (i + 1) text)))) w,
          held_set (i + 1) (drop (i + 1) text) true h,
        ),
        omega arith,
        l,
        omega arith,
        omega arith,
        omega arith,
        refl,
        refl,
      )

  pub set_out_bad : begins 94 (drop i text) ≡ true → is_set (drop (i + 1) text) ≡ false → SetAt text i Bad
  set_out_bad b h = ap set_of (sign_here text i 94 b) ∙ ap (λ (x : Bool). set_by x true (drop (i + 1) text)) h

  pub set_in : begins 94 (drop i text) ≡ false → (j : ℕ) → is_set (drop i text) ≡ true → j ≡ i + width_of (drop i text) → SetAt text i (Item 16 i j)
  unfolding repeats absent outside sort
  set_in b j h e =
      let l = set_starts text i h in
      let g = set_ends text i h in
      let k = set_long (drop i text) h in
      let w : drop (width_of (drop i text)) (drop i text) ≡ drop j text = drop-drop (width_of (drop i text)) i text ∙ ap (λ (n : ℕ). drop n text) (sym e) in (
        (
          set false (spans_of (drop i text)),
          no_hat (drop i text) b ∙ ap (λ (x : Bool). set_by x false (drop i text)) h ∙ ap (item (set false (spans_of (drop i text)))) w,
          held_set i (drop i text) false h,
        ),
        omega arith,
        l,
        omega arith,
        omega arith,
        omega arith,
        refl,
        refl,
      )

  pub set_in_bad : begins 94 (drop i text) ≡ false → is_set (drop i text) ≡ false → SetAt text i Bad
  set_in_bad b h = no_hat (drop i text) b ∙ ap (λ (x : Bool). set_by x false (drop i text)) h

-- a set, whose members begin behind the mark of a complement, if there is one
module _ (text : List ℕ) (i : ℕ) where
  pub set_found : (out : Bool) (n : ℕ) → n ≡ bool_byte out → begins 94 (drop i text) ≡ out → (k : ℕ) → k ≡ bool_byte out → (t : SetTest) → Some t ≡ test_at (i + n) (drop (i + n) text) 0
      → SetAt text i (Item (16 + 4 * k) (i + n) t.end)
  set_found true n h b k g t e = let q = test_ends (i + n) (drop (i + n) text) t e in rw (h, g) (set_out text i b t.end (rw h at q.0) (rw h at q.1))
  set_found false n h b k g t e =
      let z : i + n ≡ i = omega (arith, h) in
      let q = test_ends (i + n) (drop (i + n) text) t e in rw (z, g) (set_in text i b t.end (rw z at q.0) (rw z at q.1))

  pub set_missing : (out : Bool) (n : ℕ) → n ≡ bool_byte out → begins 94 (drop i text) ≡ out → None ≡ test_at (i + n) (drop (i + n) text) 0 → SetAt text i Bad
  set_missing true n h b e = let q = test_bad (i + n) (drop (i + n) text) e in set_out_bad text i b (rw h at q)
  set_missing false n h b e =
      let z : i + n ≡ i = omega (arith, h) in
      let q = test_bad (i + n) (drop (i + n) text) e in set_in_bad text i b (rw z at q)

-- ---- words
module _ (text : List ℕ) (i : ℕ) where
  module _ (h : i < length text) where
    first : word_of (drop i text) ≡ word_of (get_or text i 0 ∷ drop (i + 1) text)
    first = rw (add-one i, drop-cons text i 0 h)

    pub word_escaped : get_or text i 0 ≡ 92 → i + 1 < length text → WordAt text i (Item 0 (i + 1) (i + 2))
    unfolding repeats absent outside sort
    word_escaped e k =
        let k2 : suc i < length text = omega arith in (
          (
            plain (get_or text (i + 1) 0),
            rw (add-two i, add-one i, drop-cons text i 0 h, eq-eqb (get_or text i 0) 92 e, drop-cons text (suc i) 0 k2),
            ap (λ (b : ℕ). takes (plain b)) (get_d_any text (i + 1) 256 0 k),
          ),
          omega arith,
          k,
          omega arith,
          omega arith,
          omega arith,
          refl,
          refl,
        )

    module _ (a1 : get_or text i 0 ≡ 92 → ⊥) where
      module _ (a2 : get_or text i 0 ≡ 91 → ⊥) where
        pub word-star : get_or text i 0 ≡ 42 → WordAt text i (Repeat true true)
        word-star e = (star, first ∙ rw e, refl, refl)

        pub word-plus : get_or text i 0 ≡ 43 → WordAt text i (Repeat true false)
        word-plus e = (plus, first ∙ rw e, refl, refl)

        pub word-optional : get_or text i 0 ≡ 63 → WordAt text i (Repeat false true)
        word-optional e = (optional, first ∙ rw e, refl, refl)

        pub word-any : get_or text i 0 ≡ 46 → WordAt text i (Item 8 i (i + 1))
        unfolding repeats absent outside sort
        word-any e = ((any, first ∙ rw e, refl), omega arith, h, omega arith, omega arith, omega arith, refl, refl)

        pub word_plain : (get_or text i 0 ≡ 40 → ⊥) → (get_or text i 0 ≡ 41 → ⊥) → (get_or text i 0 ≡ 124 → ⊥) → (get_or text i 0 ≡ 42 → ⊥) → (get_or text i 0 ≡ 43 → ⊥) → (get_or text i 0 ≡ 63 → ⊥) → (get_or text i 0 ≡ 46 → ⊥) → (get_or text i 0 ≡ 94 → ⊥) → (get_or text i 0 ≡ 36 → ⊥) → WordAt text i (Item 0 i (i + 1))
        unfolding repeats absent outside sort
        word_plain b1 b2 b3 b4 b5 b6 b7 b8 b9 = (
          (
            plain (get_or text i 0),
            first
                ∙ rw (
                  ne_eqb (get_or text i 0) 92 a1,
                  ne_eqb (get_or text i 0) 91 a2,
                  ne_eqb (get_or text i 0) 40 b1,
                  ne_eqb (get_or text i 0) 41 b2,
                  ne_eqb (get_or text i 0) 124 b3,
                  ne_eqb (get_or text i 0) 42 b4,
                  ne_eqb (get_or text i 0) 43 b5,
                  ne_eqb (get_or text i 0) 63 b6,
                  ne_eqb (get_or text i 0) 46 b7,
                  ne_eqb (get_or text i 0) 94 b8,
                  ne_eqb (get_or text i 0) 36 b9,
                ),
            ap (λ (b : ℕ). takes (plain b)) (get_d_any text i 256 0 h),
          ),
          omega arith,
          h,
          omega arith,
          omega arith,
          omega arith,
          refl,
          refl,
        )
