-- The words of a text are those of the grammar, both ways. Assumes nothing.
use mathlib.Core.Path.{◌≡◌, refl, sym, ap, ◌∙◌}
use mathlib.Core.Logic.{◌⊎◌, inl, inr}
use mathlib.Core.Bool.{Bool, true, false, not, ◌&&◌, ◌||◌}
use mathlib.Core.List.{List, [], ◌∷◌, ◌++◌, append-nil}
use Prim.Native.Nat.{ℕ, ◌≤◌}
use native.Mathlib.Omega.{arith}
use lib.Dec.{eqb}
use lib.ListN.{length, take, drop, take-append-drop}
use lib.Seq.{take_all, length-take-le, drop-append_seam}
use borrow.Author.Tests.{eqb-true}
use Rattle.common.proofs.Choice.{true_false, false_true}
use Rattle.octets.proofs.Theorems.{and_parts}
use Rattle.pattern.specs.Sets.{spans, spans_of, is_closed, rises, is_empty, width_by, width_from, width_of}
use Rattle.pattern.specs.Wildcard.{is_set}
use Rattle.pattern.specs.Steps.{begins}
use Rattle.pattern.proofs.Local.{Alone, set_alone}
use Rattle.regexp.specs.Language.{Atom, plain, set, Mark, star, plus, optional}
use Rattle.regexp.specs.Grammar.{byte_of, AtomText, plain_text, any_text, escaped_text, set_text, complement_text}
use Rattle.regexp.specs.Causes.{Behind, Fault, backslash_last, unclosed_set, empty_set, falling_range}
use Rattle.regexp.specs.Words.{Word, item, repeats, opening, bars, closing, stops, none, escaped_of, set_by, set_or_not, set_of, word_by, word_of}

-- ---- a set, whatever follows it
module _ (s : List ℕ) (h : is_set s ≡ true) where
  right : (is_closed s ≡ true) × ((not (is_empty (spans_of s)) && rises (spans_of s)) ≡ true)
  right = and_parts (is_closed s) (not (is_empty (spans_of s)) && rises (spans_of s)) h

  alone : (z : List ℕ) → Alone false s z (width_of s)
  alone z = set_alone false s z right.0

  cut_spans : (z : List ℕ) → spans_of (take (width_of s) s ++ z) ≡ spans_of s
  cut_spans z = ap spans (alone z).0

  cut_set : (z : List ℕ) → is_set (take (width_of s) s ++ z) ≡ true
  cut_set z = rw ((alone z).1, cut_spans z, right.1)

  cut_width : (z : List ℕ) → width_of (take (width_of s) s ++ z) ≡ width_of s
  cut_width z = (alone z).2

  pub set_width : width_of s ≤ length s
  set_width = (alone []).3

  -- the set alone
  cut_alone : (is_set (take (width_of s) s) ≡ true) × (spans_of (take (width_of s) s) ≡ spans_of s) × (width_of (take (width_of s) s) ≡ length (take (width_of s) s))
  cut_alone =
      let e = append-nil (take (width_of s) s) in
      (rw e at (cut_set []), rw e at (cut_spans []), (rw e at (cut_width [])) ∙ sym (length-take-le (width_of s) s (alone []).3))

set_word : (out : Bool) (s r : List ℕ) → is_set s ≡ true → width_of s ≡ length s → set_by (is_set (s ++ r)) out (s ++ r) ≡ item (set out (spans_of s)) r
set_word out s r h e =
    let t : take (width_of s) s ≡ s = take_all (width_of s) s (omega arith) in
    let i : is_set (s ++ r) ≡ true = (rw t at (cut_set s h r)) in
    let p : spans_of (s ++ r) ≡ spans_of s = (rw t at (cut_spans s h r)) in
    let w : width_of (s ++ r) ≡ length s = (rw t at (cut_width s h r)) ∙ e in
    ap (λ (b : Bool). set_by b out (s ++ r)) i ∙ cc (p, ap (λ (n : ℕ). drop n (s ++ r)) w ∙ drop-append_seam s r)

-- ---- what the grammar derives is the word
plain_word : (a b c d e f g h i j k : Bool) (x : ℕ) (r : List ℕ) → not (a || (b || (c || (d || (e || (f || (g || (h || (i || (j || k)))))))))) ≡ true → word_by a b c d e f g h i j k x r ≡ item (plain x) r
plain_word true b c d e f g h i j k x r z = false_true z
plain_word false true c d e f g h i j k x r z = false_true z
plain_word false false true d e f g h i j k x r z = false_true z
plain_word false false false true e f g h i j k x r z = false_true z
plain_word false false false false true f g h i j k x r z = false_true z
plain_word false false false false false true g h i j k x r z = false_true z
plain_word false false false false false false true h i j k x r z = false_true z
plain_word false false false false false false false true i j k x r z = false_true z
plain_word false false false false false false false false true j k x r z = false_true z
plain_word false false false false false false false false false true k x r z = false_true z
plain_word false false false false false false false false false false true x r z = false_true z
plain_word false false false false false false false false false false false x r z = refl

inside_word : (s r : List ℕ) → is_set s ≡ true → width_of s ≡ length s → begins 94 s ≡ false → set_of (s ++ r) ≡ item (set false (spans_of s)) r
inside_word [] r h w n = false_true h
inside_word (b ∷ s) r h w n = ap (λ (x : Bool). set_or_not x b (s ++ r)) n ∙ set_word false (b ∷ s) r h w

pub atom_word : {s : List ℕ} {a : Atom} → AtomText s a → (r : List ℕ) → word_of (s ++ r) ≡ item a r
atom_word (plain_text b p e) r =
    ap (λ (l : List ℕ). word_of (l ++ r)) (sym e)
    ∙ plain_word (eqb b 92) (eqb b 91) (eqb b 40) (eqb b 41) (eqb b 124) (eqb b 42) (eqb b 43) (eqb b 63) (eqb b 46) (eqb b 94) (eqb b 36) b r p
atom_word (any_text e) r = ap (λ (l : List ℕ). word_of (l ++ r)) (sym e)
atom_word (escaped_text b e) r = ap (λ (l : List ℕ). word_of (l ++ r)) (sym e)
atom_word (set_text s h w n e) r = ap (λ (l : List ℕ). word_of (l ++ r)) (sym e) ∙ inside_word s r h w n
atom_word (complement_text s h w e) r = ap (λ (l : List ℕ). word_of (l ++ r)) (sym e) ∙ set_word true s r h w

pub mark_word : (m : Mark) (r : List ℕ) → word_of (byte_of m ∷ r) ≡ repeats m r
mark_word star r = refl
mark_word plus r = refl
mark_word optional r = refl

-- ---- a word that does not go on
bad_set : (s : List ℕ) → is_set s ≡ false → (is_closed s ≡ false) ⊎ ((is_empty (spans_of s) ≡ true) ⊎ (rises (spans_of s) ≡ false))
bad_set s e = go (is_closed s) (is_empty (spans_of s)) (rises (spans_of s)) refl refl refl e
  where
    go : (x y z : Bool) → is_closed s ≡ x → is_empty (spans_of s) ≡ y → rises (spans_of s) ≡ z → x && (not y && z) ≡ false
        → (is_closed s ≡ false) ⊎ ((is_empty (spans_of s) ≡ true) ⊎ (rises (spans_of s) ≡ false))
    go false y z a b c h = inl a
    go true true z a b c h = inr (inl b)
    go true false false a b c h = inr (inr c)
    go true false true a b c h = true_false h

set_fault : (r s : List ℕ) → Behind r s → is_set s ≡ false → Fault (91 ∷ r)
set_fault r s b e = go (bad_set s e)
  where
    go : (is_closed s ≡ false) ⊎ ((is_empty (spans_of s) ≡ true) ⊎ (rises (spans_of s) ≡ false)) → Fault (91 ∷ r)
    go (inl h) = unclosed_set r s b h
    go (inr (inl h)) = empty_set r s b h
    go (inr (inr h)) = falling_range r s b h

unmarked : (s : List ℕ) → begins 94 s ≡ false → (t : List ℕ) → s ≡ 94 ∷ t → ⊥
unmarked s e t f = true_false (ap (begins 94) (sym f) ∙ e)

-- the end, or an anchor
abbrev pub Stopped : List ℕ → Type 0
Stopped z = (z ≡ []) ⊎ (((r : List ℕ) × (94 ∷ r ≡ z)) ⊎ ((r : List ℕ) × (36 ∷ r ≡ z)))

-- ---- the word is what the grammar derives
abbrev pub Told : List ℕ → Word → Type 0
Told z (item a r) = (s : List ℕ) × AtomText s a × (s ++ r ≡ z)
Told z (repeats m r) = byte_of m ∷ r ≡ z
Told z (opening r) = 40 ∷ r ≡ z
Told z (bars r) = 124 ∷ r ≡ z
Told z (closing r) = 41 ∷ r ≡ z
Told z stops = Stopped z
Told z none = Fault z

cut_begins : (s : List ℕ) → begins 94 (take (width_of s) s) ≡ begins 94 s
cut_begins [] = refl
cut_begins (b ∷ s) = go (eqb b 93) (eqb b 92)
  where
    go : (x y : Bool) → begins 94 (take (width_by x y (λ e. width_from e s)) (b ∷ s)) ≡ eqb b 94
    go true y = refl
    go false true = refl
    go false false = refl

told_out : (s : List ℕ) → is_set s ≡ true → Told (91 ∷ (94 ∷ s)) (set_by true true s)
told_out s h =
    let c = cut_alone s h in
    let a : AtomText (91 ∷ (94 ∷ take (width_of s) s)) (set true (spans_of (take (width_of s) s))) = complement_text (take (width_of s) s) c.0 c.2 refl in
    (91 ∷ (94 ∷ take (width_of s) s), rw c.1 at a, ap (λ (l : List ℕ). 91 ∷ (94 ∷ l)) (take-append-drop (width_of s) s))

told_in : (s : List ℕ) → is_set s ≡ true → begins 94 s ≡ false → Told (91 ∷ s) (set_by true false s)
told_in s h e =
    let c = cut_alone s h in
    let a : AtomText (91 ∷ take (width_of s) s) (set false (spans_of (take (width_of s) s))) = set_text (take (width_of s) s) c.0 c.2 (cut_begins s ∙ e) refl in
    (91 ∷ take (width_of s) s, rw c.1 at a, ap (λ (l : List ℕ). 91 ∷ l) (take-append-drop (width_of s) s))

told_set_by : (out : Bool) (r s : List ℕ) (x : Bool) → is_set s ≡ x → Behind r s → (is_set s ≡ true → Told (91 ∷ r) (set_by true out s)) → Told (91 ∷ r) (set_by x out s)
told_set_by out r s true e b k = k e
told_set_by out r s false e b k = set_fault r s b e

told_or_not : (b : ℕ) (s : List ℕ) (x : Bool) → eqb b 94 ≡ x → Told (91 ∷ (b ∷ s)) (set_or_not x b s)
told_or_not b s true e = rw (eqb-true b 94 e) (told_set_by true (94 ∷ s) s (is_set s) refl (inl refl) (λ h. told_out s h))
told_or_not b s false e = told_set_by false (b ∷ s) (b ∷ s) (is_set (b ∷ s)) refl (inr (refl, unmarked (b ∷ s) e)) (λ h. told_in (b ∷ s) h e)

told_set : (s : List ℕ) → Told (91 ∷ s) (set_of s)
told_set [] = set_fault [] [] (inr (refl, unmarked [] refl)) refl
told_set (b ∷ s) = told_or_not b s (eqb b 94) refl

told_escaped : (s : List ℕ) → Told (92 ∷ s) (escaped_of s)
told_escaped [] = backslash_last
told_escaped (b ∷ s) = (92 ∷ (b ∷ []), escaped_text b refl, refl)

told_by : (x : ℕ) (r : List ℕ) (a b c d e f g h i j k : Bool) → eqb x 92 ≡ a → eqb x 91 ≡ b → eqb x 40 ≡ c → eqb x 41 ≡ d → eqb x 124 ≡ e → eqb x 42 ≡ f → eqb x 43 ≡ g → eqb x 63 ≡ h → eqb x 46 ≡ i → eqb x 94 ≡ j → eqb x 36 ≡ k →
    Told (x ∷ r) (word_by a b c d e f g h i j k x r)
told_by x r true b c d e f g h i j k p1 p2 p3 p4 p5 p6 p7 p8 p9 p10 p11 = rw (eqb-true x 92 p1) (told_escaped r)
told_by x r false true c d e f g h i j k p1 p2 p3 p4 p5 p6 p7 p8 p9 p10 p11 = rw (eqb-true x 91 p2) (told_set r)
told_by x r false false true d e f g h i j k p1 p2 p3 p4 p5 p6 p7 p8 p9 p10 p11 = rw (eqb-true x 40 p3)
told_by x r false false false true e f g h i j k p1 p2 p3 p4 p5 p6 p7 p8 p9 p10 p11 = rw (eqb-true x 41 p4)
told_by x r false false false false true f g h i j k p1 p2 p3 p4 p5 p6 p7 p8 p9 p10 p11 = rw (eqb-true x 124 p5)
told_by x r false false false false false true g h i j k p1 p2 p3 p4 p5 p6 p7 p8 p9 p10 p11 = rw (eqb-true x 42 p6)
told_by x r false false false false false false true h i j k p1 p2 p3 p4 p5 p6 p7 p8 p9 p10 p11 = rw (eqb-true x 43 p7)
told_by x r false false false false false false false true i j k p1 p2 p3 p4 p5 p6 p7 p8 p9 p10 p11 = rw (eqb-true x 63 p8)
told_by x r false false false false false false false false true j k p1 p2 p3 p4 p5 p6 p7 p8 p9 p10 p11 = rw (eqb-true x 46 p9) (46 ∷ [], any_text refl, refl)
told_by x r false false false false false false false false false true k p1 p2 p3 p4 p5 p6 p7 p8 p9 p10 p11 = rw (eqb-true x 94 p10) (inr (inl (r, refl)))
told_by x r false false false false false false false false false false true p1 p2 p3 p4 p5 p6 p7 p8 p9 p10 p11 = rw (eqb-true x 36 p11) (inr (inr (r, refl)))
told_by x r false false false false false false false false false false false p1 p2 p3 p4 p5 p6 p7 p8 p9 p10 p11 =
    (x ∷ [], plain_text x (rw (p1, p2, p3, p4, p5, p6, p7, p8, p9, p10, p11)) refl, refl)

pub told : (z : List ℕ) → Told z (word_of z)
told [] = inl refl
told (x ∷ r) = told_by x r (eqb x 92) (eqb x 91) (eqb x 40) (eqb x 41) (eqb x 124) (eqb x 42) (eqb x 43) (eqb x 63) (eqb x 46) (eqb x 94) (eqb x 36) refl refl refl refl refl refl refl refl refl refl refl
