-- The marks by index and by the kinds, and the pass that puts them in the place of the kinds. Assumes nothing.
use Prim.Native.Nat.{ℕ, zero, suc, ◌+◌, ◌-◌, ◌≤◌, ◌<◌}
use native.Mathlib.Omega.{arith}
use native.Mathlib.Numerals.{add-one}
use mathlib.Core.Path.{◌≡◌, refl, sym, ap, ◌∙◌}
use mathlib.Core.Bool.{Bool, true, false, cond, not, ◌&&◌, ◌||◌, or_assoc, or-false}
use mathlib.Core.List.{List, [], ◌∷◌, ◌++◌, append-nil}
use lib.Dec.{eqb, leb}
use lib.ListN.{length, get_or, drop, set, length-set, drop_of_length-le}
use lib.Seq.{sets, sets-eq, set-get_or, get_or-drop, drop-set-lt, drop-drop, drop-cons}
use borrow.Author.Tests.{eqb-true, ne_eqb, le-leb, lt-leb}
use Rattle.common.specs.Each.{Each}
use Rattle.octets.specs.Octets.{same_of}
use Rattle.lexer.specs.Kind.{naming, opening}
use Rattle.lexer.specs.Token.{Token, kind_of, name_at, escaped_at}
use Rattle.grammar.specs.Parse.{token_at, kind_at, is}
use Rattle.std.specs.Prelude.{Option, None, Some, unwrap_or}
use Rattle.grammar.specs.Function.{Function, op_if_any, changes, tests, matches, among, or_else, op_of_name, function_of}
use Rattle.grammar.specs.Judge.{takes_patterns}
use Rattle.grammar.specs.Nesting.{open_after, row_after, deep_from, too_deep}
use Rattle.grammar.specs.Stream.{token_of, tokens_in}
use Rattle.grammar.specs.Marks.{calling, mark_at, marks_from, marks_of, is_operand}
use Rattle.grammar.proofs.Marks.{length_marks}
use Rattle.grammar.proofs.Streams.{within, length_tokens, token_in, kind_in, function_is}
use Rattle.operands.specs.Patterns.{asks_patterns}

-- ---- the marks of operands

pub an_operand : (m : ℕ) → 1 ≤ m → m ≤ 5 → is_operand m ≡ true
an_operand m a b = rw (le-leb 1 m a, le-leb m 5 b)

pub no_operand : (m : ℕ) → 5 < m → is_operand m ≡ false
no_operand m h = go (leb 1 m) (lt-leb m 5 h)
  where
    go : (a : Bool) {b : Bool} → b ≡ false → (a && b) ≡ false
    go true e = e
    go false e = refl

-- ---- a mark by the kinds

module _ (ks : List Token) (i : ℕ) where
  pub mark_called : kind_at ks i ≡ naming → kind_at ks (i + 1) ≡ opening → mark_at ks i ≡ 128 + function_of (token_at ks i)
  mark_called a b = rw (a, b)

  pub mark_plain : (kind_at ks i ≡ naming → kind_at ks (i + 1) ≡ opening → ⊥) → mark_at ks i ≡ kind_at ks i
  mark_plain c = go (is ks i naming) (is ks (i + 1) opening) refl refl
    where
      go : (a b : Bool) → is ks i naming ≡ a → is ks (i + 1) opening ≡ b → cond (a && b) (128 + function_of (token_at ks i)) (kind_at ks i) ≡ kind_at ks i
      go true true ea eb = absurd (c (eqb-true _ _ ea) (eqb-true _ _ eb))
      go true false ea eb = refl
      go false b ea eb = refl

  pub mark_kind : {k : ℕ} → kind_at ks i ≡ k → (k ≡ 5 → ⊥) → mark_at ks i ≡ k
  mark_kind e ne = mark_plain (λ a _. ne (sym e ∙ a)) ∙ e

  -- a mark is the kind, or of a call
  pub data Marked : Type 0 where
    plainly : mark_at ks i ≡ kind_at ks i → Marked
    by_call : kind_at ks i ≡ naming → mark_at ks i ≡ 128 + function_of (token_at ks i) → Marked

  pub marked : Marked
  marked = go (is ks i naming) (is ks (i + 1) opening) refl refl
    where
      go : (a b : Bool) → is ks i naming ≡ a → is ks (i + 1) opening ≡ b → Marked
      go true true ea eb = by_call (eqb-true _ _ ea) (mark_called (eqb-true _ _ ea) (eqb-true _ _ eb))
      go true false ea eb = plainly (rw eb (rw ea))
      go false b ea eb = plainly (rw ea)

-- ---- the mark of a token by the arrays

among_small : (fs : List Function) (s : List ℕ) (escaped : Bool) → Each (λ f. f.op ≤ 61) fs → among fs s escaped ≤ 61
among_small [] s escaped h = omega arith
among_small (f ∷ fs) s escaped h = go (not escaped && same_of s f.word) (among_small fs s escaped h.1)
  where
    go : (b : Bool) → among fs s escaped ≤ 61 → cond b f.op (among fs s escaped) ≤ 61
    go true r = h.0
    go false r = r

else_small : (a b : ℕ) → a ≤ 61 → b ≤ 61 → or_else a b ≤ 61
else_small a b p q = go (eqb a 0)
  where
    go : (t : Bool) → cond t b a ≤ 61
    go true = q
    go false = p

pub op_small : (s : List ℕ) (escaped : Bool) → op_of_name s escaped ≤ 61
op_small s e =
    else_small (among changes s e) _ (among_small changes s e (omega arith, (omega arith, tt)))
    (else_small (among tests s e) _ (among_small tests s e (omega arith, (omega arith, (omega arith, (omega arith, (omega arith, (omega arith, (omega arith, tt))))))))
    (among_small matches s e (omega arith, (omega arith, (omega arith, (omega arith, (omega arith, (omega arith, tt))))))))

module _ (s kinds starts : List ℕ) (i : ℕ) (h : i < length kinds) where
  abbrev those : List Token
  those = tokens_in s kinds starts

  here : kind_at those i ≡ get_or kinds i 0
  here = kind_in s kinds starts i ∙ within kinds i 99 0 h

  pub mark_other : (get_or kinds i 0 ≡ 5 → ⊥) → get_or kinds i 0 ≡ mark_at those i
  mark_other c = sym (mark_plain those i (λ a _. c (sym here ∙ a)) ∙ here)

  pub mark_alone : {n : ℕ} → n ≡ get_or kinds (i + 1) 99 → (n ≡ 9 → ⊥) → get_or kinds i 0 ≡ mark_at those i
  mark_alone en c = sym (mark_plain those i (λ _ b. c (en ∙ sym (kind_in s kinds starts (i + 1)) ∙ b)) ∙ here)

  pub mark_call : {n p f : ℕ} → get_or kinds i 0 ≡ 5 → n ≡ get_or kinds (i + 1) 99 → n ≡ 9 → p ≡ get_or starts i 0 → f ≡ op_of_name (name_at s p) (escaped_at s p) → 128 + f ≡ mark_at those i
  mark_call k en e ep ef =
      ap (λ (x : ℕ). 128 + x) (function_is s kinds starts i (within kinds i 99 0 h ∙ k) ep ef)
      ∙ sym (mark_called those i (here ∙ k) (kind_in s kinds starts (i + 1) ∙ sym en ∙ e))

-- a function's op, of which 0 is none
pub op_told : (op : ℕ) {o : Option ℕ} {f : ℕ} → o ≡ op_if_any op → f ≡ unwrap_or o 0 → f ≡ op
op_told zero e d = rw e at d
op_told (suc n) e d = rw e at d

pub op_none : (op : ℕ) → None ≡ op_if_any op → 0 ≡ op
op_none zero e = refl
op_none (suc n) e = cc

pub op_some : (op f : ℕ) → Some f ≡ op_if_any op → f ≡ op
op_some zero f e = cc
op_some (suc n) f e = cc

-- ---- the pass, in place

-- what is read has not been changed yet
module _ (s starts was now : List ℕ) (i : ℕ) (rest : drop i now ≡ drop i was) where
  same : (k : ℕ) → get_or now (i + k) 99 ≡ get_or was (i + k) 99
  same k = sym (get_or-drop i now k 99) ∙ ap (λ (l : List ℕ). get_or l k 99) rest ∙ get_or-drop i was k 99

  mark_same : i < length now → i < length was → mark_at (tokens_in s now starts) i ≡ mark_at (tokens_in s was starts) i
  mark_same h g =
      let z : i + 0 ≡ i = omega arith in
      let kind : get_or now i 99 ≡ get_or was i 99 = rw z at (same 0) in
      let token : token_at (tokens_in s now starts) i ≡ token_at (tokens_in s was starts) i =
      token_in s now starts i h ∙ ap (λ (k : ℕ). token_of s k (get_or starts i 0)) kind ∙ sym (token_in s was starts i g) in
      let after : kind_at (tokens_in s now starts) (i + 1) ≡ kind_at (tokens_in s was starts) (i + 1) =
      kind_in s now starts (i + 1) ∙ same 1 ∙ sym (kind_in s was starts (i + 1)) in
      by token after
    where
      by : {x y : Token} {a b : ℕ} → x ≡ y → a ≡ b
          → cond (eqb (kind_of x) naming && eqb a opening) (calling + function_of x) (kind_of x) ≡ cond (eqb (kind_of y) naming && eqb b opening) (calling + function_of y) (kind_of y)
      by e f = rw (e, f)

abbrev left : List ℕ → List ℕ → List ℕ → ℕ → List ℕ
left s starts was i = marks_from (tokens_in s was starts) i (length was - i)

pub record Marking (s starts was now : List ℕ) (asks : Bool) (i : ℕ) : Type 0 where
  pub in_it : i ≤ length was
  pub long : length now ≡ length was
  pub rest : drop i now ≡ drop i was
  pub stored : sets now i (left s starts was i) ≡ marks_of (tokens_in s was starts)
  pub asked : (asks || asks_patterns (left s starts was i)) ≡ asks_patterns (marks_of (tokens_in s was starts))

pub marking_starts : (s starts was : List ℕ) → Marking s starts was was false 0
marking_starts s starts was =
    let ks = tokens_in s was starts in
    let z : length was - 0 ≡ length ks = rw (length_tokens s was starts) (omega arith) in
    let n : length (marks_of ks) ≡ length was = length_marks ks ∙ length_tokens s was starts in
    let all : drop (0 + length (marks_of ks)) was ≡ [] = drop_of_length-le was {i = 0 + length (marks_of ks)} (omega arith) in
    record {
      in_it = omega arith;
      long = refl;
      rest = refl;
      stored = rw z (sets-eq (marks_of ks) was 0 (omega arith) ∙ ap (λ (l : List ℕ). marks_of ks ++ l) all ∙ append-nil (marks_of ks));
      asked = rw z;
    }

module _ {s starts was now : List ℕ} {asks : Bool} {i : ℕ} (g : Marking s starts was now asks i) where
  next_is : i < length was → left s starts was i ≡ mark_at (tokens_in s was starts) i ∷ left s starts was (i + 1)
  unfolding marks_from
  next_is h = let e : length was - i ≡ suc (length was - (i + 1)) = omega arith in rw e

  pub marking_on : {m f : ℕ} {a : Bool} → i < length now → m ≡ mark_at (tokens_in s now starts) i → f ≡ m - 128 → a ≡ takes_patterns f
      → Marking s starts was (set now i m) (asks || a) (i + 1)
  unfolding asks_patterns
  marking_on {m} {f} {a} h e ef ea =
      let l = g.long in
      let in-was : i < length was = omega arith in
      let same-mark : m ≡ mark_at (tokens_in s was starts) i = e ∙ mark_same s starts was now i g.rest h in-was in
      let test : a ≡ takes_patterns (mark_at (tokens_in s was starts) i - calling) = ea ∙ ap takes_patterns (ef ∙ ap (λ (x : ℕ). x - 128) same-mark) in
      record {
        in_it = omega arith;
        long = length-set now i m ∙ l;
        rest = drop-set-lt (i + 1) now i m (omega arith) ∙ sym (drop-drop 1 i now) ∙ ap (drop 1) g.rest ∙ drop-drop 1 i was;
        stored =
            ap (λ (x : ℕ). sets (set now i x) (i + 1) (left s starts was (i + 1))) same-mark
            ∙ ap (λ (x : ℕ). sets (set now i (mark_at (tokens_in s was starts) i)) x (left s starts was (i + 1))) (add-one i)
            ∙ ap (sets now i) (sym (next_is in-was))
            ∙ g.stored;
        asked =
            ap (λ (x : Bool). (asks || x) || asks_patterns (left s starts was (i + 1))) test
            ∙ or_assoc asks _ _
            ∙ ap (λ (x : List ℕ). asks || asks_patterns x) (sym (next_is in-was))
            ∙ g.asked;
      }

  -- a mark below those of calls is the kind that stands there
  pub marking_past : {m : ℕ} → i < length now → m ≡ mark_at (tokens_in s now starts) i → m < 128 → Marking s starts was now asks (i + 1)
  marking_past {m} h e l =
      let k : get_or now i 0 ≡ m = go (marked (tokens_in s now starts) i) in
      let z : m - 128 ≡ 0 = omega arith in
      let kept : set now i m ≡ now = ap (set now i) (sym k) ∙ set-get_or now i 0 in
      let none : (asks || takes_patterns (m - 128)) ≡ asks = ap (λ (x : ℕ). asks || takes_patterns x) z ∙ or-false asks in
      rw (kept, none) at (marking_on h e refl refl)
    where
      go : Marked (tokens_in s now starts) i → get_or now i 0 ≡ m
      go (plainly q) = sym (within now i 99 0 h) ∙ sym (kind_in s now starts i) ∙ sym q ∙ sym e
      go (by_call _ q) = absurd (omega (arith, e, q))

  nothing_left : length now ≤ i → left s starts was i ≡ []
  unfolding marks_from
  nothing_left h = let l = g.long in let e : length was - i ≡ 0 = omega arith in rw e

  pub marking_ends : length now ≤ i → now ≡ marks_of (tokens_in s was starts)
  marking_ends h = rw (nothing_left h) at g.stored

  pub asking_ends : length now ≤ i → asks ≡ asks_patterns (marks_of (tokens_in s was starts))
  unfolding asks_patterns
  asking_ends h = sym (or-false asks) ∙ (rw (nothing_left h) at g.asked)

-- ---- refusal 6 by the marks

alike_open : (ks : List Token) (i opened : ℕ) → open_after (mark_at ks i) opened ≡ open_after (kind_at ks i) opened
alike_open ks i opened = go (marked ks i)
  where
    go : Marked ks i → open_after (mark_at ks i) opened ≡ open_after (kind_at ks i) opened
    go (plainly e) = ap (λ (m : ℕ). open_after m opened) e
    go (by_call k e) = ap (λ (m : ℕ). open_after m opened) e ∙ none (function_of (token_at ks i)) ∙ sym (ap (λ (m : ℕ). open_after m opened) k)
      where
        none : (f : ℕ) → open_after (128 + f) opened ≡ opened
        none f = rw (ne_eqb (128 + f) 9 (λ q. omega arith), ne_eqb (128 + f) 10 (λ q. omega arith))

alike_row : (ks : List Token) (i row : ℕ) → row_after (mark_at ks i) row ≡ row_after (kind_at ks i) row
alike_row ks i row = go (marked ks i)
  where
    go : Marked ks i → row_after (mark_at ks i) row ≡ row_after (kind_at ks i) row
    go (plainly e) = ap (λ (m : ℕ). row_after m row) e
    go (by_call k e) = ap (λ (m : ℕ). row_after m row) e ∙ none (function_of (token_at ks i)) ∙ sym (ap (λ (m : ℕ). row_after m row) k)
      where
        none : (f : ℕ) → row_after (128 + f) row ≡ 0
        none f = rw (ne_eqb (128 + f) 40 (λ q. omega arith), ne_eqb (128 + f) 8 (λ q. omega arith))

deep_from_lem : (s kinds starts : List ℕ) (n i opened row : ℕ) → i + n ≡ length kinds
    → deep_from opened row (marks_from (tokens_in s kinds starts) i n) ≡ deep_from opened row (drop i kinds)
unfolding marks_from deep_from
deep_from_lem s kinds starts zero i opened row h = rw (drop_of_length-le kinds {i = i} (omega arith))
deep_from_lem s kinds starts (suc n) i opened row h =
    let ks = tokens_in s kinds starts in
    let k = kind_in s kinds starts i in
    let o : open_after (mark_at ks i) opened ≡ open_after (get_or kinds i 99) opened = alike_open ks i opened ∙ ap (λ (x : ℕ). open_after x opened) k in
    let r : row_after (mark_at ks i) row ≡ row_after (get_or kinds i 99) row = alike_row ks i row ∙ ap (λ (x : ℕ). row_after x row) k in
    rw (drop-cons kinds i 99 (omega arith), o, r, deep_from_lem s kinds starts n (i + 1) (open_after (get_or kinds i 99) opened) (row_after (get_or kinds i 99) row) (omega arith), add-one i)

pub deep_marks : (s kinds starts : List ℕ) → too_deep (marks_of (tokens_in s kinds starts)) ≡ too_deep kinds
unfolding too_deep
deep_marks s kinds starts = deep_from_lem s kinds starts (length (tokens_in s kinds starts)) 0 0 0 (omega (arith, length_tokens s kinds starts))
