-- Refusal 18 by one pass over the tokens is what the tree says. Assumes nothing.
use Prim.Native.Nat.{ℕ, suc, ◌+◌, ◌-◌, ◌*◌, ◌/◌, ◌%◌, ◌≤◌, ◌<◌}
use native.Mathlib.Omega.{arith}
use native.Mathlib.Numerals.{add-one}
use native.Mathlib.Decide.{ℕ_discrete}
use mathlib.Core.Path.{◌≡◌, refl, sym, ap, ◌∙◌}
use mathlib.Core.Logic.{◌⊎◌, inl, inr, ⊎_elim}
use mathlib.Core.Bool.{Bool, true, false, cond, ◌&&◌, and-true, and_assoc}
use mathlib.Core.List.{List}
use lib.Dec.{eqb}
use lib.ListN.{length, get_or}
use borrow.Author.Tests.{ne_eqb, lt-ltb}
use Rattle.lexer.specs.Kind.{naming, opening, closing, comma}
use Rattle.lexer.specs.Token.{Token, name, int32, int64, real, text, symbol, kind_of, string_at}
use Rattle.grammar.specs.Tree.{Tree, leaf, group, unary, binary, call, Trees, none, ◌then◌}
use Rattle.grammar.specs.Grammar.{rank, is_prefix}
use Rattle.grammar.specs.Parse.{ok, token_at, kind_at, parse_all}
use Rattle.grammar.specs.Function.{function_of}
use Rattle.grammar.specs.Size.{count_of}
use Rattle.grammar.specs.Judge.{pattern_test, literal_right, argument_right, later_right, patterns_right, patterns_in}
use Rattle.grammar.specs.Stream.{tokens_in}
use Rattle.grammar.specs.Marks.{mark_at, marks_of}
use Rattle.grammar.proofs.Sound.{at_kind, at_rank_lem, at_prefix, at_literal}
use Rattle.grammar.proofs.Streams.{kind_in, token_at_lem}
use Rattle.operands.specs.Patterns.{mark_before, digit_of, function_by, opens_after, right_at, patterns_from, patterns_by}
use Rattle.grammar.proofs.Marks.{length_marks, mark_at_lem}
use Rattle.operands.proofs.Marks.{mark_called, mark_plain, mark_kind, Marked, plainly, by_call, marked}
use Rattle.operands.proofs.Passes.{digit_small, digit_test}
use Rattle.operands.proofs.Leaves.{literal_kind, prefix_kind, rank_kind}
use Rattle.operands.proofs.Parts.{Parts, by_parts}

-- ---- one token: what it opens, and whether it is to be a pattern

opens_same : (m before opens : ℕ) → (m ≡ 9 → ⊥) → (m ≡ 10 → ⊥) → opens_after m before opens ≡ opens
opens_same m before opens a b = rw (ne_eqb m 9 a, ne_eqb m 10 b)

-- a parenthesis that is closed was opened
opens_back : (opens d : ℕ) → d < 4 → (4 * opens + d) / 4 ≡ opens
opens_back opens d h = omega arith

opens_top : (opens d : ℕ) → d < 4 → (4 * opens + d) % 4 ≡ d
opens_top opens d h = omega arith

module _ (s ms starts : List ℕ) (opens i : ℕ) where
  right_no_text : (get_or ms i 99 ≡ 4 → ⊥) → right_at s ms starts opens i ≡ true
  right_no_text c = rw (ne_eqb (get_or ms i 99) 4 c)

  right_no_comma : (mark_before ms i ≡ 11 → ⊥) → right_at s ms starts opens i ≡ true
  right_no_comma c = rw (ne_eqb (mark_before ms i) 11 c) (go (eqb (get_or ms i 99) 4) (pattern_test (function_by (opens % 4)) (string_at s (get_or starts i 0))))
    where
      go : (b p : Bool) → cond (b && false) p true ≡ true
      go true p = refl
      go false p = refl

  right_no_end : (get_or ms (i + 1) 99 ≡ 11 → ⊥) → (get_or ms (i + 1) 99 ≡ 10 → ⊥) → right_at s ms starts opens i ≡ true
  right_no_end c d = rw (ne_eqb (get_or ms (i + 1) 99) 11 c, ne_eqb (get_or ms (i + 1) 99) 10 d) (go (eqb (get_or ms i 99) 4) (eqb (mark_before ms i) 11) (pattern_test (function_by (opens % 4)) (string_at s (get_or starts i 0))))
    where
      go : (a b p : Bool) → cond (a && (b && false)) p true ≡ true
      go true true p = refl
      go true false p = refl
      go false b p = refl

  right_later : get_or ms i 99 ≡ 4 → mark_before ms i ≡ 11 → (get_or ms (i + 1) 99 ≡ 11) ⊎ (get_or ms (i + 1) 99 ≡ 10) → right_at s ms starts opens i ≡ pattern_test (function_by (opens % 4)) (string_at s (get_or starts i 0))
  right_later a b (inl e) = rw (a, b, e)
  right_later a b (inr e) = rw (a, b, e)

-- ---- the shape of a tree: one token, or more, which are no argument that is a literal

data Shape (ks : List Token) (i : ℕ) (t : Tree) (j : ℕ) : Type 0 where
  alone : t ≡ leaf (token_at ks i) → j ≡ i + 1 → Shape ks i t j
  longer : ((f : ℕ) → argument_right f t ≡ true) → (kind_at ks i ≡ 4 → rank (kind_at ks (i + 1)) < 11) → Shape ks i t j

shape_operator : (ks : List Token) (s i j k : ℕ) (t u : Tree) → rank (kind_at ks i) < 11 → Shape ks s t i → Shape ks s (binary k t u) j
shape_operator ks s i j k t u h (alone e q) = longer (λ f. refl) (λ _. rw (← q) h)
shape_operator ks s i j k t u h (longer a b) = longer (λ f. refl) b

-- a token of another kind than a string's is no pattern
literal_other : (f : ℕ) (x : Token) → (kind_of x ≡ 4 → ⊥) → literal_right f x ≡ true
literal_other f (name b e) c = refl
literal_other f (int32 z) c = refl
literal_other f (int64 z) c = refl
literal_other f (real x) c = refl
literal_other f (text p) c = absurd (c refl)
literal_other f (symbol k) c = refl

-- ---- the pass from a token on

module _ (s kinds starts : List ℕ) where
  abbrev ks : List Token
  ks = tokens_in s kinds starts

  abbrev ms : List ℕ
  ms = marks_of (tokens_in s kinds starts)

  rest : ℕ → ℕ → Bool
  rest opens i = patterns_from s ms starts opens i (length ms - i)

  step : (opens i : ℕ) → i < length ks → rest opens i ≡ (right_at s ms starts opens i && rest (opens_after (get_or ms i 99) (mark_before ms i) opens) (i + 1))
  unfolding rest patterns_from
  step opens i h = let l = length_marks ks in let e : length ms - i ≡ suc (length ms - (i + 1)) = omega arith in rw e

  before_is : (i : ℕ) → mark_before ms (i + 1) ≡ mark_at ks i
  before_is i = ap (mark_before ms) (add-one i) ∙ mark_at_lem ks i

  other : (opens i : ℕ) → (kind_at ks i ≡ 4 → ⊥) → right_at s ms starts opens i ≡ true
  other opens i c = right_no_text s ms starts opens i (λ q. c (go (sym (mark_at_lem ks i) ∙ q) (marked ks i)))
    where
      go : mark_at ks i ≡ 4 → Marked ks i → kind_at ks i ≡ 4
      go q (plainly e) = sym e ∙ q
      go q (by_call k e) = absurd (omega arith)

  -- a token that is no parenthesis; one that is no string either; and `)`
  keeps : (opens i : ℕ) {m : ℕ} → i < length ks → mark_at ks i ≡ m → (m ≡ 9 → ⊥) → (m ≡ 10 → ⊥) → rest opens i ≡ (right_at s ms starts opens i && rest opens (i + 1))
  keeps opens i h e a b = step opens i h ∙ ap (λ (o : ℕ). right_at s ms starts opens i && rest o (i + 1)) (opens_same (get_or ms i 99) (mark_before ms i) opens (λ q. a (sym e ∙ sym (mark_at_lem ks i) ∙ q)) (λ q. b (sym e ∙ sym (mark_at_lem ks i) ∙ q)))

  no_text : (opens i : ℕ) {m : ℕ} → mark_at ks i ≡ m → (m ≡ 4 → ⊥) → right_at s ms starts opens i ≡ true
  no_text opens i e c = right_no_text s ms starts opens i (λ q. c (sym e ∙ sym (mark_at_lem ks i) ∙ q))

  no_comma : (opens i : ℕ) {m : ℕ} → mark_at ks i ≡ m → (m ≡ 11 → ⊥) → right_at s ms starts opens (i + 1) ≡ true
  no_comma opens i e c = right_no_comma s ms starts opens (i + 1) (λ q. c (sym e ∙ sym (before_is i) ∙ q))

  passes : (opens i : ℕ) {m : ℕ} → i < length ks → mark_at ks i ≡ m → (m ≡ 4 → ⊥) → (m ≡ 9 → ⊥) → (m ≡ 10 → ⊥) → rest opens i ≡ rest opens (i + 1)
  passes opens i h e t a b = keeps opens i h e a b ∙ rw (no_text opens i e t)

  opens_with : (opens i : ℕ) → kind_at ks i ≡ 9 → rest opens i ≡ rest (4 * opens + digit_of (mark_before ms i - 128)) (i + 1)
  opens_with opens i k =
      let m : get_or ms i 99 ≡ 9 = mark_at_lem ks i ∙ mark_kind ks i k (λ q. omega arith) in
      step opens i (at_kind ks i 9 k (omega arith)) ∙ rw (right_no_text s ms starts opens i (λ q. omega (arith, sym m ∙ q)), m)

  closes : (opens d i : ℕ) → d < 4 → kind_at ks i ≡ 10 → rest (4 * opens + d) i ≡ rest opens (i + 1)
  closes opens d i h k =
      let m : get_or ms i 99 ≡ 10 = mark_at_lem ks i ∙ mark_kind ks i k (λ q. omega arith) in
      step (4 * opens + d) i (at_kind ks i 10 k (omega arith)) ∙ rw (right_no_text s ms starts (4 * opens + d) i (λ q. omega (arith, sym m ∙ q)), m) (ap (λ (o : ℕ). rest o (i + 1)) (opens_back opens d h))

  -- ---- the tree

  record Judged (i : ℕ) (t : Tree) (j : ℕ) : Type 0 where
    shape : Shape ks i t j
    is : (opens : ℕ) → rest opens i ≡ (right_at s ms starts opens i && (patterns_right t && rest opens j))

  -- the arguments so far, of the call whose name is the token c, up to the token i, which stands after `(` or a comma
  abbrev inside : ℕ → ℕ → ℕ
  inside c opens = 4 * opens + digit_of (function_of (token_at ks c))

  record Passed (c : ℕ) (ts : Trees) (i : ℕ) : Type 0 where
    named : kind_at ks c ≡ naming
    after : ((mark_before ms i ≡ 9) × (count_of ts ≡ 0)) ⊎ ((mark_before ms i ≡ 11) × (0 < count_of ts))
    is : (opens : ℕ) → rest opens c ≡ (patterns_in (function_of (token_at ks c)) ts && rest (inside c opens) i)

  judged_leaf : (i : ℕ) → i < length ks → (kind_at ks i ≡ naming → kind_at ks (i + 1) ≡ opening → ⊥) → kind_at ks i ≤ 5 → Judged i (leaf (token_at ks i)) (i + 1)
  unfolding patterns_right
  judged_leaf i h c b = record { shape = alone refl refl; is = λ opens. keeps opens i h (mark_plain ks i c) (λ q. omega arith) (λ q. omega arith) }

  -- without the first token's own test
  begun : (opens i : ℕ) {j m : ℕ} {t : Tree} → Judged (i + 1) t j → mark_at ks i ≡ m → (m ≡ 11 → ⊥) → rest opens (i + 1) ≡ (patterns_right t && rest opens j)
  begun opens i {j} {m} {t} q e c = q.is opens ∙ ap (λ (b : Bool). b && (patterns_right t && rest opens j)) (no_comma opens i e c)

  judged_group : (i j : ℕ) (t : Tree) → kind_at ks i ≡ opening → Judged (i + 1) t j → kind_at ks j ≡ closing → Judged i (group t) (j + 1)
  unfolding patterns_right
  judged_group i j t a q b =
      let d = digit_of (mark_before ms i - 128) in
      let m = mark_kind ks i a (λ e. omega arith) in
      record {
        shape = longer (λ f. refl) (λ e. absurd (omega arith));
        is =
            λ opens. opens_with opens i a
            ∙ begun (4 * opens + d) i q m (λ e. omega arith)
            ∙ ap (λ (b : Bool). patterns_right t && b) (closes opens d j (digit_small (mark_before ms i - 128)) b)
            ∙ ap (λ (x : Bool). x && (patterns_right t && rest opens (j + 1))) (sym (no_text opens i m (λ e. omega arith)));
      }

  judged_prefix : (i j : ℕ) (t : Tree) → is_prefix (kind_at ks i) ≡ true → Judged (i + 1) t j → Judged i (unary (kind_at ks i) t) j
  unfolding patterns_right
  judged_prefix i j t e q =
      let k = prefix_kind (kind_at ks i) e in
      let not : (n : ℕ) → (40 ≡ n → ⊥) → (8 ≡ n → ⊥) → kind_at ks i ≡ n → ⊥ = λ n a b z. ⊎_elim (λ x. a (sym x ∙ z)) (λ x. b (sym x ∙ z)) k in
      let m = mark_plain ks i (λ z _. not 5 (λ x. omega arith) (λ x. omega arith) z) in
      record {
        shape = longer (λ f. refl) (λ z. absurd (not 4 (λ x. omega arith) (λ x. omega arith) z));
        is =
            λ opens. keeps opens i (at_prefix ks i e) m (not 9 (λ x. omega arith) (λ x. omega arith)) (not 10 (λ x. omega arith) (λ x. omega arith))
            ∙ ap (λ (b : Bool). right_at s ms starts opens i && b) (begun opens i q m (not 11 (λ x. omega arith) (λ x. omega arith)));
      }

  judged_operator : (c i j : ℕ) (t u : Tree) → rank (kind_at ks i) < 11 → Judged c t i → Judged (i + 1) u j → Judged c (binary (kind_at ks i) t u) j
  unfolding patterns_right
  judged_operator c i j t u h p q =
      let k = rank_kind (kind_at ks i) h in
      let m = mark_plain ks i (λ z _. omega arith) in
      record {
        shape = shape_operator ks c i j (kind_at ks i) t u h p.shape;
        is =
            λ opens. p.is opens
            ∙ ap (λ (b : Bool). right_at s ms starts opens c && (patterns_right t && b))
            (passes opens i (at_rank_lem ks i (rank (kind_at ks i)) refl h) m (λ z. omega arith) (λ z. omega arith) (λ z. omega arith) ∙ begun opens i q m (λ z. omega arith))
            ∙ ap (λ (b : Bool). right_at s ms starts opens c && b) (sym (and_assoc (patterns_right t) (patterns_right u) (rest opens j)));
      }

  passed_none : (i : ℕ) → kind_at ks i ≡ naming → kind_at ks (i + 1) ≡ opening → Passed i none (i + 2)
  unfolding patterns_right count_of
  passed_none i a b =
      let two : i + 1 + 1 ≡ i + 2 = omega arith in
      let m = mark_called ks i a b in
      let f : mark_before ms (i + 1) - 128 ≡ function_of (token_at ks i) = ap (λ (x : ℕ). x - 128) (before_is i ∙ m) ∙ omega arith in
      record {
        named = a;
        after = inl (ap (mark_before ms) (sym two) ∙ before_is (i + 1) ∙ mark_kind ks (i + 1) b (λ e. omega arith), refl);
        is =
            λ opens. passes opens i (at_kind ks i 5 a (omega arith)) m (λ z. omega arith) (λ z. omega arith) (λ z. omega arith)
            ∙ opens_with opens (i + 1) b
            ∙ ap (λ (x : ℕ). rest (4 * opens + digit_of x) (i + 1 + 1)) f
            ∙ ap (rest (inside i opens)) two;
      }

  -- an argument by itself
  later : (c i j opens : ℕ) (ts : Trees) (t : Tree) → Passed c ts i → Judged i t j → (kind_at ks j ≡ comma) ⊎ (kind_at ks j ≡ closing)
      → right_at s ms starts (inside c opens) i ≡ later_right (function_of (token_at ks c)) (count_of ts) t
  later c i j opens ts t p q e = go p.after q.shape
    where
      f : ℕ
      f = function_of (token_at ks c)

      ends : (n : ℕ) → n ≡ i + 1 → j ≡ i + 1 → (get_or ms n 99 ≡ 11) ⊎ (get_or ms n 99 ≡ 10)
      ends n en ej = ⊎_elim (λ x. inl (mark x (λ z. omega arith))) (λ x. inr (mark x (λ z. omega arith))) e
        where
          mark : {k : ℕ} → kind_at ks j ≡ k → (k ≡ 5 → ⊥) → get_or ms n 99 ≡ k
          mark x ne = rw (en ∙ sym ej) (mark_at_lem ks j ∙ mark_kind ks j x ne)

      go : ((mark_before ms i ≡ 9) × (count_of ts ≡ 0)) ⊎ ((mark_before ms i ≡ 11) × (0 < count_of ts)) → Shape ks i t j → right_at s ms starts (inside c opens) i ≡ later_right f (count_of ts) t
      go (inl (b, n)) shape = right_no_comma s ms starts (inside c opens) i (λ z. omega arith) ∙ sym (rw n)
      go (inr (b, n)) (longer a r) = longer-right (ℕ_discrete (kind_at ks i) 4) ∙ sym (rw (lt-ltb 0 (count_of ts) n) (a f))
        where
          longer-right : Dec (kind_at ks i ≡ 4) → right_at s ms starts (inside c opens) i ≡ true
          longer-right (no z) = other (inside c opens) i z
          longer-right (yes z) =
              let k = rank_kind (kind_at ks (i + 1)) (r z) in
              let m = mark_at_lem ks (i + 1) ∙ mark_plain ks (i + 1) (λ x _. omega arith) in
              right_no_end s ms starts (inside c opens) i (λ x. omega (arith, m, x)) (λ x. omega (arith, m, x))
      go (inr (b, n)) (alone et ej) = alone-right (ℕ_discrete (kind_at ks i) 4) ∙ sym (rw (lt-ltb 0 (count_of ts) n, et))
        where
          alone-right : Dec (kind_at ks i ≡ 4) → right_at s ms starts (inside c opens) i ≡ literal_right f (token_at ks i)
          alone-right (no z) = other (inside c opens) i z ∙ sym (literal_other f (token_at ks i) z)
          alone-right (yes z) =
              let token = token_at_lem s kinds starts i 4 (sym (kind_in s kinds starts i) ∙ z) (omega arith) in
              right_later s ms starts (inside c opens) i (mark_at_lem ks i ∙ mark_kind ks i z (λ x. omega arith)) b (ends (i + 1) refl ej)
              ∙ ap (λ (d : ℕ). pattern_test (function_by d) (string_at s (get_or starts i 0))) (opens_top opens (digit_of f) (digit_small f))
              ∙ digit_test f (string_at s (get_or starts i 0))
              ∙ sym (ap (literal_right f) token)

  -- one argument more
  more : (c i j opens : ℕ) (ts : Trees) (t : Tree) → Passed c ts i → Judged i t j → (kind_at ks j ≡ comma) ⊎ (kind_at ks j ≡ closing)
      → rest opens c ≡ (patterns_in (function_of (token_at ks c)) (◌then◌ ts t) && rest (inside c opens) j)
  unfolding patterns_right
  more c i j opens ts t p q e =
      let f = function_of (token_at ks c) in
      p.is opens
      ∙ ap (λ (b : Bool). patterns_in f ts && b) (q.is (inside c opens) ∙ ap (λ (b : Bool). b && (patterns_right t && rest (inside c opens) j)) (later c i j opens ts t p q e))
      ∙ turned (patterns_in f ts) (later_right f (count_of ts) t) (patterns_right t) (rest (inside c opens) j)
    where
      turned : (a b c d : Bool) → (a && (b && (c && d))) ≡ ((a && (c && b)) && d)
      turned false b c d = refl
      turned true true true d = refl
      turned true true false d = refl
      turned true false true d = refl
      turned true false false d = refl

  passed_next : (c i j : ℕ) (ts : Trees) (t : Tree) → Passed c ts i → Judged i t j → kind_at ks j ≡ comma → Passed c (◌then◌ ts t) (j + 1)
  unfolding count_of
  passed_next c i j ts t p q e =
      let m = mark_kind ks j e (λ z. omega arith) in
      record {
        named = p.named;
        after = inr (before_is j ∙ m, omega arith);
        is =
            λ opens. more c i j opens ts t p q (inl e)
            ∙ ap (λ (b : Bool). patterns_in (function_of (token_at ks c)) (◌then◌ ts t) && b) (passes (inside c opens) j (at_kind ks j 11 e (omega arith)) m (λ z. omega arith) (λ z. omega arith) (λ z. omega arith));
      }

  -- the call, whose `)` is the token j
  judged_call : (c j : ℕ) (ts : Trees) → kind_at ks c ≡ naming → ((opens : ℕ) → rest opens c ≡ (patterns_in (function_of (token_at ks c)) ts && rest (inside c opens) j)) → kind_at ks j ≡ closing
      → Judged c (call (token_at ks c) ts) (j + 1)
  unfolding patterns_right
  judged_call c j ts n p e =
      let f = function_of (token_at ks c) in
      record {
        shape = longer (λ f. refl) (λ z. absurd (omega arith));
        is =
            λ opens. p opens
            ∙ ap (λ (b : Bool). patterns_in f ts && b) (closes opens (digit_of f) j (digit_small f) e)
            ∙ ap (λ (b : Bool). b && (patterns_in f ts && rest opens (j + 1))) (sym (other opens c (λ z. omega arith)));
      }

  parts : Parts ks Judged Passed
  parts =
      record {
        a_literal = λ i e. let k = literal_kind (kind_at ks i) e in judged_leaf i (at_literal ks i e) (λ n _. omega arith) (omega arith);
        a_name = λ i e c. judged_leaf i (at_kind ks i 5 e (omega arith)) (λ _ o. c o) (omega arith);
        a_group = judged_group;
        applied = judged_prefix;
        operator = judged_operator;
        no_arguments = passed_none;
        next = passed_next;
        a_call_none = λ i a p e. let three : i + 2 + 1 ≡ i + 3 = omega arith in rw (← three) (judged_call i (i + 2) none a p.is e);
        a_call = λ c i j ts t p q e. judged_call c j (◌then◌ ts t) p.named (λ opens. more c i j opens ts t p q (inr e)) e;
      }

  pub parsed_patterns : (t : Tree) → parse_all ks ≡ ok t (length ks) → patterns_right t ≡ patterns_by s ms starts
  unfolding rest patterns_from
  parsed_patterns t e =
      let a : length ms - 0 ≡ length ms = omega arith in
      let z : length ms - length ks ≡ 0 = omega (arith, length_marks ks) in
      let p : patterns_from s ms starts 0 0 (length ms - 0) ≡ (right_at s ms starts 0 0 && (patterns_right t && patterns_from s ms starts 0 (length ks) (length ms - length ks))) = (by_parts parts e).is 0 in
      let q : patterns_from s ms starts 0 0 (length ms) ≡ (right_at s ms starts 0 0 && (patterns_right t && true)) = rw (a, z) at p in
      sym (q ∙ rw (right_no_comma s ms starts 0 0 (λ x. omega arith)) (and-true (patterns_right t)))
