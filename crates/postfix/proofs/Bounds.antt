-- How far a result reaches, and how many entries it has, by the tokens it takes. Assumes nothing.
use Prim.Native.Nat.{ℕ, zero, suc, ◌+◌, ◌-◌, ◌*◌, ◌<◌, ◌≤◌}
use native.Mathlib.Omega.{arith}
use mathlib.Core.Path.{◌≡◌, refl}
use mathlib.Core.Bool.{Bool, true, false}
use mathlib.Core.List.{List}
use lib.ListN.{length}
use lib.Dec.{eqb}
use borrow.Author.Tests.{eqb-true, eqb-false}
use Rattle.common.specs.Choice.{pick}
use Rattle.lexer.specs.Kind.{naming, opening, closing, comma}
use Rattle.lexer.specs.Token.{Token}
use Rattle.grammar.specs.Tree.{Tree, leaf, group, unary, binary, call, Trees, none, ◌then◌}
use Rattle.grammar.specs.Grammar.{rank, is_prefix, is_literal}
use Rattle.grammar.specs.Parse.{Result, ok, bad, and_then, token_at, kind_at, is, level, more, prefix, operand, arguments, level_of, prefix_of, fuel}
use Rattle.grammar.specs.Size.{skips, entries_of, entries_in, count_of}
use Rattle.grammar.proofs.Sound.{at_kind, at_rank_lem, at_prefix, at_literal}
use Rattle.grammar.proofs.Laws.{operator_entries}

-- an expression from the token i up to the token j, or a place among the tokens
pub record Spans (ks : List Token) (i : ℕ) (t : Tree) (j : ℕ) : Type 0 where
  pub lt : i < j
  pub le : j ≤ length ks
  pub entries : entries_of t ≤ 2 * (j - i)

abbrev pub Bounded : List Token → ℕ → Result → Type 0
Bounded ks i (ok t j) = Spans ks i t j
Bounded ks i (bad p) = p ≤ length ks

-- the arguments so far of the call whose name is the token i, up to the token j
pub record Holding (ks : List Token) (i : ℕ) (ts : Trees) (j : ℕ) : Type 0 where
  pub lt : i + 2 ≤ j
  pub le : j ≤ length ks
  pub entries : entries_in ts + 1 ≤ 2 * (j - i)
  pub count : count_of ts ≤ j - i

then_bounded : (ks : List Token) (i s : ℕ) (x : Result) (k : Tree → ℕ → Result) → Bounded ks i x → ((t : Tree) (j : ℕ) → Spans ks i t j → Bounded ks s (k t j)) → Bounded ks s (and_then x k)
then_bounded ks i s (ok t j) k b f = f t j b
then_bounded ks i s (bad p) k b f = b

pick_bounded : (ks : List Token) (i : ℕ) (b : Bool) (x y : Unit {0} → Result) → (b ≡ true → Bounded ks i (x tt)) → (b ≡ false → Bounded ks i (y tt)) → Bounded ks i (pick b x y)
pick_bounded ks i true x y f g = f refl
pick_bounded ks i false x y f g = g refl

module _ (ks : List Token) where
  spans_leaf : (i : ℕ) → i < length ks → Spans ks i (leaf (token_at ks i)) (i + 1)
  unfolding entries_of
  spans_leaf i h = record { lt = omega arith; le = omega arith; entries = omega arith }

  spans_group : (i j : ℕ) (t : Tree) → j < length ks → Spans ks (i + 1) t j → Spans ks i (group t) (j + 1)
  unfolding entries_of
  spans_group i j t h s = record { lt = omega (arith, s.lt); le = omega arith; entries = omega (arith, s.entries, s.lt) }

  spans_unary : (i j k : ℕ) (t : Tree) → Spans ks (i + 1) t j → Spans ks i (unary k t) j
  unfolding entries_of
  spans_unary i j k t s = record { lt = omega (arith, s.lt); le = s.le; entries = omega (arith, s.entries, s.lt) }

  pub spans_binary : (s i j k : ℕ) (t u : Tree) → Spans ks s t i → Spans ks (i + 1) u j → Spans ks s (binary k t u) j
  unfolding entries_of
  spans_binary s i j k t u a b =
      let o = operator_entries (skips k) in
      record { lt = omega (arith, a.lt, b.lt); le = b.le; entries = omega (arith, a.entries, b.entries, a.lt, b.lt, o.1) }

  pub none_held : (i : ℕ) → i + 2 ≤ length ks → Holding ks i none (i + 2)
  unfolding entries_of count_of
  none_held i h = record { lt = omega arith; le = h; entries = omega arith; count = omega arith }

  pub one_held : (i j n : ℕ) (ts : Trees) (t : Tree) → n < length ks → Holding ks i ts j → Spans ks j t n → Holding ks i (◌then◌ ts t) (n + 1)
  unfolding entries_of count_of
  one_held i j n ts t h a s =
      record {
        lt = omega (arith, a.lt, s.lt);
        le = omega arith;
        entries = omega (arith, a.entries, a.lt, s.entries, s.lt);
        count = omega (arith, a.count, a.lt, s.lt);
      }

  spans_call : (i j : ℕ) (x : Token) (ts : Trees) → Holding ks i ts j → Spans ks i (call x ts) j
  unfolding entries_of
  spans_call i j x ts a = record { lt = omega (arith, a.lt); le = a.le; entries = a.entries }

  mutual
    unfolding level

    level_bounded : (f i l : ℕ) → i ≤ length ks → l ≤ 11 → Bounded ks i (level f ks i l)
    level_bounded zero i l h le = h
    level_bounded (suc f) i l h le =
        pick_bounded ks i (eqb l 11) _ _ (λ e. prefix_bounded f i h)
        (λ e. let ne = eqb-false l 11 e in then_bounded ks i i (level f ks i (l + 1)) _ (level_bounded f i (l + 1) h (omega arith)) (λ t j s. more_bounded f i j l t (omega arith) s))

    more_bounded : (f s i l : ℕ) (t : Tree) → l < 11 → Spans ks s t i → Bounded ks s (more f ks i l t)
    more_bounded zero s i l t lt a = a.le
    more_bounded (suc f) s i l t lt a =
        pick_bounded ks s (eqb (rank (kind_at ks i)) l) _ _
        (λ e. let h = at_rank_lem ks i l (eqb-true _ _ e) lt in
        then_bounded ks (i + 1) s (level f ks (i + 1) (l + 1)) _ (level_bounded f (i + 1) (l + 1) (omega arith) (omega arith)) (λ u j b. more_bounded f s j l (binary (kind_at ks i) t u) lt (spans_binary s i j (kind_at ks i) t u a b)))
        (λ e. a)

    prefix_bounded : (f i : ℕ) → i ≤ length ks → Bounded ks i (prefix f ks i)
    prefix_bounded zero i h = h
    prefix_bounded (suc f) i h =
        pick_bounded ks i (is_prefix (kind_at ks i)) _ _
        (λ e. let w = at_prefix ks i e in then_bounded ks (i + 1) i (prefix f ks (i + 1)) _ (prefix_bounded f (i + 1) (omega arith)) (λ t j s. spans_unary i j (kind_at ks i) t s))
        (λ e. operand_bounded f i h)

    operand_bounded : (f i : ℕ) → i ≤ length ks → Bounded ks i (operand f ks i)
    operand_bounded zero i h = h
    operand_bounded (suc f) i h =
        pick_bounded ks i (is_literal (kind_at ks i)) _ _ (λ e. spans_leaf i (at_literal ks i e))
        (λ _. pick_bounded ks i (is ks i naming) _ _
        (λ e. pick_bounded ks i (is ks (i + 1) opening) _ _
        (λ e1. let w1 = at_kind ks (i + 1) opening (eqb-true _ _ e1) (omega arith) in
        pick_bounded ks i (is ks (i + 2) closing) _ _
        (λ e2. let w = at_kind ks (i + 2) closing (eqb-true _ _ e2) (omega arith) in
        spans_call i (i + 3) (token_at ks i) none (let a = none_held i (omega arith) in record { lt = omega arith; le = omega arith; entries = omega (arith, a.entries); count = omega (arith, a.count) }))
        (λ _. arguments_bounded f i (i + 2) (token_at ks i) none (none_held i (omega arith))))
        (λ _. spans_leaf i (at_kind ks i naming (eqb-true _ _ e) (omega arith))))
        (λ _. pick_bounded ks i (is ks i opening) _ _
        (λ e. let w = at_kind ks i opening (eqb-true _ _ e) (omega arith) in
        then_bounded ks (i + 1) i (level f ks (i + 1) 0) _ (level_bounded f (i + 1) 0 (omega arith) (omega arith))
        (λ t j s. pick_bounded ks i (is ks j closing) _ _ (λ e3. spans_group i j t (at_kind ks j closing (eqb-true _ _ e3) (omega arith)) s) (λ _. s.le)))
        (λ _. h)))

    arguments_bounded : (f s i : ℕ) (x : Token) (ts : Trees) → Holding ks s ts i → Bounded ks s (arguments f ks i x ts)
    arguments_bounded zero s i x ts a = a.le
    arguments_bounded (suc f) s i x ts a =
        then_bounded ks i s (level f ks i 0) _ (level_bounded f i 0 a.le (omega arith))
        (λ t j b. pick_bounded ks s (is ks j comma) _ _
        (λ e. arguments_bounded f s (j + 1) x (◌then◌ ts t) (one_held s i j ts t (at_kind ks j comma (eqb-true _ _ e) (omega arith)) a b))
        (λ _. pick_bounded ks s (is ks j closing) _ _
        (λ e. spans_call s (j + 1) x (◌then◌ ts t) (one_held s i j ts t (at_kind ks j closing (eqb-true _ _ e) (omega arith)) a b))
        (λ _. b.le)))

  pub bounded_level : (i l : ℕ) → i ≤ length ks → l ≤ 11 → Bounded ks i (level_of ks i l)
  unfolding level_of
  bounded_level i l h le = level_bounded (fuel ks) i l h le

  pub bounded_prefix : (i : ℕ) → i ≤ length ks → Bounded ks i (prefix_of ks i)
  unfolding prefix_of
  bounded_prefix i h = prefix_bounded (fuel ks) i h
