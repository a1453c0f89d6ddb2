-- The leaves of a tree are the operands among its tokens. Assumes nothing.
use Prim.Native.Nat.{ℕ, suc, ◌+◌, ◌-◌, ◌≤◌, ◌<◌}
use native.Mathlib.Omega.{arith}
use mathlib.Core.Path.{◌≡◌, refl, sym, ap, ◌∙◌}
use mathlib.Core.Bool.{Bool, true, false, ◌&&◌, ◌||◌}
use mathlib.Core.List.{List, ◌∷◌, ◌++◌, append_assoc, append-nil}
use lib.Dec.{eqb, leb}
use lib.ListN.{length}
use borrow.Author.Tests.{leb-true, lt-leb, eqb-true, ne_eqb}
use native.Mathlib.Decide.{dec_lt}
use mathlib.Core.Logic.{◌⊎◌, inl, inr, ⊎_elim}
use Rattle.common.proofs.Choice.{false_true}
use Rattle.lexer.specs.Kind.{naming, opening}
use Rattle.lexer.specs.Token.{Token}
use Rattle.grammar.specs.Tree.{Tree, leaf, Trees, ◌then◌}
use Rattle.grammar.specs.Grammar.{rank, is_prefix, is_literal}
use Rattle.grammar.specs.Parse.{ok, token_at, kind_at, parse_all}
use Rattle.grammar.specs.Function.{function_of}
use Rattle.grammar.specs.Marks.{mark_at, is_operand, operands_from, operands_in}
use Rattle.grammar.specs.Code.{leaves_of, leaves_in}
use Rattle.grammar.proofs.Sound.{at_kind, at_rank_lem, at_prefix, at_literal}
use Rattle.operands.proofs.Marks.{an_operand, no_operand, mark_called, mark_plain, mark_kind}
use Rattle.operands.proofs.Parts.{Parts, by_parts}

-- ---- kinds

pub literal_kind : (k : ℕ) → is_literal k ≡ true → (1 ≤ k) × (k ≤ 4)
literal_kind k e = go (leb 1 k) (leb k 4) refl refl e
  where
    go : (a b : Bool) → leb 1 k ≡ a → leb k 4 ≡ b → (a && b) ≡ true → (1 ≤ k) × (k ≤ 4)
    go true true ea eb h = (leb-true 1 k ea, leb-true k 4 eb)
    go true false ea eb h = false_true h
    go false b ea eb h = false_true h

pub prefix_kind : (k : ℕ) → is_prefix k ≡ true → (k ≡ 40) ⊎ (k ≡ 8)
prefix_kind k e = go (eqb k 40) (eqb k 8) refl refl e
  where
    go : (a b : Bool) → eqb k 40 ≡ a → eqb k 8 ≡ b → (a || b) ≡ true → (k ≡ 40) ⊎ (k ≡ 8)
    go true b ea eb h = inl (eqb-true k 40 ea)
    go false true ea eb h = inr (eqb-true k 8 eb)
    go false false ea eb h = false_true h

rank_none : (k : ℕ) → k < 16 → rank k ≡ 11
unfolding rank
rank_none k h =
    rw (
      ne_eqb k 43 (λ e. omega arith),
      ne_eqb k 42 (λ e. omega arith),
      ne_eqb k 41 (λ e. omega arith),
      lt-leb 32 k (omega arith),
      lt-leb 34 k (omega arith),
      lt-leb 25 k (omega arith),
      lt-leb 22 k (omega arith),
      ne_eqb k 21 (λ e. omega arith),
      ne_eqb k 20 (λ e. omega arith),
      ne_eqb k 19 (λ e. omega arith),
      lt-leb 16 k (omega arith),
    )

pub rank_kind : (k : ℕ) → rank k < 11 → 15 < k
rank_kind k h = go (dec_lt 15 k)
  where
    go : Dec (15 < k) → 15 < k
    go (yes l) = l
    go (no l) = absurd (omega (arith, rank_none k (omega arith)))

-- ---- the operands from a token on

module _ (ks : List Token) where
  rest : ℕ → List Token
  rest i = operands_from ks i (length ks - i)

  found : (i : ℕ) → i < length ks → is_operand (mark_at ks i) ≡ true → rest i ≡ token_at ks i ∷ rest (i + 1)
  unfolding rest operands_from
  found i h e = let n : length ks - i ≡ suc (length ks - (i + 1)) = omega arith in rw (n, e)

  passed : (i : ℕ) → i < length ks → is_operand (mark_at ks i) ≡ false → rest i ≡ rest (i + 1)
  unfolding rest operands_from
  passed i h e = let n : length ks - i ≡ suc (length ks - (i + 1)) = omega arith in rw (n, e)

  -- a token of a kind that is none of an operand's
  silent : (i : ℕ) {k : ℕ} → i < length ks → kind_at ks i ≡ k → 5 < k → rest i ≡ rest (i + 1)
  silent i {k} h e lt = passed i h (no_operand (mark_at ks i) (rw (mark_kind ks i e (λ q. omega arith)) lt))

  silent_prefix : (i : ℕ) → is_prefix (kind_at ks i) ≡ true → rest i ≡ rest (i + 1)
  silent_prefix i e = silent i (at_prefix ks i e) refl (⊎_elim (λ q. omega arith) (λ q. omega arith) (prefix_kind (kind_at ks i) e))

  silent_rank : (i : ℕ) → rank (kind_at ks i) < 11 → rest i ≡ rest (i + 1)
  silent_rank i h = silent i (at_rank_lem ks i (rank (kind_at ks i)) refl h) refl (omega (arith, rank_kind (kind_at ks i) h))

  -- ---- the tree

  Has : ℕ → Tree → ℕ → Type 0
  Has i t j = rest i ≡ leaves_of t ++ rest j

  HasIn : ℕ → Trees → ℕ → Type 0
  HasIn s ts i = rest s ≡ leaves_in ts ++ rest i

  has_leaf : (i : ℕ) → i < length ks → (kind_at ks i ≡ naming → kind_at ks (i + 1) ≡ opening → ⊥) → 1 ≤ kind_at ks i → kind_at ks i ≤ 5 → Has i (leaf (token_at ks i)) (i + 1)
  unfolding Has leaves_of
  has_leaf i h c a b = found i h (ap is_operand (mark_plain ks i c) ∙ an_operand (kind_at ks i) a b)

  has_more : (s i j : ℕ) (ts : Trees) (t : Tree) → HasIn s ts i → Has i t j → rest j ≡ rest (j + 1) → HasIn s (◌then◌ ts t) (j + 1)
  unfolding Has HasIn leaves_of
  has_more s i j ts t p q e =
      p ∙ ap (λ (l : List Token). leaves_in ts ++ l) (q ∙ ap (λ (l : List Token). leaves_of t ++ l) e) ∙ sym (append_assoc (leaves_in ts) (leaves_of t) (rest (j + 1)))

  parts : Parts ks Has HasIn
  unfolding Has HasIn leaves_of
  parts =
      record {
        a_literal = λ i e. let k = literal_kind (kind_at ks i) e in has_leaf i (at_literal ks i e) (λ n _. omega arith) k.0 (omega arith);
        a_name = λ i e c. has_leaf i (at_kind ks i 5 e (omega arith)) (λ _ o. c o) (omega arith) (omega arith);
        a_group = λ i j t a q b. silent i (at_kind ks i 9 a (omega arith)) a (omega arith) ∙ q ∙ ap (λ (l : List Token). leaves_of t ++ l) (silent j (at_kind ks j 10 b (omega arith)) b (omega arith));
        applied = λ i j t e q. silent_prefix i e ∙ q;
        operator = λ s i j t u h p q. p ∙ ap (λ (l : List Token). leaves_of t ++ l) (silent_rank i h ∙ q) ∙ sym (append_assoc (leaves_of t) (leaves_of u) (rest j));
        no_arguments = λ i a b. let two : i + 1 + 1 ≡ i + 2 = omega arith in passed i (at_kind ks i 5 a (omega arith)) (ap is_operand (mark_called ks i a b) ∙ no_operand (128 + function_of (token_at ks i)) (omega arith)) ∙ silent (i + 1) (at_kind ks (i + 1) 9 b (omega arith)) b (omega arith) ∙ ap rest two;
        next = λ s i j ts t p q e. has_more s i j ts t p q (silent j (at_kind ks j 11 e (omega arith)) e (omega arith));
        a_call_none = λ i a p e. let three : i + 2 + 1 ≡ i + 3 = omega arith in p ∙ silent (i + 2) (at_kind ks (i + 2) 10 e (omega arith)) e (omega arith) ∙ ap rest three;
        a_call = λ s i j ts t p q e. has_more s i j ts t p q (silent j (at_kind ks j 10 e (omega arith)) e (omega arith));
      }

  pub parsed_leaves : (t : Tree) → parse_all ks ≡ ok t (length ks) → leaves_of t ≡ operands_in ks
  unfolding rest Has operands_from
  parsed_leaves t e =
      let a : length ks - 0 ≡ length ks = omega arith in
      let z : length ks - length ks ≡ 0 = omega arith in
      let p : operands_from ks 0 (length ks - 0) ≡ leaves_of t ++ operands_from ks (length ks) (length ks - length ks) = by_parts parts e in
      sym (rw (a, z, append-nil) at p)
