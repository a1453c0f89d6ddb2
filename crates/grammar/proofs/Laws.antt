-- The steps of the parser, as equations with no test in them. Assumes nothing.
use Prim.Native.Nat.{ℕ, ◌+◌, ◌<◌, ◌≤◌}
use native.Mathlib.Omega.{arith}
use mathlib.Core.Path.{◌≡◌, ◌∙◌}
use mathlib.Core.Bool.{Bool, true, false, cond}
use mathlib.Core.List.{List}
use borrow.Author.Tests.{eq-eqb, ne_eqb}
use Rattle.common.specs.Choice.{pick}
use Rattle.lexer.specs.Kind.{naming, opening, closing, comma}
use Rattle.lexer.specs.Token.{Token}
use Rattle.grammar.specs.Tree.{Tree, leaf, group, unary, binary, call, Trees, none, ◌then◌}
use Rattle.grammar.specs.Grammar.{rank, is_prefix, is_literal}
use Rattle.grammar.specs.Parse.{ok, bad, and_then, token_at, kind_at, is, level_of, more_of, prefix_of, operand_of, arguments_of}
use Rattle.grammar.proofs.Fuel.{level_is, more_is, prefix_is, operand_is, arguments_is}

module _ (ks : List Token) (i : ℕ) where
  pub level_prefix : level_of ks i 11 ≡ prefix_of ks i
  level_prefix = level_is ks i 11 (omega arith)

  pub level_then : (l : ℕ) → l < 11 → level_of ks i l ≡ and_then (level_of ks i (l + 1)) (λ t j. more_of ks j l t)
  level_then l lt = level_is ks i l (omega arith) ∙ rw (ne_eqb l 11 (omega arith))

  pub more_then : (l : ℕ) (t : Tree) → l < 11 → rank (kind_at ks i) ≡ l → more_of ks i l t ≡ and_then (level_of ks (i + 1) (l + 1)) (λ u j. more_of ks j l (binary (kind_at ks i) t u))
  more_then l t lt k = more_is ks i l t lt ∙ rw (eq-eqb (rank (kind_at ks i)) l k)

  pub more_stop : (l : ℕ) (t : Tree) → l < 11 → (rank (kind_at ks i) ≡ l → ⊥) → more_of ks i l t ≡ ok t i
  more_stop l t lt ne = more_is ks i l t lt ∙ rw (ne_eqb (rank (kind_at ks i)) l ne)

  pub prefix_applied : is_prefix (kind_at ks i) ≡ true → prefix_of ks i ≡ and_then (prefix_of ks (i + 1)) (λ t j. ok (unary (kind_at ks i) t) j)
  prefix_applied k = prefix_is ks i ∙ rw k

  pub prefix_plain : is_prefix (kind_at ks i) ≡ false → prefix_of ks i ≡ operand_of ks i
  prefix_plain k = prefix_is ks i ∙ rw k

  pub operand_literal : is_literal (kind_at ks i) ≡ true → operand_of ks i ≡ ok (leaf (token_at ks i)) (i + 1)
  operand_literal k = operand_is ks i ∙ rw k

  pub operand_name : kind_at ks i ≡ naming → (kind_at ks (i + 1) ≡ opening → ⊥) → operand_of ks i ≡ ok (leaf (token_at ks i)) (i + 1)
  operand_name k ne = operand_is ks i ∙ rw (k, ne_eqb (kind_at ks (i + 1)) opening ne)

  pub operand_call_none : kind_at ks i ≡ naming → kind_at ks (i + 1) ≡ opening → kind_at ks (i + 2) ≡ closing → operand_of ks i ≡ ok (call (token_at ks i) none) (i + 3)
  operand_call_none k k1 k2 = operand_is ks i ∙ rw (k, k1, k2)

  pub operand_call : kind_at ks i ≡ naming → kind_at ks (i + 1) ≡ opening → (kind_at ks (i + 2) ≡ closing → ⊥) → operand_of ks i ≡ arguments_of ks (i + 2) (token_at ks i) none
  operand_call k k1 ne = operand_is ks i ∙ rw (k, k1, ne_eqb (kind_at ks (i + 2)) closing ne)

  pub operand_other : is_literal (kind_at ks i) ≡ false → (kind_at ks i ≡ naming → ⊥) → (kind_at ks i ≡ opening → ⊥) → operand_of ks i ≡ bad i
  operand_other n0 n1 n2 = operand_is ks i ∙ rw (n0, ne_eqb (kind_at ks i) naming n1, ne_eqb (kind_at ks i) opening n2)

  pub operand_group : kind_at ks i ≡ opening → operand_of ks i ≡ and_then (level_of ks (i + 1) 0) (λ t j. pick (is ks j closing) (λ _. ok (group t) (j + 1)) (λ _. bad j))
  operand_group k = operand_is ks i ∙ rw k

  module _ (x : Token) (ts : Trees) where
    pub args_comma : (t : Tree) (j : ℕ) → level_of ks i 0 ≡ ok t j → kind_at ks j ≡ comma → arguments_of ks i x ts ≡ arguments_of ks (j + 1) x (◌then◌ ts t)
    args_comma t j p k = arguments_is ks i x ts ∙ rw (p, k)

    pub args_close : (t : Tree) (j : ℕ) → level_of ks i 0 ≡ ok t j → kind_at ks j ≡ closing → arguments_of ks i x ts ≡ ok (call x (◌then◌ ts t)) (j + 1)
    args_close t j p k = arguments_is ks i x ts ∙ rw (p, k)

    pub args_other : (t : Tree) (j : ℕ) → level_of ks i 0 ≡ ok t j → (kind_at ks j ≡ comma → ⊥) → (kind_at ks j ≡ closing → ⊥) → arguments_of ks i x ts ≡ bad j
    args_other t j p n4 n3 = arguments_is ks i x ts ∙ rw (p, ne_eqb (kind_at ks j) comma n4, ne_eqb (kind_at ks j) closing n3)

    pub args_bad : (p : ℕ) → level_of ks i 0 ≡ bad p → arguments_of ks i x ts ≡ bad p
    args_bad p e = arguments_is ks i x ts ∙ rw e

pub operator_entries : (b : Bool) → (1 ≤ cond b 2 1) × (cond b 2 1 ≤ 2)
operator_entries true = omega arith
operator_entries false = omega arith
