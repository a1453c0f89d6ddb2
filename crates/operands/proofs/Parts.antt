-- What holds of each part that the parser makes of its own parts holds of the whole. Assumes nothing.
use Prim.Native.Nat.{ℕ, zero, suc, ◌+◌, ◌≤◌, ◌<◌}
use native.Mathlib.Omega.{arith}
use mathlib.Core.Path.{◌≡◌, subst}
use mathlib.Core.Bool.{true}
use mathlib.Core.List.{List}
use lib.Dec.{eqb}
use lib.ListN.{length}
use borrow.Author.Tests.{eqb-true, eqb-false}
use Rattle.lexer.specs.Kind.{naming, opening, closing, comma}
use Rattle.lexer.specs.Token.{Token}
use Rattle.grammar.specs.Tree.{Tree, leaf, group, unary, binary, call, Trees, none, ◌then◌}
use Rattle.grammar.specs.Grammar.{rank, is_prefix, is_literal}
use Rattle.grammar.specs.Parse.{ok, token_at, kind_at, is, level, more, prefix, operand, arguments, level_of, parse_all, fuel}
use Rattle.grammar.proofs.Sound.{Holds, then_holds, pick_holds}

-- Q of a tree from the token i up to the token j; P of the arguments so far, of the call whose name is the token s, up to the token where the next one begins
pub record Parts (ks : List Token) (Q : ℕ → Tree → ℕ → Type 0) (P : ℕ → Trees → ℕ → Type 0) : Type 0 where
  pub a_literal : (i : ℕ) → is_literal (kind_at ks i) ≡ true → Q i (leaf (token_at ks i)) (i + 1)
  pub a_name : (i : ℕ) → kind_at ks i ≡ naming → (kind_at ks (i + 1) ≡ opening → ⊥) → Q i (leaf (token_at ks i)) (i + 1)
  pub a_group : (i j : ℕ) (t : Tree) → kind_at ks i ≡ opening → Q (i + 1) t j → kind_at ks j ≡ closing → Q i (group t) (j + 1)
  pub applied : (i j : ℕ) (t : Tree) → is_prefix (kind_at ks i) ≡ true → Q (i + 1) t j → Q i (unary (kind_at ks i) t) j
  pub operator : (s i j : ℕ) (t u : Tree) → rank (kind_at ks i) < 11 → Q s t i → Q (i + 1) u j → Q s (binary (kind_at ks i) t u) j
  pub no_arguments : (i : ℕ) → kind_at ks i ≡ naming → kind_at ks (i + 1) ≡ opening → P i none (i + 2)
  pub next : (s i j : ℕ) (ts : Trees) (t : Tree) → P s ts i → Q i t j → kind_at ks j ≡ comma → P s (◌then◌ ts t) (j + 1)
  pub a_call_none : (i : ℕ) → kind_at ks i ≡ naming → P i none (i + 2) → kind_at ks (i + 2) ≡ closing → Q i (call (token_at ks i) none) (i + 3)
  pub a_call : (s i j : ℕ) (ts : Trees) (t : Tree) → P s ts i → Q i t j → kind_at ks j ≡ closing → Q s (call (token_at ks s) (◌then◌ ts t)) (j + 1)

module _ {ks : List Token} {Q : ℕ → Tree → ℕ → Type 0} {P : ℕ → Trees → ℕ → Type 0} (by : Parts ks Q P) where
  mutual
    unfolding level

    by_level : (f i l : ℕ) → l ≤ 11 → Holds (Q i) (level f ks i l)
    by_level zero i l le = tt
    by_level (suc f) i l le =
        pick_holds (Q i) (eqb l 11) _ _ (λ e. by_prefix f i)
        (λ e. let ne = eqb-false l 11 e in then_holds (Q i) (Q i) (level f ks i (l + 1)) _ (by_level f i (l + 1) (omega arith)) (λ t j q. by_more f i j l t (omega arith) q))

    by_more : (f s i l : ℕ) (t : Tree) → l < 11 → Q s t i → Holds (Q s) (more f ks i l t)
    by_more zero s i l t lt q = tt
    by_more (suc f) s i l t lt q =
        pick_holds (Q s) (eqb (rank (kind_at ks i)) l) _ _
        (λ e. let r = eqb-true (rank (kind_at ks i)) l e in
        then_holds (Q (i + 1)) (Q s) (level f ks (i + 1) (l + 1)) _ (by_level f (i + 1) (l + 1) (omega arith)) (λ u j p. by_more f s j l (binary (kind_at ks i) t u) lt (by.operator s i j t u (omega arith) q p)))
        (λ e. q)

    by_prefix : (f i : ℕ) → Holds (Q i) (prefix f ks i)
    by_prefix zero i = tt
    by_prefix (suc f) i =
        pick_holds (Q i) (is_prefix (kind_at ks i)) _ _
        (λ e. then_holds (Q (i + 1)) (Q i) (prefix f ks (i + 1)) _ (by_prefix f (i + 1)) (λ t j q. by.applied i j t e q))
        (λ e. by_operand f i)

    by_operand : (f i : ℕ) → Holds (Q i) (operand f ks i)
    by_operand zero i = tt
    by_operand (suc f) i =
        pick_holds (Q i) (is_literal (kind_at ks i)) _ _ (λ e. by.a_literal i e)
        (λ _. pick_holds (Q i) (is ks i naming) _ _
        (λ e. pick_holds (Q i) (is ks (i + 1) opening) _ _
        (λ e1. let p = by.no_arguments i (eqb-true _ _ e) (eqb-true _ _ e1) in
        pick_holds (Q i) (is ks (i + 2) closing) _ _ (λ e2. by.a_call_none i (eqb-true _ _ e) p (eqb-true _ _ e2)) (λ _. by_arguments f i (i + 2) none p))
        (λ e1. by.a_name i (eqb-true _ _ e) (eqb-false _ _ e1)))
        (λ _. pick_holds (Q i) (is ks i opening) _ _
        (λ e. then_holds (Q (i + 1)) (Q i) (level f ks (i + 1) 0) _ (by_level f (i + 1) 0 (omega arith))
        (λ t j q. pick_holds (Q i) (is ks j closing) _ _ (λ e3. by.a_group i j t (eqb-true _ _ e) q (eqb-true _ _ e3)) (λ _. tt)))
        (λ _. tt)))

    by_arguments : (f s i : ℕ) (ts : Trees) → P s ts i → Holds (Q s) (arguments f ks i (token_at ks s) ts)
    by_arguments zero s i ts p = tt
    by_arguments (suc f) s i ts p =
        then_holds (Q i) (Q s) (level f ks i 0) _ (by_level f i 0 (omega arith))
        (λ t j q. pick_holds (Q s) (is ks j comma) _ _ (λ e. by_arguments f s (j + 1) (◌then◌ ts t) (by.next s i j ts t p q (eqb-true _ _ e)))
        (λ _. pick_holds (Q s) (is ks j closing) _ _ (λ e. by.a_call s i j ts t p q (eqb-true _ _ e)) (λ _. tt)))

  -- the whole
  pub by_parts : {t : Tree} {n : ℕ} → parse_all ks ≡ ok t n → Q 0 t n
  unfolding parse_all level_of
  by_parts e =
      subst (Holds (Q 0)) e
      (then_holds (Q 0) (Q 0) (level (fuel ks) ks 0 0) _ (by_level (fuel ks) 0 0 (omega arith)) (λ t j q. pick_holds (Q 0) (eqb j (length ks)) _ _ (λ _. q) (λ _. tt)))
