-- More fuel than a call takes changes nothing, so the definition meets its equations with no word of fuel. Assumes nothing.
use Prim.Native.Nat.{ℕ, zero, suc, ◌+◌, ◌-◌, ◌*◌, ◌<◌, ◌≤◌}
use native.Mathlib.Omega.{arith}
use mathlib.Core.Path.{◌≡◌, refl, ap}
use mathlib.Core.Bool.{Bool, true, false}
use mathlib.Core.List.{List}
use lib.ListN.{length}
use lib.Dec.{eqb}
use borrow.Author.Tests.{eqb-true, eqb-false}
use Rattle.common.specs.Choice.{pick}
use Rattle.lexer.specs.Kind.{naming, opening, closing, comma}
use Rattle.lexer.specs.Token.{Token}
use Rattle.grammar.specs.Tree.{Tree, leaf, group, unary, binary, call, Trees, none, ◌then◌}
use Rattle.grammar.specs.Parse.{Result, ok, bad, and_then, token_at, kind_at, is, level, more, prefix, operand, arguments, level_of, more_of, prefix_of, operand_of, arguments_of, fuel}
use Rattle.grammar.specs.Grammar.{rank, is_prefix, is_literal}
use Rattle.grammar.proofs.Sound.{at_kind, at_rank_lem, at_prefix, Tells, sound_level}

then_same : (Q : Tree → ℕ → Type 0) (B : ℕ → Type 0) (x y : Result) (k m : Tree → ℕ → Result) → x ≡ y → Tells Q B x → ((t : Tree) (j : ℕ) → Q t j → k t j ≡ m t j) → and_then x k ≡ and_then y m
then_same Q B (ok t j) y k m e q h = rw (← e) (h t j q)
then_same Q B (bad p) y k m e q h = rw (← e)

pick_same : (b : Bool) (x y u v : Unit {0} → Result) → (b ≡ true → x tt ≡ u tt) → (b ≡ false → y tt ≡ v tt) → pick b x y ≡ pick b u v
pick_same true x y u v f g = f refl
pick_same false x y u v f g = g refl

-- a call takes at most this, and one more
abbrev pub μ : List Token → ℕ → ℕ → ℕ
μ ks i rank = (length ks - i) * 16 + rank

mutual
  unfolding level

  pub same_level : (f g : ℕ) (ks : List Token) (i l : ℕ) → l ≤ 11 → μ ks i (14 - l) < f → μ ks i (14 - l) < g → level f ks i l ≡ level g ks i l
  same_level zero g ks i l le a b = absurd (omega arith)
  same_level (suc f) zero ks i l le a b = absurd (omega arith)
  same_level (suc f) (suc g) ks i l le a b =
      pick_same (eqb l 11) _ _ _ _ (λ e. let q = eqb-true l 11 e in same_prefix f g ks i (omega arith) (omega arith))
      (λ e. let ne = eqb-false l 11 e in
      then_same _ _ (level f ks i (l + 1)) (level g ks i (l + 1)) _ _ (same_level f g ks i (l + 1) (omega arith) (omega arith) (omega arith)) (sound_level f ks i (l + 1) (omega arith))
      (λ t j d. let lt = d.0 in same_more f g ks j l t (omega arith) (omega arith) (omega arith)))

  same_more : (f g : ℕ) (ks : List Token) (i l : ℕ) (t : Tree) → l < 11 → μ ks i 0 < f → μ ks i 0 < g → more f ks i l t ≡ more g ks i l t
  same_more zero g ks i l t lt a b = absurd (omega arith)
  same_more (suc f) zero ks i l t lt a b = absurd (omega arith)
  same_more (suc f) (suc g) ks i l t lt a b =
      pick_same (eqb (rank (kind_at ks i)) l) _ _ _ _
      (λ e. let at = at_rank_lem ks i l (eqb-true _ _ e) lt in
      then_same _ _ (level f ks (i + 1) (l + 1)) (level g ks (i + 1) (l + 1)) _ _ (same_level f g ks (i + 1) (l + 1) (omega arith) (omega arith) (omega arith)) (sound_level f ks (i + 1) (l + 1) (omega arith))
      (λ u j d. let lo = d.0 in same_more f g ks j l (binary (kind_at ks i) t u) lt (omega arith) (omega arith)))
      (λ e. refl)

  same_prefix : (f g : ℕ) (ks : List Token) (i : ℕ) → μ ks i 1 < f → μ ks i 1 < g → prefix f ks i ≡ prefix g ks i
  same_prefix zero g ks i a b = absurd (omega arith)
  same_prefix (suc f) zero ks i a b = absurd (omega arith)
  same_prefix (suc f) (suc g) ks i a b =
      pick_same (is_prefix (kind_at ks i)) _ _ _ _
      (λ e. let at = at_prefix ks i e in
      ap (λ (x : Result). and_then x (λ t j. ok (unary (kind_at ks i) t) j)) (same_prefix f g ks (i + 1) (omega arith) (omega arith)))
      (λ e. same_operand f g ks i (omega arith) (omega arith))

  same_operand : (f g : ℕ) (ks : List Token) (i : ℕ) → μ ks i 0 < f → μ ks i 0 < g → operand f ks i ≡ operand g ks i
  same_operand zero g ks i a b = absurd (omega arith)
  same_operand (suc f) zero ks i a b = absurd (omega arith)
  same_operand (suc f) (suc g) ks i a b =
      pick_same (is_literal (kind_at ks i)) _ _ _ _ (λ _. refl)
      (λ _. pick_same (is ks i naming) _ _ _ _
      (λ _. pick_same (is ks (i + 1) opening) _ _ _ _
      (λ e. let at = at_kind ks (i + 1) opening (eqb-true _ _ e) (omega arith) in
      pick_same (is ks (i + 2) closing) _ _ _ _ (λ _. refl) (λ _. same_arguments f g ks (i + 2) (token_at ks i) none (omega arith) (omega arith)))
      (λ _. refl))
      (λ _. pick_same (is ks i opening) _ _ _ _
      (λ e. let at = at_kind ks i opening (eqb-true _ _ e) (omega arith) in
      ap (λ (x : Result). and_then x (λ t j. pick (is ks j closing) (λ _. ok (group t) (j + 1)) (λ _. bad j))) (same_level f g ks (i + 1) 0 (omega arith) (omega arith) (omega arith)))
      (λ _. refl)))

  same_arguments : (f g : ℕ) (ks : List Token) (i : ℕ) (x : Token) (ts : Trees) → μ ks i 15 < f → μ ks i 15 < g → arguments f ks i x ts ≡ arguments g ks i x ts
  same_arguments zero g ks i x ts a b = absurd (omega arith)
  same_arguments (suc f) zero ks i x ts a b = absurd (omega arith)
  same_arguments (suc f) (suc g) ks i x ts a b =
      then_same _ _ (level f ks i 0) (level g ks i 0) _ _ (same_level f g ks i 0 (omega arith) (omega arith) (omega arith)) (sound_level f ks i 0 (omega arith))
      (λ t j d. let lo = d.0 in pick_same (is ks j comma) _ _ _ _
      (λ e. let at = at_kind ks j comma (eqb-true _ _ e) (omega arith) in same_arguments f g ks (j + 1) x (◌then◌ ts t) (omega arith) (omega arith))
      (λ _. refl))

-- ---- the equations

module _ (ks : List Token) (i : ℕ) where
  pub level_is : (l : ℕ) → l ≤ 11 → level_of ks i l ≡ pick (eqb l 11) (λ _. prefix_of ks i) (λ _. and_then (level_of ks i (l + 1)) (λ t j. more_of ks j l t))
  unfolding level_of more_of prefix_of level
  level_is l le = same_level (fuel ks) (suc (fuel ks)) ks i l le (omega arith) (omega arith)

  pub more_is : (l : ℕ) (t : Tree) → l < 11 → more_of ks i l t ≡ pick (eqb (rank (kind_at ks i)) l) (λ _. and_then (level_of ks (i + 1) (l + 1)) (λ u j. more_of ks j l (binary (kind_at ks i) t u))) (λ _. ok t i)
  unfolding level_of more_of level
  more_is l t lt = same_more (fuel ks) (suc (fuel ks)) ks i l t lt (omega arith) (omega arith)

  pub prefix_is : prefix_of ks i ≡ pick (is_prefix (kind_at ks i)) (λ _. and_then (prefix_of ks (i + 1)) (λ t j. ok (unary (kind_at ks i) t) j)) (λ _. operand_of ks i)
  unfolding prefix_of operand_of level
  prefix_is = same_prefix (fuel ks) (suc (fuel ks)) ks i (omega arith) (omega arith)

  pub operand_is : operand_of ks i ≡ pick (is_literal (kind_at ks i)) (λ _. ok (leaf (token_at ks i)) (i + 1)) (λ _. pick (is ks i naming)
      (λ _. pick (is ks (i + 1) opening) (λ _. pick (is ks (i + 2) closing) (λ _. ok (call (token_at ks i) none) (i + 3)) (λ _. arguments_of ks (i + 2) (token_at ks i) none)) (λ _. ok (leaf (token_at ks i)) (i + 1)))
      (λ _. pick (is ks i opening) (λ _. and_then (level_of ks (i + 1) 0) (λ t j. pick (is ks j closing) (λ _. ok (group t) (j + 1)) (λ _. bad j))) (λ _. bad i)))
  unfolding operand_of level_of arguments_of level
  operand_is = same_operand (fuel ks) (suc (fuel ks)) ks i (omega arith) (omega arith)

  pub arguments_is : (x : Token) (ts : Trees) → arguments_of ks i x ts ≡ and_then (level_of ks i 0) (λ t j. pick (is ks j comma) (λ _. arguments_of ks (j + 1) x (◌then◌ ts t))
      (λ _. pick (is ks j closing) (λ _. ok (call x (◌then◌ ts t)) (j + 1)) (λ _. bad j)))
  unfolding arguments_of level_of level
  arguments_is x ts = same_arguments (fuel ks) (suc (fuel ks)) ks i x ts (omega arith) (omega arith)
