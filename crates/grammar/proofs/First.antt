-- The token that the parser names is the first that cannot go on: no input with the same tokens up to it is derived. Assumes nothing.
use Prim.Native.Nat.{ℕ, zero, suc, ◌+◌, ◌<◌, ◌≤◌}
use native.Mathlib.Omega.{arith}
use mathlib.Core.Path.{◌≡◌, refl, ◌∙◌}
use mathlib.Core.Bool.{Bool, true, false}
use mathlib.Core.List.{List}
use lib.ListN.{length}
use lib.Dec.{eqb}
use borrow.Author.Tests.{ne_eqb}
use Rattle.common.specs.Choice.{pick}
use Rattle.lexer.specs.Kind.{naming, opening, closing, comma}
use Rattle.lexer.specs.Token.{Token, kind_of}
use Rattle.grammar.specs.Tree.{Tree, leaf, group, unary, binary, call, Trees, none, ◌then◌}
use Rattle.grammar.specs.Parse.{Result, ok, bad, and_then, token_at, kind_at, is, level, more, prefix, operand, arguments, level_of, fuel, parse_all}
use Rattle.grammar.specs.Grammar.{rank, is_prefix, is_literal, Level}
use Rattle.grammar.proofs.Fuel.{same_level}
use Rattle.grammar.proofs.Complete.{complete}

-- the last token that a result was made from
abbrev reach : Result → ℕ
reach (ok t j) = j
reach (bad p) = p

module _ (ks ls : List Token) where
  abbrev Alike : ℕ → Type 0
  Alike n = (j : ℕ) → j ≤ n → token_at ks j ≡ token_at ls j

  -- two results that reach i at least, and are one on tokens alike up to the first one's reach
  abbrev Local : ℕ → Result → Result → Type 0
  Local i x u = (i ≤ reach x) × (Alike (reach x) → x ≡ u)

  made : (i : ℕ) (x : Result) → i ≤ reach x → Local i x x
  made i x h = (h, λ _. refl)

  later : (i j : ℕ) (x u : Result) → i ≤ j → Local j x u → Local i x u
  later i j x u h l = (omega (arith, l.0), l.1)

  by : (i : ℕ) (b : Bool) (x y u v : Unit {0} → Result) → Local i (x tt) (u tt) → Local i (y tt) (v tt) → Local i (pick b x y) (pick b u v)
  by i true x y u v f g = f
  by i false x y u v f g = g

  -- by a test of the token i
  test : (i : ℕ) (b : Token → Bool) (x y u v : Token → Result) → Local i (x (token_at ks i)) (u (token_at ks i)) → Local i (y (token_at ks i)) (v (token_at ks i))
      → Local i (pick (b (token_at ks i)) (λ _. x (token_at ks i)) (λ _. y (token_at ks i))) (pick (b (token_at ls i)) (λ _. u (token_at ls i)) (λ _. v (token_at ls i)))
  test i b x y u v f g =
      let h = by i (b (token_at ks i)) (λ _. x (token_at ks i)) (λ _. y (token_at ks i)) (λ _. u (token_at ks i)) (λ _. v (token_at ks i)) f g in
      (h.0, λ a. rw (← (a i h.0)) (h.1 a))

  run : (i : ℕ) (x u : Result) (k m : Tree → ℕ → Result) → Local i x u → ((t : Tree) (j : ℕ) → Local j (k t j) (m t j)) → Local i (and_then x k) (and_then u m)
  run i (ok t j) u k m l f = let q = f t j in (omega (arith, l.0, q.0), λ a. rw (← (l.1 (λ n le. a n (omega (arith, q.0))))) (q.1 a))
  run i (bad p) u k m l f = (l.0, λ a. rw (← (l.1 a)))

  mutual
    unfolding level

    near_level : (f i l : ℕ) → Local i (level f ks i l) (level f ls i l)
    near_level zero i l = made i _ (omega arith)
    near_level (suc f) i l = by i (eqb l 11) _ _ _ _ (near_prefix f i) (run i (level f ks i (l + 1)) _ _ _ (near_level f i (l + 1)) (λ t j. near_more f j l t))

    near_more : (f i l : ℕ) (t : Tree) → Local i (more f ks i l t) (more f ls i l t)
    near_more zero i l t = made i _ (omega arith)
    near_more (suc f) i l t =
        test i (λ x. eqb (rank (kind_of x)) l)
        (λ x. and_then (level f ks (i + 1) (l + 1)) (λ u j. more f ks j l (binary (kind_of x) t u))) (λ x. ok t i)
        (λ x. and_then (level f ls (i + 1) (l + 1)) (λ u j. more f ls j l (binary (kind_of x) t u))) (λ x. ok t i)
        (run i (level f ks (i + 1) (l + 1)) _ _ _ (later i (i + 1) _ _ (omega arith) (near_level f (i + 1) (l + 1))) (λ u j. near_more f j l (binary (kind_at ks i) t u)))
        (made i _ (omega arith))

    near_prefix : (f i : ℕ) → Local i (prefix f ks i) (prefix f ls i)
    near_prefix zero i = made i _ (omega arith)
    near_prefix (suc f) i =
        test i (λ x. is_prefix (kind_of x))
        (λ x. and_then (prefix f ks (i + 1)) (λ t j. ok (unary (kind_of x) t) j)) (λ x. operand f ks i)
        (λ x. and_then (prefix f ls (i + 1)) (λ t j. ok (unary (kind_of x) t) j)) (λ x. operand f ls i)
        (run i (prefix f ks (i + 1)) _ _ _ (later i (i + 1) _ _ (omega arith) (near_prefix f (i + 1))) (λ t j. made j _ (omega arith)))
        (near_operand f i)

    near_operand : (f i : ℕ) → Local i (operand f ks i) (operand f ls i)
    near_operand zero i = made i _ (omega arith)
    near_operand (suc f) i =
        test i (λ x. is_literal (kind_of x))
        (λ x. ok (leaf x) (i + 1)) (λ x. after ks x)
        (λ x. ok (leaf x) (i + 1)) (λ x. after ls x)
        (made i _ (omega arith))
        (by i (eqb (kind_at ks i) naming) (λ _. named ks (token_at ks i)) (λ _. other ks (token_at ks i)) (λ _. named ls (token_at ks i)) (λ _. other ls (token_at ks i))
        (later i (i + 1) _ _ (omega arith)
        (test (i + 1) (λ y. eqb (kind_of y) opening)
        (λ y. inner ks (token_at ks i)) (λ y. ok (leaf (token_at ks i)) (i + 1))
        (λ y. inner ls (token_at ks i)) (λ y. ok (leaf (token_at ks i)) (i + 1))
        (later (i + 1) (i + 2) _ _ (omega arith)
        (test (i + 2) (λ y. eqb (kind_of y) closing)
        (λ y. ok (call (token_at ks i) none) (i + 3)) (λ y. arguments f ks (i + 2) (token_at ks i) none)
        (λ y. ok (call (token_at ks i) none) (i + 3)) (λ y. arguments f ls (i + 2) (token_at ks i) none)
        (made (i + 2) _ (omega arith)) (near_arguments f (i + 2) (token_at ks i) none)))
        (made (i + 1) _ (omega arith))))
        (by i (eqb (kind_at ks i) opening) (λ _. grouped ks) (λ _. bad i) (λ _. grouped ls) (λ _. bad i)
        (run i (level f ks (i + 1) 0) _ _ _ (later i (i + 1) _ _ (omega arith) (near_level f (i + 1) 0))
        (λ t j. test j (λ y. eqb (kind_of y) closing) (λ y. ok (group t) (j + 1)) (λ y. bad j) (λ y. ok (group t) (j + 1)) (λ y. bad j) (made j _ (omega arith)) (made j _ (omega arith))))
        (made i _ (omega arith))))
      where
        inner : List Token → Token → Result
        inner ts x = pick (is ts (i + 2) closing) (λ _. ok (call x none) (i + 3)) (λ _. arguments f ts (i + 2) x none)

        named : List Token → Token → Result
        named ts x = pick (is ts (i + 1) opening) (λ _. inner ts x) (λ _. ok (leaf x) (i + 1))

        grouped : List Token → Result
        grouped ts = and_then (level f ts (i + 1) 0) (λ t j. pick (is ts j closing) (λ _. ok (group t) (j + 1)) (λ _. bad j))

        other : List Token → Token → Result
        other ts x = pick (eqb (kind_of x) opening) (λ _. grouped ts) (λ _. bad i)

        after : List Token → Token → Result
        after ts x = pick (eqb (kind_of x) naming) (λ _. named ts x) (λ _. other ts x)

    near_arguments : (f i : ℕ) (x : Token) (ts : Trees) → Local i (arguments f ks i x ts) (arguments f ls i x ts)
    near_arguments zero i x ts = made i _ (omega arith)
    near_arguments (suc f) i x ts =
        run i (level f ks i 0) _ _ _ (near_level f i 0)
        (λ t j. test j (λ y. eqb (kind_of y) comma)
        (λ y. arguments f ks (j + 1) x (◌then◌ ts t)) (λ y. pick (eqb (kind_of y) closing) (λ _. ok (call x (◌then◌ ts t)) (j + 1)) (λ _. bad j))
        (λ y. arguments f ls (j + 1) x (◌then◌ ts t)) (λ y. pick (eqb (kind_of y) closing) (λ _. ok (call x (◌then◌ ts t)) (j + 1)) (λ _. bad j))
        (later j (j + 1) _ _ (omega arith) (near_arguments f (j + 1) x (◌then◌ ts t)))
        (by j (eqb (kind_at ks j) closing) (λ _. ok (call x (◌then◌ ts t)) (j + 1)) (λ _. bad j) (λ _. ok (call x (◌then◌ ts t)) (j + 1)) (λ _. bad j) (made j _ (omega arith)) (made j _ (omega arith))))

  -- the level's result at 0, on tokens alike up to its reach
  near : Alike (reach (level_of ks 0 0)) → level_of ks 0 0 ≡ level_of ls 0 0
  unfolding level_of
  near a =
      let up = same_level (fuel ks) (fuel ks + fuel ls) ks 0 0 (omega arith) (omega arith) (omega arith) in
      let down = same_level (fuel ks + fuel ls) (fuel ls) ls 0 0 (omega arith) (omega arith) (omega arith) in
      up ∙ (near_level (fuel ks + fuel ls) 0 0).1 (rw up at a) ∙ down

  left_over : (b : Bool) (u : Tree) (j p : ℕ) → pick b (λ _. ok u j) (λ _. bad j) ≡ bad p → j ≡ p
  left_over true u j p e = let z : ◌≡◌ {A = ℕ} 0 1 = cc in absurd (omega arith)
  left_over false u j p e = cc

  also_bad : (p : ℕ) → parse_all ks ≡ bad p → Alike p → p < length ls → parse_all ls ≡ bad p
  unfolding parse_all
  also_bad p e a lt = go (level_of ks 0 0) refl e
    where
      go : (x : Result) → level_of ks 0 0 ≡ x → and_then x (λ t j. pick (eqb j (length ks)) (λ _. ok t j) (λ _. bad j)) ≡ bad p → and_then (level_of ls 0 0) (λ t j. pick (eqb j (length ls)) (λ _. ok t j) (λ _. bad j)) ≡ bad p
      go (ok u j) q r = let at = left_over (eqb j (length ks)) u j p r in rw (← (near (rw (q, at) a)), q, at, ne_eqb p (length ls) (omega arith))
      go (bad n) q r = let at : n ≡ p = cc in rw (← (near (rw (q, at) a)), q, at)

  -- Where the parser names the token p, no input with the same tokens up to p, and p among them, is derived.
  pub first_bad : (p : ℕ) → parse_all ks ≡ bad p → Alike p → p < length ls → (t : Tree) → Level 0 ls t → ⊥
  first_bad p e a lt t d = let x = also_bad p e a lt in let y = complete ls t d in let z : ◌≡◌ {A = ℕ} 0 1 = cc in omega arith
