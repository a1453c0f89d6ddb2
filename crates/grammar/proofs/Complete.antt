-- What the grammar derives the parser accepts, with the same tree. Assumes nothing.
use Prim.Native.Nat.{ℕ, suc, ◌+◌, ◌<◌, ◌≤◌}
use native.Mathlib.Omega.{arith}
use native.Mathlib.Numerals.{add-one}
use mathlib.Core.Path.{◌≡◌, refl, sym, ap, ◌∙◌}
use mathlib.Core.Bool.{true, false}
use mathlib.Core.List.{List, [], ◌∷◌, ◌++◌, append_assoc}
use lib.ListN.{length, get_or-eq_default, length-append}
use lib.Seq.{get_or-append_seam}
use lib.Dec.{leb}
use borrow.Author.Tests.{eq-eqb, ne_eqb, leb-true}
use Rattle.common.proofs.Choice.{false_true}
use Rattle.octets.proofs.Theorems.{and_parts}
use Rattle.lexer.specs.Kind.{naming, opening, closing, comma}
use Rattle.lexer.specs.Token.{Token, kind_of}
use Rattle.grammar.specs.Tree.{Tree, call, Trees, none}
use Rattle.grammar.specs.Grammar.{rank, is_prefix, is_literal, Level, operator, tighter, tightest, Prefix, applied, plain, Operand, a_literal, a_name, a_group, a_call_none, a_call, Arguments, first, next}
use Rattle.grammar.specs.Parse.{ok, ended, token_at, kind_at, level_of, more_of, prefix_of, operand_of, arguments_of, parse_all}
use Rattle.grammar.proofs.Laws.{level_prefix, level_then, more_then, more_stop, prefix_applied, prefix_plain, operand_literal, operand_name, operand_call_none, operand_call, operand_group, args_comma, args_close}

literal_kind : (k : ℕ) → is_literal k ≡ true → (1 ≤ k) × (k ≤ 4)
literal_kind k e = let p = and_parts (leb 1 k) (leb k 4) e in (leb-true 1 k p.0, leb-true k 4 p.1)

-- what is below 8, or between 8 and 40, is no prefix operator
not_prefix : (k : ℕ) → (k ≡ 40 → ⊥) → (k ≡ 8 → ⊥) → is_prefix k ≡ false
not_prefix k a b = rw (ne_eqb k 40 a, ne_eqb k 8 b)

prefix_kind : (k : ℕ) → is_prefix k ≡ true → k ≡ closing → ⊥
prefix_kind k e q = false_true (rw q at e)

-- the tokens xs stand from i up to j
abbrev Run : List Token → ℕ → List Token → ℕ → Type 0
Run ks i [] j = i ≡ j
Run ks i (x ∷ xs) j = (token_at ks i ≡ x) × Run ks (i + 1) xs j

run_split : (ks : List Token) (i j : ℕ) (xs ys : List Token) → Run ks i (xs ++ ys) j → (m : ℕ) × Run ks i xs m × Run ks m ys j
run_split ks i j [] ys r = (i, refl, r)
run_split ks i j (x ∷ xs) ys r = let s = run_split ks (i + 1) j xs ys r.1 in (s.0, (r.0, s.1), s.2)

run_all : (ps xs : List Token) → Run (ps ++ xs) (length ps) xs (length (ps ++ xs))
run_all ps [] = rw length-append (omega arith)
run_all ps (x ∷ xs) = (get_or-append_seam ps x xs ended, rw (append_assoc, length-append ps (x ∷ [])) at (run_all (ps ++ (x ∷ [])) xs))

module _ (ks : List Token) where
  -- the kind of a token that stands at a place
  stands : (i k : ℕ) (x : Token) → token_at ks i ≡ x → kind_of x ≡ k → kind_at ks i ≡ k
  stands i k x e q = ap kind_of e ∙ q

  -- no token of an expression of the level m can stand at j: no operator of a level from m on, no `(`
  abbrev Ends : ℕ → ℕ → Type 0
  Ends j m = (kind_at ks j ≡ opening → ⊥) × ((n : ℕ) → m ≤ n → n < 11 → rank (kind_at ks j) ≡ n → ⊥)

  -- at a token that is no operator, and at an operator of a looser level
  ends_other : (j k m : ℕ) → kind_at ks j ≡ k → (k ≡ opening → ⊥) → rank k ≡ 11 → Ends j m
  ends_other j k m e a b = ((λ q. a (sym e ∙ q)), λ n h lt q. let z : rank k ≡ n = rw e at q in omega arith)

  ends_operator : (j l m : ℕ) → rank (kind_at ks j) ≡ l → l < m → l < 11 → Ends j m
  unfolding rank
  ends_operator j l m e a b = ((λ q. let z : rank opening ≡ l = rw q at e in omega arith), λ n h lt q. omega (arith, e, q))

  fewer : (j a b : ℕ) → a ≤ b → Ends j a → Ends j b
  fewer j a b h e = (e.0, λ n m lt q. e.1 n (omega arith) lt q)

  split : (i j : ℕ) (xs ys zs : List Token) → xs ++ ys ≡ zs → Run ks i zs j → (m : ℕ) × Run ks i xs m × Run ks m ys j
  split i j xs ys zs e r = run_split ks i j xs ys (rw (← e) at r)

  -- the first token of an operand: a literal, a name or a `(`
  start : (i j : ℕ) (xs : List Token) (t : Tree) → Operand xs t → Run ks i xs j → (kind_at ks i ≡ 8 → ⊥) × (kind_at ks i < 10)
  start i j xs t (a_literal {x} q) r = let k = stands i (kind_of x) x r.0 refl in let b = literal_kind (kind_of x) q in (λ e. omega arith, omega arith)
  start i j xs t (a_name {x} q) r = let k = stands i naming x r.0 q in (λ e. omega arith, omega arith)
  start i j xs t (a_group o c q p d e) r = let k = stands i opening o (rw (← e) at r).0 q in (λ z. omega arith, omega arith)
  start i j xs t (a_call_none {x} q p s) r = let k = stands i naming x r.0 q in (λ e. omega arith, omega arith)
  start i j xs t (a_call o c {x} q p s d e) r = let k = stands i naming x (rw (← e) at r).0 q in (λ z. omega arith, omega arith)

  start_prefix : (i j : ℕ) (xs : List Token) (t : Tree) → Prefix xs t → Run ks i xs j → (kind_at ks i ≡ closing → ⊥)
  start_prefix i j xs t (applied {x} {k} k0 q d) r e = prefix_kind k q (sym (stands i k x r.0 k0) ∙ e)
  start_prefix i j xs t (plain d) r e = let k = (start i j xs t d r).1 in omega arith

  start_level : (l i j : ℕ) (xs : List Token) (t : Tree) → Level l xs t → Run ks i xs j → (kind_at ks i ≡ closing → ⊥)
  start_level l i j zs v (operator x {xs = xs} {ys = ys} {t = t} k0 k lt d e q) r = let s = split i j xs (x ∷ ys) zs q r in start_level l i s.0 xs t d s.1
  start_level l i j xs t (tighter lt d) r = start_level (suc l) i j xs t d r
  start_level l i j xs t (tightest d) r = start_prefix i j xs t d r

  start_arguments : (i j : ℕ) (xs : List Token) (ts : Trees) → Arguments xs ts → Run ks i xs j → (kind_at ks i ≡ closing → ⊥)
  start_arguments i j xs ts (first {t = t} d) r = start_level 0 i j xs t d r
  start_arguments i j zs us (next m {xs} {ys} {ts = ts} k a d q) r = let s = split i j xs (m ∷ ys) zs q r in start_arguments i s.0 xs ts a s.1

  -- `)` and `,` end an expression
  at_close : (j m : ℕ) → kind_at ks j ≡ closing → Ends j m
  unfolding rank
  at_close j m e = ends_other j closing m e (λ q. omega arith) refl

  at_comma : (j m : ℕ) → kind_at ks j ≡ comma → Ends j m
  unfolding rank
  at_comma j m e = ends_other j comma m e (λ q. omega arith) refl

  at_end : (j m : ℕ) → kind_at ks j ≡ 99 → Ends j m
  unfolding rank
  at_end j m e = ends_other j 99 m e (λ q. omega arith) refl

  mutual
    -- the tokens are passed, and `more` goes on from their end
    pass : (l i j : ℕ) (xs : List Token) (t : Tree) → Level l xs t → l < 11 → Run ks i xs j → Ends j (suc l) → level_of ks i l ≡ more_of ks j l t
    pass l i j zs v (operator x {xs = xs} {ys = ys} {t = t} {u = u} k0 k lt d e eq) h r end =
        let s = split i j xs (x ∷ ys) zs eq r in
        let at : rank (kind_at ks s.0) ≡ l = rw (s.2.0, k0) k in
        pass l i s.0 xs t d h s.1 (ends_operator s.0 l (suc l) at (omega arith) lt)
        ∙ more_then ks s.0 l t lt at ∙ rw (add-one l, complete_level (suc l) (s.0 + 1) j ys u e s.2.1 end, s.2.0, k0)
    pass l i j xs t (tighter lt d) h r end = level_then ks i l lt ∙ rw (add-one l, complete_level (suc l) i j xs t d r end)
    pass l i j xs t (tightest d) h r end = absurd (omega arith)

    complete_level : (l i j : ℕ) (xs : List Token) (t : Tree) → Level l xs t → Run ks i xs j → Ends j l → level_of ks i l ≡ ok t j
    complete_level l i j zs v (operator x {xs = xs} {ys = ys} {t = t} {u = u} k0 k lt d e eq) r end =
        let s = split i j xs (x ∷ ys) zs eq r in
        let at : rank (kind_at ks s.0) ≡ l = rw (s.2.0, k0) k in
        pass l i s.0 xs t d lt s.1 (ends_operator s.0 l (suc l) at (omega arith) lt)
        ∙ more_then ks s.0 l t lt at ∙ rw (add-one l, complete_level (suc l) (s.0 + 1) j ys u e s.2.1 (fewer j l (suc l) (omega arith) end), s.2.0, k0)
        (more_stop ks j l v lt (end.1 l (omega arith) lt))
    complete_level l i j xs t (tighter lt d) r end =
        level_then ks i l lt ∙ rw (add-one l, complete_level (suc l) i j xs t d r (fewer j l (suc l) (omega arith) end)) (more_stop ks j l t lt (end.1 l (omega arith) lt))
    complete_level l i j xs t (tightest d) r end = level_prefix ks i ∙ complete_prefix i j xs t d r end.0

    complete_prefix : (i j : ℕ) (xs : List Token) (t : Tree) → Prefix xs t → Run ks i xs j → (kind_at ks j ≡ opening → ⊥) → prefix_of ks i ≡ ok t j
    complete_prefix i j zs v (applied {x} {k} {xs} {t} k0 q d) r end = prefix_applied ks i (rw (r.0, k0) q) ∙ rw (complete_prefix (i + 1) j xs t d r.1 end, r.0, k0)
    complete_prefix i j xs t (plain d) r end =
        let k = start i j xs t d r in
        prefix_plain ks i (not_prefix (kind_at ks i) (λ e. omega (arith, k.1)) k.0) ∙ complete_operand i j xs t d r end

    complete_operand : (i j : ℕ) (xs : List Token) (t : Tree) → Operand xs t → Run ks i xs j → (kind_at ks j ≡ opening → ⊥) → operand_of ks i ≡ ok t j
    complete_operand i j xs t (a_literal {x} q) r end = operand_literal ks i (rw r.0 q) ∙ rw (r.1, r.0)
    complete_operand i j xs t (a_name {x} q) r end = operand_name ks i (rw r.0 q) (rw r.1 end) ∙ rw (r.1, r.0)
    complete_operand i j zs v (a_group o c {xs} {t = t} q p d e) r end =
        let r' = rw (← e) at r in
        let s = run_split ks (i + 1) j xs (c ∷ []) r'.1 in
        let k = stands s.0 closing c s.2.0 p in
        operand_group ks i (stands i opening o r'.0 q) ∙ rw (complete_level 0 (i + 1) s.0 xs t d s.1 (at_close s.0 0 k), k, s.2.1)
    complete_operand i j xs t (a_call_none {x} {o} {c} q p z) r end =
        let two : i + 1 + 1 ≡ i + 2 = omega arith in
        let three : i + 3 ≡ j = omega (arith, r.1.1.1) in
        operand_call_none ks i (stands i naming x r.0 q) (stands (i + 1) opening o r.1.0 p) (stands (i + 2) closing c (rw two at r.1.1.0) z) ∙ rw (three, r.0)
    complete_operand i j zs v (a_call o c {x} {xs} {ts = ts} q p z d e) r end =
        let two : i + 1 + 1 ≡ i + 2 = omega arith in
        let r' = rw (← e) at r in
        let s = run_split ks (i + 2) j xs (c ∷ []) (rw two at r'.1.1) in
        let k = stands s.0 closing c s.2.0 z in
        operand_call ks i (stands i naming x r'.0 q) (stands (i + 1) opening o r'.1.0 p) (start_arguments (i + 2) s.0 xs ts d s.1)
        ∙ complete_arguments (i + 2) s.0 (token_at ks i) xs ts d s.1 k ∙ rw (s.2.1, r'.0)

    pass_arguments : (i j : ℕ) (x : Token) (xs : List Token) (ts : Trees) → Arguments xs ts → Run ks i xs j → kind_at ks j ≡ comma → arguments_of ks i x none ≡ arguments_of ks (j + 1) x ts
    pass_arguments i j x xs us (first {t = t} d) r k =
        args_comma ks i x none t j (complete_level 0 i j xs t d r (at_comma j 0 k)) k
    pass_arguments i j x zs us (next m {xs} {ys} {ts = ts} {t = t} q a d e) r k =
        let s = split i j xs (m ∷ ys) zs e r in
        pass_arguments i s.0 x xs ts a s.1 (stands s.0 comma m s.2.0 q)
        ∙ args_comma ks (s.0 + 1) x ts t j (complete_level 0 (s.0 + 1) j ys t d s.2.1 (at_comma j 0 k)) k

    complete_arguments : (i j : ℕ) (x : Token) (xs : List Token) (ts : Trees) → Arguments xs ts → Run ks i xs j → kind_at ks j ≡ closing → arguments_of ks i x none ≡ ok (call x ts) (j + 1)
    complete_arguments i j x xs us (first {t = t} d) r k =
        args_close ks i x none t j (complete_level 0 i j xs t d r (at_close j 0 k)) k
    complete_arguments i j x zs us (next m {xs} {ys} {ts = ts} {t = t} q a d e) r k =
        let s = split i j xs (m ∷ ys) zs e r in
        pass_arguments i s.0 x xs ts a s.1 (stands s.0 comma m s.2.0 q)
        ∙ args_close ks (s.0 + 1) x ts t j (complete_level 0 (s.0 + 1) j ys t d s.2.1 (at_close j 0 k)) k

-- A derived input is accepted, with the tree of the derivation.
pub complete : (ks : List Token) (t : Tree) → Level 0 ks t → parse_all ks ≡ ok t (length ks)
unfolding parse_all
complete ks t d =
    let past : kind_at ks (length ks) ≡ 99 = ap kind_of (get_or-eq_default ks ended (omega arith)) in
    rw (complete_level ks 0 0 (length ks) ks t d (run_all [] ks) (at_end ks (length ks) 0 past), eq-eqb (length ks) (length ks) refl)

-- Two derivations of the same tokens have the same tree.
pub unambiguous : (ks : List Token) (t u : Tree) → Level 0 ks t → Level 0 ks u → t ≡ u
unambiguous ks t u a b = let x = complete ks t a in let y = complete ks u b in cc
