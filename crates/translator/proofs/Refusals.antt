-- Each number and place of translation, exactly. Assumes nothing.
use Prim.Native.Nat.{ℕ}
use native.Mathlib.Omega.{arith}
use mathlib.Core.Path.{◌≡◌, refl, sym, ◌∙◌}
use mathlib.Core.Bool.{Bool, true, false, cond, not, ◌&&◌}
use mathlib.Core.List.{List, [], map}
use mathlib.Core.Logic.{inl, inr}
use lib.Dec.{ltb}
use lib.ListN.{length}
use borrow.Author.Tests.{ltb-true, ltb-false}
use Rattle.word.specs.Word.{Bytes}
use Rattle.opcode.specs.declared.Edition.{Edition}
use Rattle.table.specs.Table.{encode}
use Rattle.lexer.specs.Token.{Placed, tokens_of, refused}
use Rattle.lexer.proofs.Theorems.{first_bad}
use Rattle.grammar.specs.Tree.{Tree}
use Rattle.grammar.specs.Function.{or_else}
use Rattle.grammar.specs.Size.{entries_of, depth_of}
use Rattle.grammar.specs.Judge.{forms_right, patterns_right, kinds_right, is_logic}
use Rattle.grammar.specs.Answer.{found_of}
use Rattle.grammar.proofs.Theorems.{names_place}
use Rattle.translator.specs.Compile.{code_of, compile}
use Rattle.translator.specs.Depth.{most_slots}
use Rattle.translator.specs.Translation.{Outcome, refusal_of, of_tree, of_result, of_tokens, of_lexed, translation_in, edition_number, translation_of}
use Rattle.translator.specs.Theorems.{Expression, Right, Given, long, formless, outside, deep, broken, form, pattern, kind, many, high, short, none, GivenExactly}
use Rattle.translator.proofs.Stages.{Stage, before, at_tree, in_edition, stage}
use Rattle.translator.proofs.Fits.{outcome_by}
use Rattle.translator.proofs.Filling.{table_size, by_4, by_18, by_5, by_7, by_8, by_9, refusal_by_lem}
use Rattle.translator.proofs.Theorems.{of_tree_lem, tree_is, writes_table, table_sizes}

-- number and place of an answer
abbrev Is : Outcome → ℕ → ℕ → Type 0
Is o number place = (o.number ≡ number) × (o.place ≡ place)

module _ (edition : Edition) (s : List ℕ) (room : ℕ) (bytes : Bytes s) where
  sizes : (t : Tree) → Expression s t → Right t → (length (code_of 0 t) ≡ entries_of t) × (most_slots (code_of 0 t) 0 ≡ depth_of t)
  sizes t x r = table_sizes s x.placed t bytes x.lexed x.derived r.forms r.kinds

  -- ---- what is answered is given

  tree_given : (t : Tree) → Expression s t → Given edition s room (of_tree edition t room).number (of_tree edition t room).place
  unfolding of_tree refusal_of
  tree_given t x =
      go (forms_right t) (patterns_right t) (kinds_right t) (is_logic t) (ltb 512 (entries_of t)) (ltb 32 (depth_of t)) (ltb room (length (encode (compile edition t)))) refl refl refl refl refl refl refl
    where
      go : (a m b c d e f : Bool) → forms_right t ≡ a → patterns_right t ≡ m → kinds_right t ≡ b → is_logic t ≡ c → ltb 512 (entries_of t) ≡ d → ltb 32 (depth_of t) ≡ e → ltb room (length (encode (compile edition t))) ≡ f
          → let o = outcome_by (or_else (cond (not a) 4 (cond (not m) 18 (cond (not (b && c)) 5 (cond d 7 (cond e 8 0))))) (cond f 9 0)) (encode (compile edition t)) in Given edition s room o.number o.place
      go false m b c d e f p n q r u v w = form t x p
      go true false b c d e f p n q r u v w = pattern t x p n
      go true true false c d e f p n q r u v w = kind t x p n (rw q)
      go true true true false d e f p n q r u v w = kind t x p n (rw (q, r))
      go true true true true true e f p n q r u v w =
          let y : Right t = record { forms = p; patterns = n; kinds = q; logic = r } in
          many t x y (omega (arith, ltb-true 512 (entries_of t) u, (sizes t x y).0))
      go true true true true false true f p n q r u v w =
          let y : Right t = record { forms = p; patterns = n; kinds = q; logic = r } in
          high t x y (omega (arith, ltb-false 512 (entries_of t) u, (sizes t x y).0)) (omega (arith, ltb-true 32 (depth_of t) v, (sizes t x y).1))
      go true true true true false false true p n q r u v w =
          short t (record { expression = x; right = record { forms = p; patterns = n; kinds = q; logic = r }; few = ltb-false 512 (entries_of t) u; low = ltb-false 32 (depth_of t) v }) (ltb-true room (length (encode (compile edition t))) w)
      go true true true true false false false p n q r u v w =
          none t (record { expression = x; right = record { forms = p; patterns = n; kinds = q; logic = r }; few = ltb-false 512 (entries_of t) u; low = ltb-false 32 (depth_of t) v }) (ltb-false room (length (encode (compile edition t))) w)

  stage_given : {o : Outcome} → Stage edition s room o → Given edition s room o.number o.place
  stage_given (before k place g some) = g
  stage_given (at_tree t x) = tree_given t x

  -- ---- what is given is answered

  by_lexer : (k place : ℕ) (ps : List Placed) → tokens_of s ≡ refused k place ps → Is (translation_of (edition_number edition) s room) k place
  unfolding translation_in of_lexed
  by_lexer k place ps e = rw (in_edition edition s room, e) (refl, refl)

  by_tree : (t : Tree) → Expression s t → (k : ℕ) → k ≡ refusal_of edition t room → Is (translation_of (edition_number edition) s room) k 0
  by_tree t x k e = rw (of_tree_lem edition s t room x) ((tree_is edition t room).0 ∙ sym e, (tree_is edition t room).1)

  answered : {number place : ℕ} → Given edition s room number place → Is (translation_of (edition_number edition) s room) number place
  unfolding translation_in of_lexed of_tokens of_result
  answered (long h) = by_lexer 10 0 [] ((first_bad s 10 0 []).1 (inr (h, refl, refl, refl)))
  answered (formless place ps h l) = by_lexer 1 place ps ((first_bad s 1 place ps).1 (inl (h, l)))
  answered (outside place ps h l) = by_lexer 3 place ps ((first_bad s 3 place ps).1 (inl (h, l)))
  answered (deep ps q d) = rw (in_edition edition s room, q, d) (refl, refl)
  answered (broken ps p q d b) = rw (in_edition edition s room, q, d, (names_place (map (λ p. p.token) ps) p).1 b) (refl, refl)
  answered (form t x f) = by_tree t x 4 (by_4 (found_of t) room (rw f) ∙ sym (refusal_by_lem edition t room))
  answered (pattern t x f p) = by_tree t x 18 (by_18 (found_of t) room (rw f) (rw p) ∙ sym (refusal_by_lem edition t room))
  answered (kind t x f p k) = by_tree t x 5 (by_5 (found_of t) room (rw f) (rw p) (rw k) ∙ sym (refusal_by_lem edition t room))
  answered (many t x r h) =
      by_tree t x 7 (by_7 (found_of t) room (rw r.forms) (rw r.patterns) (rw (r.kinds, r.logic)) (omega (arith, (sizes t x r).0)) ∙ sym (refusal_by_lem edition t room))
  answered (high t x r h g) =
      by_tree t x 8 (by_8 (found_of t) room (rw r.forms) (rw r.patterns) (rw (r.kinds, r.logic)) (omega (arith, (sizes t x r).0)) (omega (arith, (sizes t x r).1)) ∙ sym (refusal_by_lem edition t room))
  answered (short t a h) =
      let r = a.right in
      by_tree t a.expression 9 (by_9 (found_of t) room (rw r.forms) (rw r.patterns) (rw (r.kinds, r.logic)) a.few a.low (omega (arith, table_size edition t)) ∙ sym (refusal_by_lem edition t room))
  answered (none t a h) = rw (writes_table edition s t room a h) (refl, refl)

pub given_exactly : GivenExactly
given_exactly edition s room number place bytes =
    (λ h. rw (← h.0, ← h.1) (stage_given edition s room bytes (stage edition s room)), λ g. answered edition s room bytes g)
