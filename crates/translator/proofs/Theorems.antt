-- The theorems on translation that specs/Theorems.antt states. Assumes nothing.
use Prim.Native.Nat.{ℕ, ◌≤◌}
use native.Mathlib.Omega.{arith}
use mathlib.Core.Path.{◌≡◌, refl, sym, ap, ◌∙◌}
use mathlib.Core.Bool.{Bool, true, false}
use mathlib.Core.List.{List, map}
use lib.Dec.{eqb}
use lib.ListN.{length}
use borrow.Author.Tests.{eqb-true, ne_eqb}
use Rattle.common.specs.Choice.{pick}
use Rattle.word.specs.Word.{Bytes}
use Rattle.opcode.specs.declared.Edition.{Edition}
use Rattle.table.specs.Table.{encode}
use Rattle.lexer.specs.Token.{Placed, tokens, tokens_of}
use Rattle.grammar.specs.Tree.{Tree}
use Rattle.grammar.specs.Grammar.{Level}
use Rattle.grammar.specs.Size.{pool_of}
use Rattle.grammar.specs.Judge.{forms_right, kinds_right}
use Rattle.grammar.specs.Answer.{found_of}
use Rattle.grammar.proofs.Theorems.{parses}
use Rattle.translator.specs.Compile.{compile}
use Rattle.translator.specs.Translation.{Outcome, refusal, refusal_of, of_tree, of_result, of_tokens, of_lexed, translation_in, edition_number, translation_of}
use Rattle.translator.specs.Theorems.{Expression, Accepted, WritesTable, AcceptsExactly, Decodes, PassesCheck, TableSizes, OtherEdition}
use Rattle.translator.proofs.Sound as sound
use Rattle.translator.proofs.Derived.{level_sound}
use Rattle.translator.proofs.Depth.{most_slots_lem}
use Rattle.translator.proofs.Passes as passes
use Rattle.translator.proofs.Bounded.{bounded}
use Rattle.translator.proofs.Lexed.{lexed_text}
use Rattle.translator.proofs.Filling.{table_size, by_0, free, refusal_by_lem}
use Rattle.translator.proofs.Stages.{Stage, before, at_tree, in_edition, stage}

-- ---- the answer

pub of_tree_lem : (edition : Edition) (s : List ℕ) (t : Tree) (room : ℕ) → Expression s t → translation_of (edition_number edition) s room ≡ of_tree edition t room
unfolding translation_in of_lexed of_tokens of_result
of_tree_lem edition s t room x = rw (in_edition edition s room, x.lexed, x.shallow, (parses (map (λ p. p.token) x.placed) t).1 x.derived)

no_refusal : (edition : Edition) (s : List ℕ) (t : Tree) (room : ℕ) → Accepted s t → length (encode (compile edition t)) ≤ room → refusal_of edition t room ≡ 0
no_refusal edition s t room a h =
    refusal_by_lem edition t room
    ∙ sym (by_0 (found_of t) room (rw a.right.forms) (rw a.right.patterns) (rw (a.right.kinds, a.right.logic)) a.few a.low (omega (arith, table_size edition t)))

pub writes_table : WritesTable
unfolding of_tree
writes_table edition s t room a h = of_tree_lem edition s t room a.expression ∙ rw (no_refusal edition s t room a h)

-- a tree's number and place
pub tree_is : (edition : Edition) (t : Tree) (room : ℕ) → ((of_tree edition t room).number ≡ refusal_of edition t room) × ((of_tree edition t room).place ≡ 0)
unfolding of_tree
tree_is edition t room = go (eqb (refusal_of edition t room) 0) refl
  where
    go : (b : Bool) → eqb (refusal_of edition t room) 0 ≡ b
        → let o = pick b (λ _. record { number = 0; place = 0; table = encode (compile edition t) }) (λ _. refusal (refusal_of edition t room) 0) in (o.number ≡ refusal_of edition t room) × (o.place ≡ 0)
    go true e = (sym (eqb-true _ _ e), refl)
    go false e = (refl, refl)

accepted : (edition : Edition) (s : List ℕ) (room : ℕ) → (translation_of (edition_number edition) s room).number ≡ 0 → (t : Tree) × Accepted s t × (length (encode (compile edition t)) ≤ room)
accepted edition s room e = go (stage edition s room) e
  where
    go : {o : Outcome} → Stage edition s room o → o.number ≡ 0 → (t : Tree) × Accepted s t × (length (encode (compile edition t)) ≤ room)
    go (before k place g some) h = absurd (omega arith)
    go (at_tree t x) h =
        let f = free (found_of t) room (sym (refusal_by_lem edition t room) ∙ sym (tree_is edition t room).0 ∙ h) in
        (t, record { expression = x; right = record { forms = f.forms; patterns = f.patterns; kinds = f.kinds; logic = f.logic }; few = f.few; low = f.shallow }, omega (arith, table_size edition t, f.fits))

pub accepts_exactly : AcceptsExactly
accepts_exactly edition s room = (λ e. accepted edition s room e, λ h. ap (λ (o : Outcome). o.number) (writes_table edition s h.0 room h.1 h.2))

pub other_edition : OtherEdition
unfolding translation_of
other_edition edition s room h = rw (ne_eqb edition 1 (λ e. h Edition.First e), ne_eqb edition 2 (λ e. h Edition.Second e))

-- ---- the table

module _ (s : List ℕ) (ps : List Placed) (t : Tree) (b : Bytes s) (q : tokens_of s ≡ tokens ps) (d : Level 0 (map (λ p. p.token) ps) t) where
  text_sound : forms_right t ≡ true → kinds_right t ≡ true → sound.Sound t
  text_sound f k = level_sound d (lexed_text s ps b q).right f k

  text_small : pool_of t ≤ 4096
  text_small = omega (arith, (bounded d).pool, (lexed_text s ps b q).total)

module _ (s : List ℕ) (t : Tree) (b : Bytes s) (a : Accepted s t) where
  whole_sound : sound.Sound t
  whole_sound = let x = a.expression in text_sound s x.placed t b x.lexed x.derived a.right.forms a.right.kinds

  pub pool_small : pool_of t ≤ 4096
  pool_small = let x = a.expression in text_small s x.placed t b x.lexed x.derived

pub decodes : Decodes
decodes edition s t b a = passes.decodes edition t (whole_sound s t b a) a.few (pool_small s t b a)

pub passes_check : PassesCheck
passes_check edition s t b a = passes.compiled_passes edition t (whole_sound s t b a) a.few (pool_small s t b a) a.right.logic a.right.forms a.right.patterns a.low

pub table_sizes : TableSizes
table_sizes s ps t b q d f k = (sound.size t 0, most_slots_lem t (text_sound s ps t b q d f k) 0)
