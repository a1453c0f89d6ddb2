-- The table that is answered lies in the buffer, and a refused text has none. Assumes nothing.
use mathlib.Core.Bool.{Bool, true, false, cond}
use mathlib.Core.Path.{◌≡◌, refl}
use mathlib.Core.Logic.{◌⊎◌, inl, inr}
use mathlib.Core.List.{List, [], map}
use Prim.Native.Nat.{ℕ, ◌≤◌}
use native.Mathlib.Omega.{arith}
use borrow.Author.Tests.{ltb-false}
use lib.Dec.{eqb, ltb}
use lib.ListN.{length}
use Rattle.common.specs.Choice.{pick}
use Rattle.opcode.specs.declared.Edition.{Edition}
use Rattle.lexer.specs.Token.{kind_of, Lexed, tokens, refused, tokens_of}
use Rattle.grammar.specs.Tree.{Tree}
use Rattle.grammar.specs.Parse.{Result, ok, bad, parse_all}
use Rattle.grammar.specs.Nesting.{too_deep}
use Rattle.grammar.specs.Function.{or_else}
use Rattle.grammar.specs.Answer.{found_of, found_number}
use Rattle.table.specs.Table.{encode}
use Rattle.translator.specs.Compile.{compile}
use Rattle.translator.specs.Translation.{Outcome, refusal, refusal_of, of_tree, of_result, of_tokens, of_lexed, translation_in, is_edition, edition_by, translation_of}
use Rattle.translator.specs.Theorems.{FitsRoom, RefusedEmpty}

-- a tree's answer by its number
abbrev pub outcome_by : ℕ → List ℕ → Outcome
outcome_by k table = pick (eqb k 0) (λ _. record { number = 0; place = 0; table = table }) (λ _. refusal k 0)

fits_short : (e : Bool) (table : List ℕ) (room : ℕ) → (e ≡ false → length table ≤ room) → length (outcome_by (cond e 9 0) table).table ≤ room
fits_short true table room h = omega arith
fits_short false table room h = h refl

fits_number : (k : ℕ) (e : Bool) (table : List ℕ) (room : ℕ) → (e ≡ false → length table ≤ room) → length (outcome_by (or_else k (cond e 9 0)) table).table ≤ room
fits_number k e table room h = go (eqb k 0) refl
  where
    go : (b : Bool) → eqb k 0 ≡ b → length (outcome_by (cond b (cond e 9 0) k) table).table ≤ room
    go true q = fits_short e table room h
    go false q = rw q (omega arith)

-- of two answers the one by a test
fits_either : (b : Bool) (o p : Outcome) (room : ℕ) → length o.table ≤ room → length p.table ≤ room → length (pick b (λ _. o) (λ _. p)).table ≤ room
fits_either true o p room h k = h
fits_either false o p room h k = k

module _ (edition : Edition) where
  fits_tree : (t : Tree) (room : ℕ) → length (of_tree edition t room).table ≤ room
  unfolding of_tree refusal_of
  fits_tree t room =
      let table = encode (compile edition t) in
      fits_number (found_number (found_of t)) (ltb room (length table)) table room (λ h. ltb-false room (length table) h)

  fits_result : (long : ℕ) (starts : List ℕ) (room : ℕ) (r : Result) → length (of_result edition long starts room r).table ≤ room
  unfolding of_result
  fits_result long starts room (ok t n) = fits_tree t room
  fits_result long starts room (bad p) = omega arith

  fits_lexed : (long room : ℕ) (x : Lexed) → length (of_lexed edition long room x).table ≤ room
  unfolding of_lexed of_tokens
  fits_lexed long room (tokens ps) =
      fits_either (too_deep (map (λ p. kind_of p.token) ps)) (refusal 6 0) (of_result edition long (map (λ p. p.start) ps) room (parse_all (map (λ p. p.token) ps))) room (omega arith)
      (fits_result long (map (λ p. p.start) ps) room (parse_all (map (λ p. p.token) ps)))
  fits_lexed long room (refused number place ps) = omega arith

pub fits_room : FitsRoom
unfolding translation_of translation_in
fits_room edition s room =
    fits_either (is_edition edition) (translation_in (edition_by edition) s room) (refusal 25 0) room (fits_lexed (edition_by edition) (length s) room (tokens_of s)) (omega arith)

-- ---- a refused text

abbrev Empty : Outcome → Type 0
Empty o = (o.number ≡ 0) ⊎ (o.table ≡ [])

empty_by : (b : Bool) (k : ℕ) (table : List ℕ) → Empty (pick b (λ _. record { number = 0; place = 0; table = table }) (λ _. refusal k 0))
empty_by true k table = inl refl
empty_by false k table = inr refl

empty_either : (b : Bool) (o p : Outcome) → Empty o → Empty p → Empty (pick b (λ _. o) (λ _. p))
empty_either true o p h k = h
empty_either false o p h k = k

module _ (edition : Edition) where
  empty_result : (long : ℕ) (starts : List ℕ) (room : ℕ) (r : Result) → Empty (of_result edition long starts room r)
  unfolding of_result of_tree
  empty_result long starts room (ok t n) = empty_by (eqb (refusal_of edition t room) 0) (refusal_of edition t room) (encode (compile edition t))
  empty_result long starts room (bad p) = inr refl

  empty_lexed : (long room : ℕ) (x : Lexed) → Empty (of_lexed edition long room x)
  unfolding of_lexed of_tokens
  empty_lexed long room (tokens ps) =
      empty_either (too_deep (map (λ p. kind_of p.token) ps)) (refusal 6 0) (of_result edition long (map (λ p. p.start) ps) room (parse_all (map (λ p. p.token) ps))) (inr refl)
      (empty_result long (map (λ p. p.start) ps) room (parse_all (map (λ p. p.token) ps)))
  empty_lexed long room (refused number place ps) = inr refl

pub refused_empty : RefusedEmpty
unfolding translation_of translation_in
refused_empty edition s room =
    empty_either (is_edition edition) (translation_in (edition_by edition) s room) (refusal 25 0) (empty_lexed (edition_by edition) (length s) room (tokens_of s)) (inr refl)
