-- A tree that the grammar derives from right tokens, and to which the refusals 4 and 5 do not apply, is sound. Assumes nothing.
use Prim.Native.Nat.{ℕ}
use native.Mathlib.Omega.{arith}
use mathlib.Core.Path.{◌≡◌, refl, sym, subst}
use mathlib.Core.Bool.{Bool, true, false, not, ◌&&◌}
use mathlib.Core.List.{List, [], ◌∷◌, ◌++◌}
use lib.Dec.{leb}
use borrow.Author.Tests.{leb-true}
use Rattle.common.proofs.Choice.{false_true}
use Rattle.table.proofs.Tests.{both_true}
use Rattle.lexer.specs.Token.{Token, kind_of}
use Rattle.grammar.specs.Tree.{Tree, Trees, none}
use Rattle.grammar.specs.Grammar.{Level, operator, tighter, tightest, Prefix, applied, plain, Operand, a_literal, a_name, a_group, a_call_none, a_call, Arguments, first, next}
use Rattle.grammar.specs.Function.{function_of}
use Rattle.grammar.specs.Size.{count_of}
use Rattle.grammar.specs.Judge.{takes_logic, call_right, first_of, later_texts, is_logic, agrees, forms_right, forms_in, kinds_right, kinds_in}
use Rattle.translator.proofs.Entries.{prefix_acts, binary_acts, call_acts, TokenRight}
use Rattle.translator.proofs.Sound as sound
use Rattle.translator.proofs.Sound.{Sound, SoundIn}

abbrev pub AllRight : List Token → Type 0
AllRight [] = Unit {0}
AllRight (x ∷ xs) = TokenRight x × AllRight xs

pub all_left : (xs ys : List Token) → AllRight (xs ++ ys) → AllRight xs
all_left [] ys h = tt
all_left (x ∷ xs) ys h = (h.0, all_left xs ys h.1)

pub all_rest : (xs ys : List Token) → AllRight (xs ++ ys) → AllRight ys
all_rest [] ys h = h
all_rest (x ∷ xs) ys h = all_rest xs ys h.1

agreed : (a b : Bool) → agrees a b ≡ true → b ≡ a
agreed true true e = refl
agreed true false e = false_true e
agreed false true e = false_true e
agreed false false e = refl

is_no : (b : Bool) → not b ≡ true → b ≡ false
is_no true e = false_true e
is_no false e = refl

mutual
  unfolding forms_right kinds_right is_logic

  pub level_sound : {l : ℕ} {xs : List Token} {t : Tree} → Level l xs t → AllRight xs → forms_right t ≡ true → kinds_right t ≡ true → Sound t
  level_sound (operator x {l} {k} {xs} {ys} {zs} {t} {u} ek er lt d e q) r f g =
      let a : AllRight (xs ++ (x ∷ ys)) = subst AllRight (sym q) r in
      let fs = both_true (forms_right t) (forms_right u) f in
      let gs = both_true (kinds_right t && agrees (takes_logic k) (is_logic t)) (kinds_right u && agrees (takes_logic k) (is_logic u)) g in
      let gt = both_true (kinds_right t) (agrees (takes_logic k) (is_logic t)) gs.0 in
      let gu = both_true (kinds_right u) (agrees (takes_logic k) (is_logic u)) gs.1 in
      sound.a_binary (binary_acts k (omega arith)) (level_sound d (all_left xs (x ∷ ys) a) fs.0 gt.0) (agreed (takes_logic k) (is_logic t) gt.1) (level_sound e (all_rest xs (x ∷ ys) a).1 fs.1 gu.0) (agreed (takes_logic k) (is_logic u) gu.1)
  level_sound (tighter lt d) r f g = level_sound d r f g
  level_sound (tightest d) r f g = prefix_sound d r f g

  prefix_sound : {xs : List Token} {t : Tree} → Prefix xs t → AllRight xs → forms_right t ≡ true → kinds_right t ≡ true → Sound t
  prefix_sound (applied {x} {k} {xs} {t} ek ep d) r f g =
      let gs = both_true (kinds_right t) (agrees (takes_logic k) (is_logic t)) g in
      sound.a_unary (prefix_acts k ep) (prefix_sound d r.1 f gs.0) (agreed (takes_logic k) (is_logic t) gs.1)
  prefix_sound (plain d) r f g = operand_sound d r f g

  operand_sound : {xs : List Token} {t : Tree} → Operand xs t → AllRight xs → forms_right t ≡ true → kinds_right t ≡ true → Sound t
  operand_sound (a_literal {x} e) r f g = let h = leb-true (kind_of x) 4 (both_true (leb 1 (kind_of x)) (leb (kind_of x) 4) e).1 in sound.a_leaf {x = x} (omega arith) r.0
  operand_sound (a_name {x} e) r f g = sound.a_leaf {x = x} (omega arith) r.0
  operand_sound (a_group o c {xs} {zs} {t} eo ec d q) r f g =
      let a : AllRight (o ∷ (xs ++ (c ∷ []))) = subst AllRight (sym q) r in
      sound.a_group (level_sound d (all_left xs (c ∷ []) a.1) f g)
  operand_sound (a_call_none {x} {o} {c} ex eo ec) r f g =
      let fs = both_true (forms_in none) (call_right (function_of x) (first_of none) (count_of none) (later_texts none)) f in
      sound.a_call (call_acts (function_of x) (count_of none) (first_of none) (later_texts none) fs.1) sound.no_more
  operand_sound (a_call o c {x} {xs} {zs} {ts} ex eo ec d q) r f g =
      let a : AllRight (x ∷ o ∷ (xs ++ (c ∷ []))) = subst AllRight (sym q) r in
      let fs = both_true (forms_in ts) (call_right (function_of x) (first_of ts) (count_of ts) (later_texts ts)) f in
      sound.a_call (call_acts (function_of x) (count_of ts) (first_of ts) (later_texts ts) fs.1) (arguments_sound d (all_left xs (c ∷ []) a.1.1) fs.0 g)

  arguments_sound : {xs : List Token} {ts : Trees} → Arguments xs ts → AllRight xs → forms_in ts ≡ true → kinds_in ts ≡ true → SoundIn ts
  arguments_sound (first {xs} {t} d) r f g =
      let gs = both_true (kinds_right t) (not (is_logic t)) g in
      sound.one_more sound.no_more (level_sound d r f gs.0) (is_no (is_logic t) gs.1)
  arguments_sound (next m {xs} {ys} {zs} {ts} {t} em d e q) r f g =
      let a : AllRight (xs ++ (m ∷ ys)) = subst AllRight (sym q) r in
      let fs = both_true (forms_in ts) (forms_right t) f in
      let gs = both_true (kinds_in ts) (kinds_right t && not (is_logic t)) g in
      let gt = both_true (kinds_right t) (not (is_logic t)) gs.1 in
      sound.one_more (arguments_sound d (all_left xs (m ∷ ys) a) fs.0 gs.0) (level_sound e (all_rest xs (m ∷ ys) a).1 fs.1 gt.0) (is_no (is_logic t) gt.1)
