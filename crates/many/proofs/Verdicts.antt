-- The verdict byte of one table, the walk that writes them, and what is answered, refusal by refusal. Assumes nothing.
use Rattle.std.specs.Prelude.{Ok, Err}
use mathlib.Core.Path.{◌≡◌, refl, sym, ap, ◌∙◌}
use mathlib.Core.Bool.{false}
use mathlib.Core.List.{List, [], ◌∷◌, ◌++◌, map, append_assoc, append-nil}
use Prim.Native.Nat.{ℕ, ◌+◌, ◌≤◌, ◌<◌}
use native.Mathlib.Omega.{arith}
use native.Mathlib.Numerals.{add-one}
use native.Mathlib.Decide.{dec_le}
use lib.ListN.{length, get_or, set, take, drop, length-set, length-map}
use lib.Seq.{sets, sets-eq, drop-cons, take-suc-set}
use Rattle.std.proofs.lemmas.List.{nil_from_length, take_all}
use borrow.Author.Tests.{le-leb, lt-leb, eq-eqb}
use Rattle.truth.specs.Truth.{number_of as verdictNumber}
use Rattle.refusal.specs.declared.Refusal.{Refusal}
use Rattle.refusal.specs.Refusal.{number_of as refusal_number, place_of as refusal_place}
use Rattle.refusal.proofs.Numbers.{not_zero}
use Rattle.notice.specs.Layout.{check_of as noticeCheck}
use Rattle.table.specs.Check.{check_of as tableCheck}
use Rattle.interpreter.specs.Running.{RunAnswer, running_of}
use Rattle.interpreter.proofs.Answers.{table_refused}
use Rattle.many.specs.Many.{Delivered, extent_of, stretches_of, verdict_byte, verdicts_of, Delivers}
use Rattle.many.proofs.Stretches.{none_left, one_less, first_and_rest}

-- an element does not depend on what stands for none
pub no_default : (l : List ℕ) (i d e : ℕ) → i < length l → get_or l i d ≡ get_or l i e
no_default l i d e h = ap (λ (t : List ℕ). get_or t 0 0) (sym (drop-cons l i d h) ∙ drop-cons l i e h)

-- ---- the byte of one table

module _ (table notice : List ℕ) where
  pub byte_refused : tableCheck table ≡ false → 3 ≡ verdict_byte (running_of table notice)
  byte_refused e = ap verdict_byte (table_refused table notice e)

  pub byte_ran : (r : RunAnswer) → r ≡ running_of table notice → r.number ≡ 0 → verdictNumber r.verdict ≡ verdict_byte (running_of table notice)
  byte_ran r e z = sym (rw (eq-eqb r.number 0 z)) ∙ ap verdict_byte e

pub one_each : (tables notice : List ℕ) → length (verdicts_of tables notice) ≡ length (stretches_of tables)
one_each tables notice = length-map (stretches_of tables) (λ (t : List ℕ). verdict_byte (running_of t notice))

-- ---- the walk of `deliver`

-- the first i tables have their bytes: with those of the rest they are all.
pub record Delivering (tables notice rest now : List ℕ) (i : ℕ) : Type 0 where
  pub room : length now ≡ length (stretches_of tables)
  pub left : i + length (stretches_of rest) ≡ length (stretches_of tables)
  pub bytes : take i now ++ verdicts_of rest notice ≡ verdicts_of tables notice

pub delivering_first : (tables notice now : List ℕ) → length now ≡ length (stretches_of tables) → Delivering tables notice tables now 0
delivering_first tables notice now e = record { room = e; left = omega arith; bytes = refl }

module _ (tables notice rest now : List ℕ) (i : ℕ) (g : Delivering tables notice rest now i) where
  pub some_left : i < length now → 0 < length rest
  some_left h = go (dec_le 1 (length rest))
    where
      go : Dec (1 ≤ length rest) → 0 < length rest
      go (yes p) = p
      go (no p) = absurd (omega (arith, none_left rest (omega arith), g.left, g.room))

  pub delivering_on : (v : ℕ) → i < length now → v ≡ verdict_byte (running_of (take (extent_of rest) rest) notice)
      → Delivering tables notice (drop (extent_of rest) rest) (set now i v) (i + 1)
  delivering_on v h e =
      let some = some_left h in
      let f : List ℕ → ℕ = λ t. verdict_byte (running_of t notice) in
      let first : verdicts_of rest notice ≡ v ∷ verdicts_of (drop (extent_of rest) rest) notice =
      ap (map f) (first_and_rest rest some) ∙ ap (λ (b : ℕ). b ∷ verdicts_of (drop (extent_of rest) rest) notice) (sym e) in
      record {
        room = simp length-set g.room;
        left = omega (arith, one_less rest some, g.left);
        bytes =
            rw add-one (ap (λ (x : List ℕ). x ++ verdicts_of (drop (extent_of rest) rest) notice) (take-suc-set now i v h)
            ∙ append_assoc (take i now) (v ∷ []) (verdicts_of (drop (extent_of rest) rest) notice)
            ∙ ap (λ (x : List ℕ). take i now ++ x) (sym first)
            ∙ g.bytes);
      }

  pub delivered_all : length now ≤ i → now ≡ verdicts_of tables notice
  delivered_all h =
      let z : stretches_of rest ≡ [] = nil_from_length (stretches_of rest) (omega (arith, g.left, g.room)) in
      sym (take_all i now h) ∙ sym (append-nil (take i now)) ∙ ap (λ (ts : List (List ℕ)). take i now ++ map (λ (t : List ℕ). verdict_byte (running_of t notice)) ts) (sym z) ∙ g.bytes

-- a part at the start of the buffer, and what is past it
pub front_set : (x s : List ℕ) (n : ℕ) → length x ≡ n → n ≤ length s → x ++ drop n s ≡ sets s 0 x
front_set x s n e h = let z : 0 + length x ≡ n = omega arith in sym (rw z at (sets-eq x s 0 (omega arith)))

-- ---- what is answered: 11, 24, 9 in this order

module _ (tables notice verdicts : List ℕ) (r : Delivered) where
  pub many_faulty : (f : Refusal) → noticeCheck notice ≡ Err f → r ≡ record { number = refusal_number f; place = refusal_place f; count = 0 } → Delivers tables notice verdicts verdicts r
  many_faulty f w e = record { answer = e ∙ rw (w, not_zero f); bytes = rw (w, not_zero f) }

  module _ (well : noticeCheck notice ≡ Ok tt) where
    pub many_over : 64 < length (stretches_of tables) → r ≡ record { number = 24; place = 0; count = 0 } → Delivers tables notice verdicts verdicts r
    many_over h e = let l = lt-leb (length (stretches_of tables)) 64 h in record { answer = e ∙ rw (well, l); bytes = rw (well, l) }

    module _ (few : length (stretches_of tables) ≤ 64) where
      pub many-short : length verdicts < length (stretches_of tables) → r ≡ record { number = 9; place = 0; count = 0 } → Delivers tables notice verdicts verdicts r
      many-short h e =
          let l = le-leb (length (stretches_of tables)) 64 few in
          let m = lt-leb (length (stretches_of tables)) (length verdicts) h in
          record { answer = e ∙ rw (well, l, m); bytes = rw (well, l, m) }

      pub many-written : length (stretches_of tables) ≤ length verdicts → (after : List ℕ) → after ≡ sets verdicts 0 (verdicts_of tables notice) → r ≡ record { number = 0; place = 0; count = length (stretches_of tables) }
          → Delivers tables notice verdicts after r
      many-written h after b e =
          let l = le-leb (length (stretches_of tables)) 64 few in
          let m = le-leb (length (stretches_of tables)) (length verdicts) h in
          record { answer = e ∙ rw (well, l, m); bytes = b ∙ rw (well, l, m) }
