-- Single entries: how they are made of codes, and written into their stretch, with what they bring to the pool. Assumes nothing.
use Prim.Native.Nat.{ℕ, ◌+◌, ◌≤◌}
use native.Mathlib.Omega.{arith}
use mathlib.Core.Path.{◌≡◌, refl, sym, ap, ap₂, ◌∙◌}
use mathlib.Core.Bool.{Bool, true, false, cond, not}
use mathlib.Core.List.{List, [], ◌++◌, append_assoc}
use lib.Dec.{eqb}
use lib.Ieee.{binary64, to_bits}
use lib.ListN.{length, take, drop}
use lib.Seq.{sets, sets-eq}
use borrow.Author.Tests.{ne_eqb}
use mir.Syntax.{w64}
use mir.Val.{of_z}
use Rattle.common.proofs.Choice.{false_true}
use Rattle.word.specs.Word.{word_bytes}
use Rattle.table.specs.declared.Entry.{Entry}
use Rattle.table.specs.Table.{entry_bytes}
use Rattle.lexer.specs.Token.{int32, int64, real, symbol, name_at, string_at, integer_at, real_at}
use Rattle.grammar.specs.Marks.{is_operand}
use Rattle.grammar.specs.Stream.{token_of}
use Rattle.translator.specs.Compile.{entry, leaf_entry, leaf_bytes}
use Rattle.translator.specs.Emit.{entry_start}
use Rattle.translator.specs.Expand.{op_in, a_in, pushes, brought_by, entry_by, SizedBy}
use Rattle.translator.proofs.Stores.{sets_all, length_entry}
use Rattle.translator.proofs.Expanding.{operand_cases}

-- three words over the whole of a part
pub entry_written : (s s1 s2 s3 : List ℕ) (e : Entry) → length s ≡ 12 → s1 ≡ sets s 0 (word_bytes 2 e.op) → s2 ≡ sets s1 2 (word_bytes 2 e.a) → s3 ≡ sets s2 4 (word_bytes 8 e.b) → s3 ≡ entry_bytes e
unfolding word_bytes
entry_written s s1 s2 s3 e n p q r =
    r ∙ ap (λ (l : List ℕ). sets l 4 (word_bytes 8 e.b)) (q ∙ ap (λ (l : List ℕ). sets l 2 (word_bytes 2 e.a)) p) ∙ sets_all (entry_bytes e) s (length_entry e ∙ sym n)

-- the part goes back to its place
pub part_back : (s : List ℕ) (at : ℕ) (e : Entry) → at + 12 ≤ length s → take at s ++ (entry_bytes e ++ drop (at + 12) s) ≡ sets s at (entry_bytes e)
part_back s at e h =
    let n = length_entry e in
    sym (sets-eq (entry_bytes e) s at (omega arith) ∙ append_assoc (take at s) (entry_bytes e) (drop (at + length (entry_bytes e)) s) ∙ ap (λ (m : ℕ). take at s ++ (entry_bytes e ++ drop (at + m) s)) n)

-- ---- literals and names

module _ (s : List ℕ) (op place : ℕ) where
  pub brought_text : op ≡ 4 → leaf_bytes (token_of s op place) ≡ string_at s place
  brought_text e = rw e

  pub brought_name : op ≡ 5 → leaf_bytes (token_of s op place) ≡ name_at s place
  brought_name e = rw e

  pub brought_none : (op ≡ 4 → ⊥) → (op ≡ 5 → ⊥) → leaf_bytes (token_of s op place) ≡ []
  brought_none a b = rw (ne_eqb op 5 b, ne_eqb op 4 a) (go (eqb op 1) (eqb op 2) (eqb op 3))
    where
      go : (x y z : Bool) → leaf_bytes (cond x (int32 (integer_at s place)) (cond y (int64 (integer_at s place)) (cond z (real (real_at s place)) (symbol op)))) ≡ []
      go true y z = refl
      go false true z = refl
      go false false true = refl
      go false false false = refl

  module _ (n pool : ℕ) {r : Entry} where
    pub name_made : n ≡ length (leaf_bytes (token_of s op place)) → op ≡ 5 → r ≡ entry 5 n pool → r ≡ leaf_entry pool (token_of s op place)
    name_made en e q = let l : n ≡ length (name_at s place) = en ∙ ap length (brought_name e) in q ∙ rw (e, l)

    pub string_made : n ≡ length (leaf_bytes (token_of s op place)) → op ≡ 4 → r ≡ entry 4 n pool → r ≡ leaf_entry pool (token_of s op place)
    string_made en e q = let l : n ≡ length (string_at s place) = en ∙ ap length (brought_text e) in q ∙ rw (e, l)

  module _ (pool : ℕ) {r : Entry} {b : ℕ} where
    pub real_made : op ≡ 3 → b ≡ to_bits binary64 (real_at s place) → r ≡ entry 3 0 b → r ≡ leaf_entry pool (token_of s op place)
    real_made e eb q = q ∙ rw (e, eb)

    pub int_made : is_operand op ≡ true → (op ≡ 5 → ⊥) → (op ≡ 4 → ⊥) → (op ≡ 3 → ⊥) → b ≡ of_z w64 (integer_at s place) → r ≡ entry op 0 b → r ≡ leaf_entry pool (token_of s op place)
    int_made o n5 n4 n3 eb q =
        operand_cases (λ k. (k ≡ 5 → ⊥) → (k ≡ 4 → ⊥) → (k ≡ 3 → ⊥) → r ≡ entry k 0 b → r ≡ leaf_entry pool (token_of s k place)) op o
        (λ x y z h. h ∙ rw eb)
        (λ x y z h. h ∙ rw eb)
        (λ x y z h. absurd (z refl))
        (λ x y z h. absurd (y refl))
        (λ x y z h. absurd (x refl)) n5 n4 n3 q

-- ---- a code

pub off : (b : Bool) {p : Bool} → b ≡ p → not b ≡ true → p ≡ false
off true e h = false_true h
off false e h = sym e

pub on : (b : Bool) {p : Bool} → b ≡ p → not b ≡ false → p ≡ true
on true e h = sym e
on false e h = false_true (sym h)

module _ (s : List ℕ) (c place : ℕ) where
  module _ (h : pushes c ≡ true) where
    pub brought_pushed : brought_by s c place ≡ leaf_bytes (token_of s (op_in c) place)
    brought_pushed = rw h

    pub leaf_sized : {p n z : ℕ} → p ≡ place → n ≡ z → SizedBy s c place z → n ≡ length (leaf_bytes (token_of s (op_in c) p))
    leaf_sized ep en q = en ∙ q h ∙ ap length brought_pushed ∙ ap (λ (k : ℕ). length (leaf_bytes (token_of s (op_in c) k))) (sym ep)

    pub entry_pushed : (pool : ℕ) → entry_by s c place pool ≡ leaf_entry pool (token_of s (op_in c) place)
    entry_pushed pool = rw h

  module _ (h : pushes c ≡ false) where
    pub brought_other : brought_by s c place ≡ []
    brought_other = rw h

    pub entry_other : (pool : ℕ) → entry_by s c place pool ≡ entry (op_in c) (a_in c) 0
    entry_other pool = rw h

  -- what is written of a code
  module _ (was : List ℕ) (i at pool : ℕ) {now : List ℕ} {x : Entry} where
    pub written_other : pushes c ≡ false → x ≡ entry (op_in c) (a_in c) 0 → now ≡ sets was (entry_start i) (entry_bytes x)
        → now ≡ sets (sets was at (brought_by s c place)) (entry_start i) (entry_bytes (entry_by s c place pool))
    written_other h e q = q ∙ ap₂ (λ (b : List ℕ) (y : Entry). sets (sets was at b) (entry_start i) (entry_bytes y)) (sym (brought_other h)) (e ∙ sym (entry_other h pool))

    pub written_pushed : {mid : List ℕ} → pushes c ≡ true → mid ≡ sets was at (leaf_bytes (token_of s (op_in c) place)) → x ≡ leaf_entry pool (token_of s (op_in c) place) → now ≡ sets mid (entry_start i) (entry_bytes x)
        → now ≡ sets (sets was at (brought_by s c place)) (entry_start i) (entry_bytes (entry_by s c place pool))
    written_pushed h em e q =
        q ∙ ap₂ (λ (l : List ℕ) (y : Entry). sets l (entry_start i) (entry_bytes y)) (em ∙ ap (sets was at) (sym (brought_pushed h))) (e ∙ sym (entry_pushed h pool))
