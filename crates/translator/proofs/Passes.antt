-- What is compiled from an accepted text passes the check of tables. Assumes nothing.
use Prim.Native.Nat.{ℕ, zero, suc, ◌≤◌}
use native.Mathlib.Omega.{arith}
use mathlib.Core.Path.{◌≡◌, ◌∙◌}
use mathlib.Core.Bool.{true, ◌&&◌}
use mathlib.Core.List.{List, [], ◌∷◌, ◌++◌}
use lib.Dec.{leb}
use lib.ListN.{length}
use Rattle.word.specs.Word.{Bytes}
use Rattle.notice.specs.Field.{printable}
use Rattle.notice.proofs.Keys.{printable_bytes}
use Rattle.opcode.specs.declared.Edition.{Edition}
use Rattle.table.specs.Table.{encode, decode}
use Rattle.table.specs.Check.{check_of}
use Rattle.table.specs.Theorems.{Limits}
use Rattle.table.proofs.Tests.{both_true, are_true}
use Rattle.table.proofs.Numbers.{eq_shape}
use Rattle.table.proofs.Passes.{all_right}
use Rattle.table.proofs.Theorems.{decode_encode, check_encode}
use Rattle.lexer.specs.Token.{Token, name, int32, int64, real, text, symbol}
use Rattle.grammar.specs.Tree.{Tree}
use Rattle.grammar.specs.Size.{entries_of, pool_of, depth_of}
use Rattle.grammar.specs.Judge.{is_logic, forms_right, patterns_right}
use Rattle.translator.specs.Compile.{code_of, leaf_bytes, bytes_of, bytes_in, compile}
use Rattle.translator.proofs.Entries.{TokenRight}
use Rattle.translator.proofs.Patterned.{patterns_right_lem}
use Rattle.translator.proofs.Sound.{Sound, SoundIn, a_leaf, a_group, a_unary, a_binary, a_call, no_more, one_more, size, pool_size, entries_some, leaves, skips_right_lem, good_at}

bytes_append : (xs ys : List ℕ) → Bytes xs → Bytes ys → Bytes (xs ++ ys)
bytes_append [] ys b c i = c i
bytes_append (x ∷ xs) ys b c zero = b 0
bytes_append (x ∷ xs) ys b c (suc i) = bytes_append xs ys (λ j. b (suc j)) c i

leaf_bytes_lem : (x : Token) → TokenRight x → Bytes (leaf_bytes x)
leaf_bytes_lem (name s e) r = printable_bytes s (both_true (leb 1 (length s) && leb (length s) 64) (printable s) r).1
leaf_bytes_lem (int32 z) r = λ i. omega arith
leaf_bytes_lem (int64 z) r = λ i. omega arith
leaf_bytes_lem (real x) r = λ i. omega arith
leaf_bytes_lem (text s) r = r
leaf_bytes_lem (symbol k) r = λ i. omega arith

mutual
  unfolding bytes_of

  pool_bytes_lem : {t : Tree} → Sound t → Bytes (bytes_of t)
  pool_bytes_lem (a_leaf {x} k r) = leaf_bytes_lem x r
  pool_bytes_lem (a_group d) = pool_bytes_lem d
  pool_bytes_lem (a_unary a d e) = pool_bytes_lem d
  pool_bytes_lem (a_binary {k} {t} {u} a d e f g) = bytes_append (bytes_of t) (bytes_of u) (pool_bytes_lem d) (pool_bytes_lem f)
  pool_bytes_lem (a_call a d) = pool_bytes_in d

  pool_bytes_in : {ts : Rattle.grammar.specs.Tree.Trees} → SoundIn ts → Bytes (bytes_in ts)
  pool_bytes_in no_more = λ i. omega arith
  pool_bytes_in (one_more {ts} {t} d e f) = bytes_append (bytes_in ts) (bytes_of t) (pool_bytes_in d) (pool_bytes_lem e)

module _ (edition : Edition) (t : Tree) (d : Sound t) (few : entries_of t ≤ 512) (small : pool_of t ≤ 4096) where
  pub limits : Limits (compile edition t)
  limits =
      let n = size t 0 in
      let p = pool_size t in
      let s = entries_some t in
      record {
        some_entry = omega arith;
        few = omega arith;
        fit = λ i h. (good_at t d small few i h).1;
        small = omega arith;
        bytes = pool_bytes_lem d;
      }

  pub decodes : decode (encode (compile edition t)) ≡ compile edition t
  decodes = decode_encode (compile edition t) limits

  pub compiled_passes : is_logic t ≡ true → forms_right t ≡ true → patterns_right t ≡ true → depth_of t ≤ 32 → check_of (encode (compile edition t)) ≡ true
  compiled_passes l f p h =
      check_encode (compile edition t) limits
      ∙ are_true _ _ (all_right (bytes_of t) (code_of 0 t) (λ i k. (good_at t d small few i k).0))
      (are_true _ _ (eq_shape _ _ (leaves d 0 [] (omega arith) ∙ rw l)) (are_true _ _ (skips_right_lem t d h) (patterns_right_lem t d f p)))
