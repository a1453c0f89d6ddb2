-- The header, the entries and the pool, one after the other, are the table; and what is judged decides the answer. Assumes nothing.
use Prim.Native.Nat.{ℕ, ◌+◌, ◌*◌, ◌≤◌, ◌<◌}
use native.Mathlib.Omega.{arith}
use mathlib.Core.Path.{◌≡◌, refl, sym, ap, ap₂, ◌∙◌}
use mathlib.Core.Bool.{Bool, true, false, cond, not, ◌&&◌}
use mathlib.Core.List.{List, ◌++◌, append_assoc}
use lib.Dec.{eqb, ltb}
use lib.ListN.{length, length-append}
use lib.Seq.{sets}
use borrow.Author.Tests.{eqb-true, lt-ltb, le-ltb, ltb-false, ne_eqb}
use Rattle.common.specs.Choice.{pick}
use Rattle.common.proofs.Stores.{sets_append}
use Rattle.word.specs.Word.{word_bytes}
use Rattle.word.proofs.Laws.{length_word_bytes}
use Rattle.opcode.specs.declared.Edition.{Edition}
use Rattle.table.specs.declared.Entry.{Entry}
use Rattle.table.specs.Table.{entries_bytes, table_kind, body_bytes, encode}
use Rattle.table.proofs.Encoding.{length_body, length_encode}
use Rattle.lexer.specs.Token.{Token}
use Rattle.grammar.specs.Tree.{Tree}
use Rattle.grammar.specs.Parse.{Result, ok, bad, level_of, parse_all}
use Rattle.grammar.specs.Size.{entries_of, pool_of}
use Rattle.grammar.specs.Function.{or_else}
use Rattle.grammar.specs.Judge.{forms_right, patterns_right, kinds_right, is_logic}
use Rattle.grammar.specs.Answer.{Found, found_of}
use Rattle.translator.specs.Compile.{code_of, bytes_of, compile}
use Rattle.translator.specs.Expand.{expand, pooled}
use Rattle.translator.specs.Emit.{entry_start, Coded, table_answer, header_bytes, refusal_by}
use Rattle.translator.specs.Translation.{Outcome, refusal_of, of_tree, refusal, answer_of, Answers, translation_in, Translated}
use Rattle.translator.proofs.Sound.{size, pool_size}

-- ---- the header

pub header_written : (edition : Edition) (s s1 s2 s3 s4 : List ℕ) (v k n p : ℕ) → v ≡ 6 + 12 * n + p → k ≡ table_kind edition → s1 ≡ sets s 0 (word_bytes 4 v) → s2 ≡ sets s1 4 (word_bytes 2 k) → s3 ≡ sets s2 6 (word_bytes 2 n) → s4 ≡ sets s3 8 (word_bytes 2 p)
    → s4 ≡ sets s 0 (header_bytes edition n p)
unfolding word_bytes
header_written edition s s1 s2 s3 s4 v k n p e f a b c d =
    d
    ∙ ap (λ (l : List ℕ). sets l 8 (word_bytes 2 p))
    (c ∙ ap (λ (l : List ℕ). sets l 6 (word_bytes 2 n)) (b ∙ ap₂ (λ (l : List ℕ) (m : ℕ). sets l 4 (word_bytes 2 m)) (a ∙ ap (λ (w : ℕ). sets s 0 (word_bytes 4 w)) e) f))

length_header : (edition : Edition) (n p : ℕ) → length (header_bytes edition n p) ≡ 10
length_header edition n p = simp (length-append, length_word_bytes)

-- ---- the whole table

module _ (edition : Edition) (t : Tree) where
  pub table_size : length (encode (compile edition t)) ≡ entry_start (entries_of t) + pool_of t
  table_size = omega (arith, length_encode (compile edition t), size t 0, pool_size t)

  table_is : encode (compile edition t) ≡ header_bytes edition (entries_of t) (pool_of t) ++ (entries_bytes (code_of 0 t) ++ bytes_of t)
  unfolding encode body_bytes
  table_is =
      let n = size t 0 in
      let p = pool_size t in
      let b : length (body_bytes (compile edition t)) ≡ 6 + 12 * entries_of t + pool_of t = omega (arith, length_body (compile edition t), n, p) in
      rw (b, n, p) (simp append_assoc)

-- the whole of the tokens is one expression
pub whole_level : (ks : List Token) {t : Tree} {n : ℕ} → parse_all ks ≡ ok t n → (level_of ks 0 0 ≡ ok t (length ks)) × (n ≡ length ks)
unfolding parse_all
whole_level ks {t} {n} e = go (level_of ks 0 0) refl e
  where
    go : (x : Result) → level_of ks 0 0 ≡ x → Rattle.grammar.specs.Parse.and_then x (λ u j. pick (eqb j (length ks)) (λ _. ok u j) (λ _. bad j)) ≡ ok t n → (level_of ks 0 0 ≡ ok t (length ks)) × (n ≡ length ks)
    go (ok u j) q h = by (eqb j (length ks)) refl h
      where
        by : (b : Bool) → eqb j (length ks) ≡ b → pick b (λ _. ok u j) (λ _. bad j) ≡ ok t n → (level_of ks 0 0 ≡ ok t (length ks)) × (n ≡ length ks)
        by true f g =
            let a = eqb-true j (length ks) f in
            let same : u ≡ t = cc in
            let at : j ≡ n = cc in
            (q ∙ ap₂ ok same a, sym at ∙ a)
        by false f g = let z : ◌≡◌ {A = ℕ} 0 1 = cc in absurd (omega arith)
    go (bad p) q h = let z : ◌≡◌ {A = ℕ} 0 1 = cc in absurd (omega arith)

-- header, entries and pool are written one after the other
pub table_written : (edition : Edition) (n pool : ℕ) (entries bytes was : List ℕ) {head now : List ℕ} → length entries ≡ 12 * n → head ≡ sets was 0 (header_bytes edition n pool)
    → now ≡ sets (sets head 10 entries) (entry_start n) bytes → now ≡ sets was 0 (header_bytes edition n pool ++ (entries ++ bytes))
table_written edition n pool entries bytes was {head} {now} le h q =
    let header = header_bytes edition n pool in
    let lh = length_header edition n pool in
    let two : now ≡ sets head 10 (entries ++ bytes) = q ∙ ap (λ (m : ℕ). sets (sets head 10 entries) m bytes) (omega (arith, le)) ∙ sym (sets_append entries bytes head 10) in
    two ∙ ap (λ (l : List ℕ). sets l 10 (entries ++ bytes)) h ∙ ap (λ (m : ℕ). sets (sets was 0 header) m (entries ++ bytes)) (omega (arith, lh)) ∙ sym (sets_append header (entries ++ bytes) was 0)

-- ---- the refusals of a tree

module _ (f : Found) (room : ℕ) where
  pub by_4 : not f.forms ≡ true → 4 ≡ refusal_by f room
  by_4 a = rw a

  pub by_18 : not f.forms ≡ false → not f.patterns ≡ true → 18 ≡ refusal_by f room
  by_18 a p = rw (a, p)

  pub by_5 : not f.forms ≡ false → not f.patterns ≡ false → not (f.kinds && f.logic) ≡ true → 5 ≡ refusal_by f room
  by_5 a p b = rw (a, p, b)

  pub by_7 : not f.forms ≡ false → not f.patterns ≡ false → not (f.kinds && f.logic) ≡ false → 512 < f.entries → 7 ≡ refusal_by f room
  by_7 a p b c = rw (a, p, b, lt-ltb 512 f.entries c)

  pub by_8 : not f.forms ≡ false → not f.patterns ≡ false → not (f.kinds && f.logic) ≡ false → f.entries ≤ 512 → 32 < f.depth → 8 ≡ refusal_by f room
  by_8 a p b c d = rw (a, p, b, le-ltb 512 f.entries c, lt-ltb 32 f.depth d)

  pub by_9 : not f.forms ≡ false → not f.patterns ≡ false → not (f.kinds && f.logic) ≡ false → f.entries ≤ 512 → f.depth ≤ 32 → room < entry_start f.entries + f.pool → 9 ≡ refusal_by f room
  by_9 a p b c d e = rw (a, p, b, le-ltb 512 f.entries c, le-ltb 32 f.depth d, lt-ltb room (entry_start f.entries + f.pool) e)

  pub by_0 : not f.forms ≡ false → not f.patterns ≡ false → not (f.kinds && f.logic) ≡ false → f.entries ≤ 512 → f.depth ≤ 32 → entry_start f.entries + f.pool ≤ room → 0 ≡ refusal_by f room
  by_0 a p b c d e = rw (a, p, b, le-ltb 512 f.entries c, le-ltb 32 f.depth d, le-ltb room (entry_start f.entries + f.pool) e)

-- no refusal applies
pub record Free (f : Found) (room : ℕ) : Type 0 where
  pub forms : f.forms ≡ true
  pub patterns : f.patterns ≡ true
  pub kinds : f.kinds ≡ true
  pub logic : f.logic ≡ true
  pub few : f.entries ≤ 512
  pub shallow : f.depth ≤ 32
  pub fits : entry_start f.entries + f.pool ≤ room

pub free : (f : Found) (room : ℕ) → refusal_by f room ≡ 0 → Free f room
free f room e = go f.forms f.patterns f.kinds f.logic (ltb 512 f.entries) (ltb 32 f.depth) (ltb room (entry_start f.entries + f.pool)) refl refl refl refl refl refl refl e
  where
    go : (a x b c d g h : Bool) → f.forms ≡ a → f.patterns ≡ x → f.kinds ≡ b → f.logic ≡ c → ltb 512 f.entries ≡ d → ltb 32 f.depth ≡ g → ltb room (entry_start f.entries + f.pool) ≡ h
        → ◌≡◌ {A = ℕ} (or_else (cond (not a) 4 (cond (not x) 18 (cond (not (b && c)) 5 (cond d 7 (cond g 8 0))))) (cond h 9 0)) 0 → Free f room
    go false x b c d g h p y q r s t u z = absurd (omega arith)
    go true false b c d g h p y q r s t u z = absurd (omega arith)
    go true true false c d g h p y q r s t u z = absurd (omega arith)
    go true true true false d g h p y q r s t u z = absurd (omega arith)
    go true true true true true g h p y q r s t u z = absurd (omega arith)
    go true true true true false true h p y q r s t u z = absurd (omega arith)
    go true true true true false false true p y q r s t u z = absurd (omega arith)
    go true true true true false false false p y q r s t u z =
        record { forms = p; patterns = y; kinds = q; logic = r; few = ltb-false 512 f.entries s; shallow = ltb-false 32 f.depth t; fits = ltb-false room (entry_start f.entries + f.pool) u }

pub refusal_by_lem : (edition : Edition) (t : Tree) (room : ℕ) → refusal_of edition t room ≡ refusal_by (found_of t) room
unfolding refusal_of
refusal_by_lem edition t room = rw (table_size edition t)

-- ---- the answer of a tree

module _ (edition : Edition) (t : Tree) (room : ℕ) where
  pub tree_refused : {n : ℕ} {was : List ℕ} {r : Translated} → refusal_of edition t room ≡ n → (n ≡ 0 → ⊥) → r ≡ answer_of (refusal n 0) → Answers (of_tree edition t room) was was r
  unfolding of_tree
  tree_refused {n} e z q = rw (e, ne_eqb n 0 z) (record { answer = q; bytes = refl })

  pub tree_table : {was now : List ℕ} {r : Translated} → refusal_of edition t room ≡ 0 → r ≡ table_answer (entries_of t) (pool_of t) → now ≡ sets was 0 (encode (compile edition t)) → Answers (of_tree edition t room) was now r
  unfolding of_tree
  tree_table e q b = rw e (record { answer = q ∙ ap (λ (x : ℕ). record { number = 0; place = 0; length = x }) (sym (table_size edition t)); bytes = b })

pub answers_as : {o p : Outcome} {was now : List ℕ} {r : Translated} → o ≡ p → Answers p was now r → Answers o was now r
answers_as e a = rw e a

-- of codes to which the refusals up to 8 do not apply
module _ {s places sizes codes : List ℕ} {pool : ℕ} (k : Coded s places sizes codes pool) (edition : Edition) (room : ℕ) where
  abbrev t : Tree
  t = k.tree

  -- the tests before 7
  forms_right_lem : not (forms_right t) ≡ false
  forms_right_lem = rw k.right.forms

  patterns_right_lem : not (patterns_right t) ≡ false
  patterns_right_lem = rw k.right.patterns

  kinds_right_lem : not (kinds_right t && is_logic t) ≡ false
  kinds_right_lem = rw (k.right.kinds, k.right.logic)

  pub coded_9 : {was : List ℕ} {r : Translated} → room < entry_start (length codes) + pool → r ≡ answer_of (refusal 9 0) → Answers (translation_in edition s room) was was r
  coded_9 l q =
      let n : refusal_of edition t room ≡ 9 =
      refusal_by_lem edition t room ∙ sym (by_9 (found_of t) room forms_right_lem patterns_right_lem kinds_right_lem k.few k.low (omega (arith, k.count, k.pool_is))) in
      answers_as (k.outcome edition room) (tree_refused edition t room n (λ z. omega arith) q)

  pub coded_table : {was now : List ℕ} {r : Translated} → entry_start (length codes) + pool ≤ room → r ≡ table_answer (length codes) pool
      → now ≡ sets was 0 (header_bytes edition (length codes) pool ++ (entries_bytes (expand s places codes 0 0) ++ pooled s places codes 0)) → Answers (translation_in edition s room) was now r
  coded_table {was} {now} l q b =
      let n : refusal_of edition t room ≡ 0 =
      refusal_by_lem edition t room ∙ sym (by_0 (found_of t) room forms_right_lem patterns_right_lem kinds_right_lem k.few k.low (omega (arith, k.count, k.pool_is))) in
      let all : header_bytes edition (length codes) pool ++ (entries_bytes (expand s places codes 0 0) ++ pooled s places codes 0) ≡ header_bytes edition (entries_of t) (pool_of t) ++ (entries_bytes (code_of 0 t) ++ bytes_of t) =
      ap₂ (λ (x y : List ℕ). x ++ y) (ap₂ (header_bytes edition) k.count k.pool_is) (ap₂ (λ (x : List Entry) (y : List ℕ). entries_bytes x ++ y) k.entries k.bytes) in
      let filled : now ≡ sets was 0 (encode (compile edition t)) = b ∙ ap (sets was 0) (all ∙ sym (table_is edition t)) in
      answers_as (k.outcome edition room) (tree_table edition t room n (q ∙ ap₂ table_answer k.count k.pool_is) filled)

  -- the pool is as long as it is said to be
  pub coded_pool : pool ≡ length (pooled s places codes 0)
  coded_pool = k.pool_is ∙ sym (ap length k.bytes ∙ pool_size t)
