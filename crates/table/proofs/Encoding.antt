-- The bytes of a program, and the program of bytes: each is read back as it was written. Assumes nothing.
use mathlib.Core.Path.{◌≡◌, refl, sym, ap, ap₂, ◌∙◌}
use mathlib.Core.Bool.{cond}
use mathlib.Core.List.{List, [], ◌∷◌, ◌++◌, append_assoc}
use Prim.Native.Nat.{ℕ, zero, suc, ◌+◌, ◌*◌, ◌^◌, ◌/◌, ◌≤◌, ◌<◌}
use native.Mathlib.Omega.{arith}
use lib.Dec.{lit<, eqb}
use lib.ListN.{length, get_or, take, drop, length-append, take-append-drop}
use lib.Seq.{drop_at, take-add, drop-drop, get_or-drop}
use Rattle.word.specs.Word.{word_at, word_bytes, Bytes}
use Rattle.word.proofs.Laws.{length_word_bytes}
use Rattle.word.proofs.Theorems.{bytes_read, read_bytes_lem, bounded}
use Rattle.opcode.specs.declared.Edition.{Edition}
use Rattle.table.specs.Table.{Entry, blank, Program, entry_bytes, entries_bytes, table_kind, body_bytes, encode, kind_at, edition_of, count_of, pool_length_of, entry_at, entries_from, entries_of, pool_of, decode}
use Rattle.table.specs.Theorems.{Fits, Limits}
use Rattle.table.proofs.Reading.{length_entries, entry_of}
use Rattle.table.proofs.Laid.{Laid, pool_length}

-- ---- lengths

length_entry : (e : Entry) → length (entry_bytes e) ≡ 12
length_entry e = simp (length-append, length_word_bytes)

length_entries_bytes : (es : List Entry) → length (entries_bytes es) ≡ 12 * length es
unfolding entries_bytes
length_entries_bytes [] = refl
length_entries_bytes (e ∷ es) =
    let ih = length_entries_bytes es in
    let l = length_entry e in
    omega (arith, length-append (entry_bytes e) (entries_bytes es))

module _ (p : Program) where
  pub length_body : length (body_bytes p) ≡ 6 + 12 * length p.entries + length p.pool
  unfolding body_bytes
  length_body = simp (length-append, length_word_bytes, length_entries_bytes) (omega arith)

  pub length_encode : length (encode p) ≡ 10 + 12 * length p.entries + length p.pool
  unfolding encode
  length_encode = simp (length-append, length_word_bytes, length_body) (omega arith)

-- ---- reading what was written

-- a word that stands at a known place
word_at_lem : (k v at : ℕ) (pre post s : List ℕ) → s ≡ pre ++ (word_bytes k v ++ post) → length pre ≡ at → v < 256 ^ k → word_at k s at ≡ v
word_at_lem k v at pre post s e l h = rw (e, ← l) (bytes_read k v pre post h)

entry_read : (i : ℕ) (e : Entry) (pre post s : List ℕ) → s ≡ pre ++ (entry_bytes e ++ post) → length pre ≡ 10 + 12 * i → Fits e → entry_at s i ≡ e
entry_read i e pre post s q l f =
    let o = word_at_lem 2 e.op (10 + 12 * i) pre (word_bytes 2 e.a ++ (word_bytes 8 e.b ++ post)) s (q ∙ simp append_assoc) l f.op in
    let a =
    word_at_lem 2 e.a (12 + 12 * i) (pre ++ word_bytes 2 e.op) (word_bytes 8 e.b ++ post) s (q ∙ simp append_assoc) (simp (length-append, length_word_bytes) (omega arith)) f.a in
    let b =
    word_at_lem 8 e.b (14 + 12 * i) (pre ++ (word_bytes 2 e.op ++ word_bytes 2 e.a)) post s (q ∙ simp append_assoc) (simp (length-append, length_word_bytes) (omega arith)) f.b in
    rw (o, a, b)

entries_read : (es : List Entry) (i : ℕ) (pre post s : List ℕ) → s ≡ pre ++ (entries_bytes es ++ post) → length pre ≡ 10 + 12 * i
    → ((k : ℕ) → k < length es → Fits (get_or es k blank)) → entries_from s i (length es) ≡ es
unfolding entries_bytes entries_from
entries_read [] i pre post s q l f = refl
entries_read (e ∷ es) i pre post s q l f =
    let x = entry_read i e pre (entries_bytes es ++ post) s (q ∙ simp append_assoc) l (f 0 (omega arith)) in
    let y =
    entries_read es (suc i) (pre ++ entry_bytes e) post s (q ∙ simp append_assoc) (simp (length-append, length_word_bytes) (omega arith)) (λ k h. f (suc k) (omega arith)) in
    ap₂ (λ (z : Entry) (zs : List Entry). z ∷ zs) x y

-- ---- the kind of an edition

kind_small : (e : Edition) → table_kind e < 256 ^ 2
kind_small Edition.First = lit< tt
kind_small Edition.Second = lit< tt

kind_tells : (e : Edition) → cond (eqb (table_kind e) (table_kind Edition.Second)) Edition.Second Edition.First ≡ e
kind_tells Edition.First = refl
kind_tells Edition.Second = refl

-- the header of what was written
module _ (p : Program) (l : Limits p) where
  word_read : word_at 4 (encode p) 0 ≡ length (body_bytes p)
  unfolding encode
  word_read = word_at_lem 4 (length (body_bytes p)) 0 [] (body_bytes p) (encode p) refl refl (let m = l.few in let k = l.small in rw (length_body p) (omega arith))

  kind_read : kind_at (encode p) ≡ table_kind p.edition
  unfolding encode body_bytes
  kind_read = word_at_lem 2 (table_kind p.edition) 4 (word_bytes 4 (length (body_bytes p))) _ (encode p) refl (length_word_bytes 4 (length (body_bytes p))) (kind_small p.edition)

  edition_same : edition_of (encode p) ≡ p.edition
  edition_same = rw kind_read (kind_tells p.edition)

  count_read : count_of (encode p) ≡ length p.entries
  unfolding encode body_bytes
  count_read =
      word_at_lem 2 (length p.entries) 6 (word_bytes 4 (length (body_bytes p)) ++ word_bytes 2 (table_kind p.edition)) (word_bytes 2 (length p.pool) ++ (entries_bytes p.entries ++ p.pool)) (encode p) (simp append_assoc)
      (simp (length-append, length_word_bytes)) (let m = l.few in omega arith)

  size_read : pool_length_of (encode p) ≡ length p.pool
  unfolding encode body_bytes
  size_read =
      word_at_lem 2 (length p.pool) 8 (word_bytes 4 (length (body_bytes p)) ++ (word_bytes 2 (table_kind p.edition) ++ word_bytes 2 (length p.entries))) (entries_bytes p.entries ++ p.pool) (encode p) (simp append_assoc)
      (simp (length-append, length_word_bytes)) (let m = l.small in omega arith)

  entries_same : entries_of (encode p) ≡ p.entries
  unfolding encode body_bytes
  entries_same =
      rw count_read
      (entries_read p.entries 0 (word_bytes 4 (length (body_bytes p)) ++ (word_bytes 2 (table_kind p.edition) ++ (word_bytes 2 (length p.entries) ++ word_bytes 2 (length p.pool)))) p.pool (encode p) (simp append_assoc)
      (simp (length-append, length_word_bytes)) l.fit)

  pool_same : pool_of (encode p) ≡ p.pool
  unfolding encode body_bytes
  pool_same =
      let pre = word_bytes 4 (length (body_bytes p)) ++ (word_bytes 2 (table_kind p.edition) ++ (word_bytes 2 (length p.entries) ++ (word_bytes 2 (length p.pool) ++ entries_bytes p.entries))) in
      let e : encode p ≡ pre ++ p.pool = simp append_assoc in
      rw (count_read, e) (drop_at pre p.pool (10 + 12 * length p.entries) (simp (length-append, length_word_bytes, length_entries_bytes) (omega arith)))

  pub read_written : decode (encode p) ≡ p
  read_written = λ i. record { edition = edition_same i; entries = entries_same i; pool = pool_same i }

  pub laid_out : Laid (encode p)
  laid_out =
      let len = length_encode p in
      let body = length_body p in
      record {
        head = omega arith;
        word = omega (arith, word_read);
        kind = rw edition_same kind_read;
        some_entry = rw count_read l.some_entry;
        few = rw count_read l.few;
        small = rw size_read l.small;
        whole = rw (count_read, size_read) (sym len);
      }

-- ---- writing what was read

-- a part and what follows it
part_rest : (k at : ℕ) (s : List ℕ) → take k (drop at s) ++ drop (at + k) s ≡ drop at s
part_rest k at s = rw (← drop-drop k at s) (take-append-drop k (drop at s))

part_join : (j k at : ℕ) (s : List ℕ) → take j (drop at s) ++ take k (drop (at + j) s) ≡ take (j + k) (drop at s)
part_join j k at s = rw (← drop-drop j at s) (sym (take-add j k (drop at s)))

module _ (s : List ℕ) (by : Bytes s) where
  entry_written : (i : ℕ) → 22 + 12 * i ≤ length s → entry_bytes (entry_at s i) ≡ take 12 (drop (10 + 12 * i) s)
  entry_written i h =
      let at = 10 + 12 * i in
      let e1 : 12 + 12 * i ≡ at + 2 = omega arith in
      let e2 : 14 + 12 * i ≡ at + 2 + 2 = omega arith in
      let o = read_bytes_lem 2 at s by (omega arith) in
      let a = read_bytes_lem 2 (at + 2) s by (omega arith) in
      let b = read_bytes_lem 8 (at + 2 + 2) s by (omega arith) in
      rw (e1, e2, o, a, b, part_join 2 8 (at + 2) s) (part_join 2 10 at s)

  entries_written : (n i : ℕ) → 10 + 12 * i + 12 * n ≤ length s → entries_bytes (entries_from s i n) ≡ take (12 * n) (drop (10 + 12 * i) s)
  unfolding entries_bytes entries_from
  entries_written zero i h = refl
  entries_written (suc n) i h =
      let e1 : 12 * suc n ≡ 12 + 12 * n = omega arith in
      let e2 : 10 + 12 * suc i ≡ 10 + 12 * i + 12 = omega arith in
      let ih = entries_written n (suc i) (omega arith) in
      rw (e1, entry_written i (omega arith), ih, e2) (part_join 12 (12 * n) (10 + 12 * i) s)

  module _ (l : Laid s) where
    body_length : length (body_bytes (decode s)) ≡ word_at 4 s 0
    body_length =
        let w = l.whole in
        let h = l.word in
        let len = length_body (decode s) in
        let c = length_entries s in
        omega (arith, pool_length s l)

    pub written_read : encode (decode s) ≡ s
    unfolding encode body_bytes
    written_read =
        let w = l.whole in
        let h = l.head in
        let e4 : word_bytes 4 (length (body_bytes (decode s))) ≡ take 4 (drop 0 s) = ap (word_bytes 4) body_length ∙ read_bytes_lem 4 0 s by (omega arith) in
        let e2 : word_bytes 2 (table_kind (edition_of s)) ≡ take 2 (drop 4 s) = ap (word_bytes 2) (sym l.kind) ∙ read_bytes_lem 2 4 s by (omega arith) in
        let en : word_bytes 2 (length (entries_of s)) ≡ take 2 (drop 6 s) = ap (word_bytes 2) (length_entries s) ∙ read_bytes_lem 2 6 s by (omega arith) in
        let ep : word_bytes 2 (length (pool_of s)) ≡ take 2 (drop 8 s) = ap (word_bytes 2) (pool_length s l) ∙ read_bytes_lem 2 8 s by (omega arith) in
        let ee : entries_bytes (entries_of s) ≡ take (12 * count_of s) (drop 10 s) = entries_written (count_of s) 0 (omega arith) in
        rw (e4, e2, en, ep, ee, part_rest (12 * count_of s) 10 s, part_rest 2 8 s, part_rest 2 6 s, part_rest 2 4 s, part_rest 4 0 s)

    pub within_limits : Limits (decode s)
    within_limits =
        record {
          some_entry = rw (length_entries s) l.some_entry;
          few = rw (length_entries s) l.few;
          fit = λ i h. let k : i < count_of s = rw (length_entries s) at h in rw (entry_of s i k) (record { op = bounded 2 (10 + 12 * i) s by; a = bounded 2 (12 + 12 * i) s by; b = bounded 8 (14 + 12 * i) s by });
          small = rw (pool_length s l) l.small;
          bytes = λ i. rw (get_or-drop (10 + 12 * count_of s) s i 0) (by (10 + 12 * count_of s + i));
        }

-- ---- what is written is bytes

bytes_append : (xs ys : List ℕ) → Bytes xs → Bytes ys → Bytes (xs ++ ys)
bytes_append [] ys b c i = c i
bytes_append (x ∷ xs) ys b c zero = b 0
bytes_append (x ∷ xs) ys b c (suc i) = bytes_append xs ys (λ j. b (suc j)) c i

bytes_word : (k v : ℕ) → Bytes (word_bytes k v)
unfolding word_bytes
bytes_word zero v i = omega arith
bytes_word (suc k) v zero = omega arith
bytes_word (suc k) v (suc i) = bytes_word k (v / 256) i

-- a word before bytes
word_first : (k v : ℕ) (ys : List ℕ) → Bytes ys → Bytes (word_bytes k v ++ ys)
word_first k v ys b = bytes_append (word_bytes k v) ys (bytes_word k v) b

bytes_entries : (es : List Entry) → Bytes (entries_bytes es)
unfolding entries_bytes
bytes_entries [] = λ i. omega arith
bytes_entries (e ∷ es) =
    bytes_append (entry_bytes e) (entries_bytes es) (word_first 2 e.op (word_bytes 2 e.a ++ word_bytes 8 e.b) (word_first 2 e.a (word_bytes 8 e.b) (bytes_word 8 e.b))) (bytes_entries es)

pub written_bytes_lem : (p : Program) → Bytes p.pool → Bytes (encode p)
unfolding encode body_bytes
written_bytes_lem p b =
    let t = entries_bytes p.entries ++ p.pool in
    let u = word_bytes 2 (length p.pool) ++ t in
    let v = word_bytes 2 (length p.entries) ++ u in
    word_first 4 (length (body_bytes p)) (word_bytes 2 (table_kind p.edition) ++ v)
    (word_first 2 (table_kind p.edition) v
    (word_first 2 (length p.entries) u
    (word_first 2 (length p.pool) t (bytes_append (entries_bytes p.entries) p.pool (bytes_entries p.entries) b))))
