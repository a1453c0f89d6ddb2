-- Right bytes are the bytes of their records, and the bytes of good records are right. Assumes nothing.
use mathlib.Core.Path.{◌≡◌, refl, sym, ap, ap₂, ◌∙◌}
use mathlib.Core.Bool.{Bool, true, false, ◌&&◌}
use mathlib.Core.List.{List, [], ◌∷◌, ◌++◌, map, append_assoc}
use mathlib.Core.Option.{none, some}
use Prim.Native.Nat.{ℕ, zero, suc, ◌+◌, ◌-◌, ◌≤◌, ◌<◌, ◌^◌}
use native.Mathlib.Omega.{arith}
use lib.Dec.{eqb, leb, ltb}
use lib.ListN.{length, get_or, take, drop, length-append, length-drop, get_or-map}
use lib.Seq.{drop_at, take-append_seam, length-take-le}
use borrow.Author.Tests.{le-leb, lt-ltb, eq-eqb, leb-true, ltb-true, eqb-true}
use Rattle.word.specs.Word.{word_at, word_bytes, Bytes}
use Rattle.word.proofs.Laws.{length_word_bytes}
use Rattle.word.proofs.Theorems.{bytes_read, read_bytes_lem}
use Rattle.table.proofs.Tests.{both_true, are_true}
use Rattle.common.specs.Choice.{pick}
use Rattle.common.proofs.Choice.{false_true}
use Rattle.notice.proofs.Fields.{split_drop}
use Rattle.store.specs.Layout.{Rec, Place, mark, rec_bytes, recs_bytes, header_bytes, store_bytes, written, size_at, kind_at, next_at, rec_at, end_of, count_of, records_from, records_of, put, free, marks_of, header_right, stands_at, right_from, right_of}
use Rattle.store.specs.Theorems.{Good}
use Rattle.store.proofs.Places.{length_rec, recs_many}
use Rattle.store.proofs.Starts.{Zeros, zeros_at}

-- ---- one record, by its tests

pub record Stands (marks s : List ℕ) (end at : ℕ) : Type 0 where
  pub here : at + 4 ≤ end
  pub two : 2 ≤ size_at s at
  pub within : next_at s at ≤ end
  pub low : 256 ≤ kind_at s at
  pub high : kind_at s at < 320
  pub unmarked : get_or marks (kind_at s at - 256) 0 ≡ 0

pub stands_parts : (marks s : List ℕ) (end at : ℕ) → stands_at marks s end at ≡ true → Stands marks s end at
unfolding stands_at
stands_parts marks s end at e =
    let a = both_true _ _ e in
    let b = both_true _ _ a.1 in
    let c = both_true _ _ b.1 in
    let d = both_true _ _ c.1 in
    let f = both_true _ _ d.1 in
    record {
      here = leb-true _ _ a.0;
      two = leb-true _ _ b.0;
      within = leb-true _ _ c.0;
      low = leb-true _ _ d.0;
      high = ltb-true _ _ f.0;
      unmarked = eqb-true _ _ f.1;
    }

pub stands_true : (marks s : List ℕ) (end at : ℕ) → Stands marks s end at → stands_at marks s end at ≡ true
unfolding stands_at
stands_true marks s end at l =
    are_true _ _ (le-leb _ _ l.here)
    (are_true _ _ (le-leb _ _ l.two)
    (are_true _ _ (le-leb _ _ l.within)
    (are_true _ _ (le-leb _ _ l.low)
    (are_true _ _ (lt-ltb _ _ l.high) (eq-eqb _ _ l.unmarked)))))

mark_none : (p : Place) → mark p ≡ 0 → p ≡ none
mark_none none e = refl
mark_none (some t) e = absurd (omega arith)

pub unmarked_none : (ps : List Place) (n : ℕ) → get_or (marks_of ps) n 0 ≡ 0 → get_or ps n none ≡ none
unfolding marks_of
unmarked_none ps n e = mark_none (get_or ps n none) (sym (get_or-map mark ps n none) ∙ e)

none_unmarked : (ps : List Place) (n : ℕ) → get_or ps n none ≡ none → get_or (marks_of ps) n 0 ≡ 0
unfolding marks_of
none_unmarked ps n e = get_or-map mark ps n none ∙ ap mark e

-- ---- the walk, a record at a time

pub right_end : (ps : List Place) (s : List ℕ) (end at : ℕ) → right_from 0 ps s end at ≡ eqb at end
unfolding right_from
right_end ps s end at = refl

pub right_more : (n : ℕ) (ps : List Place) (s : List ℕ) (end at : ℕ) → stands_at (marks_of ps) s end at ≡ true
    → right_from (suc n) ps s end at ≡ right_from n (put ps (rec_at s at)) s end (next_at s at)
unfolding right_from
right_more n ps s end at e = rw e

pub right_stop : (n : ℕ) (ps : List Place) (s : List ℕ) (end at : ℕ) → stands_at (marks_of ps) s end at ≡ false → right_from (suc n) ps s end at ≡ false
unfolding right_from
right_stop n ps s end at e = rw e

pub right_stands : (n : ℕ) (ps : List Place) (s : List ℕ) (end at : ℕ) → right_from (suc n) ps s end at ≡ true
    → (stands_at (marks_of ps) s end at ≡ true) × (right_from n (put ps (rec_at s at)) s end (next_at s at) ≡ true)
unfolding right_from
right_stands n ps s end at e = go (stands_at (marks_of ps) s end at) refl e
  where
    go : (b : Bool) → stands_at (marks_of ps) s end at ≡ b → pick b (λ _. right_from n (put ps (rec_at s at)) s end (next_at s at)) (λ _. false) ≡ true
        → (stands_at (marks_of ps) s end at ≡ true) × (right_from n (put ps (rec_at s at)) s end (next_at s at) ≡ true)
    go true p h = (p, h)
    go false p h = false_true h

pub records_end : (s : List ℕ) (at : ℕ) → records_from 0 s at ≡ []
unfolding records_from
records_end s at = refl

pub records_more : (n : ℕ) (s : List ℕ) (at : ℕ) → records_from (suc n) s at ≡ rec_at s at ∷ records_from n s (next_at s at)
unfolding records_from
records_more n s at = refl

-- the table's length
pub table_length : (marks s : List ℕ) (end at : ℕ) → end ≤ length s → Stands marks s end at → length (rec_at s at).table ≡ size_at s at - 2
table_length marks s end at f l = length-take-le (size_at s at - 2) (drop (at + 4) s) (omega (arith, length-drop (at + 4) s, l.within, l.two))

-- ---- what the walk finds

pub record Parsed (n : ℕ) (ps : List Place) (s : List ℕ) (end at : ℕ) : Type 0 where
  pub good : Good ps (records_from n s at)
  pub size : at + length (recs_bytes (records_from n s at)) ≡ end
  pub count : length (records_from n s at) ≡ n

module _ (s : List ℕ) (end : ℕ) (fits : end ≤ length s) (short : end ≤ 65536) where
  pub parsed : (n : ℕ) (ps : List Place) (at : ℕ) → right_from n ps s end at ≡ true → Parsed n ps s end at
  unfolding Good records_from
  parsed zero ps at e = record { good = tt; size = let z = eqb-true at end (sym (right_end ps s end at) ∙ e) in omega arith; count = refl }
  parsed (suc n) ps at e =
      let h = right_stands n ps s end at e in
      let l = stands_parts (marks_of ps) s end at h.0 in
      let t = table_length (marks_of ps) s end at fits l in
      let r = rec_at s at in
      let ih = parsed n (put ps r) (next_at s at) h.1 in
      record {
        good = (omega (arith, l.low, l.high), omega (arith, t, l.within, l.two), unmarked_none ps (kind_at s at - 256) l.unmarked, ih.good);
        size = omega (arith, ih.size, t, l.two, length_rec r, length-append (rec_bytes r) (recs_bytes (records_from n s (next_at s at))));
        count = ap suc ih.count;
      }

  module _ (bytes : Bytes s) where
    pub rec_written : (marks : List ℕ) (at : ℕ) → Stands marks s end at → drop at s ≡ rec_bytes (rec_at s at) ++ drop (next_at s at) s
    rec_written marks at l =
        let two = l.two in
        let within = l.within in
        let low = l.low in
        let e1 : drop at s ≡ word_bytes 2 (size_at s at) ++ drop (at + 2) s = split_drop 2 at s ∙ ap (λ (t : List ℕ). t ++ drop (at + 2) s) (sym (read_bytes_lem 2 at s bytes (omega arith))) in
        let i2 : at + 2 + 2 ≡ at + 4 = omega arith in
        let i3 : at + 4 + (size_at s at - 2) ≡ next_at s at = omega arith in
        let e2 : drop (at + 2) s ≡ word_bytes 2 (kind_at s at) ++ drop (at + 4) s =
        split_drop 2 (at + 2) s ∙ ap₂ (λ (t : List ℕ) (n : ℕ). t ++ drop n s) (sym (read_bytes_lem 2 (at + 2) s bytes (omega arith))) i2 in
        let e3 : drop (at + 4) s ≡ (rec_at s at).table ++ drop (next_at s at) s =
        split_drop (size_at s at - 2) (at + 4) s ∙ ap (λ (n : ℕ). (rec_at s at).table ++ drop n s) i3 in
        let z : size_at s at ≡ 2 + length (rec_at s at).table = omega (arith, table_length marks s end at fits l) in
        let k : kind_at s at ≡ 256 + (rec_at s at).number = omega arith in
        e1 ∙ (ap₂ (λ (m : ℕ) (t : List ℕ). word_bytes 2 m ++ t) z (e2 ∙ ap₂ (λ (m : ℕ) (t : List ℕ). word_bytes 2 m ++ t) k e3)
        ∙ simp append_assoc)

    pub recs_written : (n : ℕ) (ps : List Place) (at : ℕ) → right_from n ps s end at ≡ true → drop at s ≡ recs_bytes (records_from n s at) ++ drop end s
    unfolding records_from
    recs_written zero ps at e = ap (λ (i : ℕ). drop i s) (eqb-true at end (sym (right_end ps s end at) ∙ e))
    recs_written (suc n) ps at e =
        let h = right_stands n ps s end at e in
        let l = stands_parts (marks_of ps) s end at h.0 in
        let r = rec_at s at in
        rec_written (marks_of ps) at l
        ∙ ap (λ (t : List ℕ). rec_bytes r ++ t) (recs_written n (put ps r) (next_at s at) h.1)
        ∙ sym (append_assoc (rec_bytes r) (recs_bytes (records_from n s (next_at s at))) (drop end s))

-- ---- a record between other bytes

module _ (p q : List ℕ) (r : Rec) (few : r.number < 64) (short : length r.table ≤ 65533) where
  abbrev size : ℕ
  size = 2 + length r.table

  abbrev kind : ℕ
  kind = 256 + r.number

  abbrev whole : List ℕ
  whole = p ++ (rec_bytes r ++ q)

  from_size : whole ≡ p ++ (word_bytes 2 size ++ (word_bytes 2 kind ++ (r.table ++ q)))
  from_size = simp append_assoc

  from_kind : whole ≡ (p ++ word_bytes 2 size) ++ (word_bytes 2 kind ++ (r.table ++ q))
  from_kind = simp append_assoc

  from_table : whole ≡ (p ++ (word_bytes 2 size ++ word_bytes 2 kind)) ++ (r.table ++ q)
  from_table = simp append_assoc

  pub size_read : size_at whole (length p) ≡ size
  size_read =
      let b : size < 256 ^ 2 = omega arith in
      ap (λ (s : List ℕ). word_at 2 s (length p)) from_size ∙ bytes_read 2 size p _ b

  pub kind_read : kind_at whole (length p) ≡ kind
  kind_read =
      let b : kind < 256 ^ 2 = omega arith in
      let a : length (p ++ word_bytes 2 size) ≡ length p + 2 = simp (length-append, length_word_bytes) in
      ap₂ (λ (s : List ℕ) (n : ℕ). word_at 2 s n) from_kind (sym a) ∙ bytes_read 2 kind (p ++ word_bytes 2 size) _ b

  pub next_read : next_at whole (length p) ≡ length (p ++ rec_bytes r)
  next_read = omega (arith, size_read, length-append p (rec_bytes r), length_rec r)

  table_read : (rec_at whole (length p)).table ≡ r.table
  table_read =
      let a : length (p ++ (word_bytes 2 size ++ word_bytes 2 kind)) ≡ length p + 4 = simp (length-append, length_word_bytes) in
      let d : drop (length p + 4) whole ≡ r.table ++ q = ap (drop (length p + 4)) from_table ∙ drop_at (p ++ (word_bytes 2 size ++ word_bytes 2 kind)) (r.table ++ q) (length p + 4) a in
      let n : size_at whole (length p) - 2 ≡ length r.table = omega (arith, size_read) in
      ap₂ (λ (k : ℕ) (s : List ℕ). take k s) n d ∙ take-append_seam r.table q

  number_read : (rec_at whole (length p)).number ≡ r.number
  number_read = omega (arith, kind_read)

  pub rec_read : rec_at whole (length p) ≡ r
  rec_read = λ i. record { number = number_read i; table = table_read i }

pub recs_read : (rs : List Rec) (ps : List Place) (p q : List ℕ) (end : ℕ) → Good ps rs → end ≡ length p + length (recs_bytes rs)
    → (right_from (length rs) ps (p ++ (recs_bytes rs ++ q)) end (length p) ≡ true) × (records_from (length rs) (p ++ (recs_bytes rs ++ q)) (length p) ≡ rs)
unfolding Good records_from
recs_read [] ps p q end g e = (right_end ps (p ++ q) end (length p) ∙ eq-eqb (length p) end (omega arith), refl)
recs_read (r ∷ rs) ps p q end g e =
    let t = recs_bytes rs ++ q in
    let s = p ++ (rec_bytes r ++ t) in
    let again : p ++ ((rec_bytes r ++ recs_bytes rs) ++ q) ≡ s = ap (λ (x : List ℕ). p ++ x) (append_assoc (rec_bytes r) (recs_bytes rs) q) in
    let next : (p ++ rec_bytes r) ++ t ≡ s = append_assoc p (rec_bytes r) t in
    let lr = length_rec r in
    let la = length-append (rec_bytes r) (recs_bytes rs) in
    let lp = length-append p (rec_bytes r) in
    let sz = size_read p t r g.0 g.1 in
    let kd = kind_read p t r g.0 g.1 in
    let rd = rec_read p t r g.0 g.1 in
    let nx = next_read p t r g.0 g.1 in
    let nm : kind_at s (length p) - 256 ≡ r.number = omega (arith, kd) in
    let few = g.0 in
    let l : Stands (marks_of ps) s end (length p) = record {
      here = omega arith;
      two = omega arith;
      within = omega arith;
      low = omega arith;
      high = omega arith;
      unmarked = ap (λ (i : ℕ). get_or (marks_of ps) i 0) nm ∙ none_unmarked ps r.number g.2;
    } in
    let st = stands_true (marks_of ps) s end (length p) l in
    let ih = recs_read rs (put ps r) (p ++ rec_bytes r) q end g.3 (omega arith) in
    let ih0 : right_from (length rs) (put ps r) s end (length (p ++ rec_bytes r)) ≡ true = ap (λ (x : List ℕ). right_from (length rs) (put ps r) x end (length (p ++ rec_bytes r))) (sym next) ∙ ih.0 in
    let ih1 : records_from (length rs) s (length (p ++ rec_bytes r)) ≡ rs = ap (λ (x : List ℕ). records_from (length rs) x (length (p ++ rec_bytes r))) (sym next) ∙ ih.1 in (
      ap (λ (x : List ℕ). right_from (suc (length rs)) ps x end (length p)) again
          ∙ right_more (length rs) ps s end (length p) st
          ∙ ap₂ (λ (x : Rec) (n : ℕ). right_from (length rs) (put ps x) s end n) rd nx
          ∙ ih0,
      ap (λ (x : List ℕ). records_from (suc (length rs)) x (length p)) again
          ∙ ap₂ (λ (x : Rec) (n : ℕ). x ∷ records_from (length rs) s n) rd nx
          ∙ ap (λ (l : List Rec). r ∷ l) ih1,
    )

-- ---- the header

pub record Header (s : List ℕ) : Type 0 where
  pub long : 8 ≤ length s
  pub short : length s ≤ 65536
  pub fits : end_of s ≤ length s
  pub kind : word_at 2 s 4 ≡ 6

pub header_parts : (s : List ℕ) → header_right s ≡ true → Header s
unfolding header_right
header_parts s e =
    let a = both_true _ _ e in
    let b = both_true _ _ a.0 in
    let c = both_true _ _ a.1 in
    record { long = leb-true _ _ b.0; short = leb-true _ _ b.1; fits = leb-true _ _ c.0; kind = eqb-true _ _ c.1 }

header_true : (s : List ℕ) → Header s → header_right s ≡ true
unfolding header_right
header_true s h =
    are_true _ _ (are_true _ _ (le-leb _ _ h.long) (le-leb _ _ h.short)) (are_true _ _ (le-leb _ _ h.fits) (eq-eqb _ _ h.kind))

pub no_header : (s : List ℕ) → header_right s ≡ false → right_of s ≡ false
unfolding right_of
no_header s e = rw e

pub with_header : (s : List ℕ) → header_right s ≡ true → right_of s ≡ right_from (count_of s) free s (end_of s) 8
unfolding right_of
with_header s e = rw e

right_parts : (s : List ℕ) → right_of s ≡ true → (header_right s ≡ true) × (right_from (count_of s) free s (end_of s) 8 ≡ true)
unfolding right_of
right_parts s e = go (header_right s) refl e
  where
    go : (b : Bool) → header_right s ≡ b → pick b (λ _. right_from (count_of s) free s (end_of s) 8) (λ _. false) ≡ true
        → (header_right s ≡ true) × (right_from (count_of s) free s (end_of s) 8 ≡ true)
    go true p h = (p, h)
    go false p h = false_true h

-- ---- right bytes

pub record Right (s : List ℕ) : Type 0 where
  pub header : Header s
  pub walk : right_from (count_of s) free s (end_of s) 8 ≡ true
  pub good : Good free (records_of s)
  pub size : 8 + length (recs_bytes (records_of s)) ≡ end_of s
  pub count : length (records_of s) ≡ count_of s

pub right : (s : List ℕ) → right_of s ≡ true → Right s
unfolding records_of
right s e =
    let p = right_parts s e in
    let h = header_parts s p.0 in
    let f = h.fits in
    let g = h.short in
    let q = parsed s (end_of s) f (omega arith) (count_of s) free 8 p.1 in
    record { header = h; walk = p.1; good = q.good; size = q.size; count = q.count }

pub right_written : (s : List ℕ) → Bytes s → right_of s ≡ true → s ≡ store_bytes (records_of s) ++ drop (end_of s) s
unfolding records_of store_bytes
right_written s bytes e =
    let w = right s e in
    let h = w.header in
    let long = h.long in
    let rs = records_from (count_of s) s 8 in
    let size = w.size in
    let f = h.fits in
    let g = h.short in
    let z : word_at 4 s 0 ≡ 4 + length (recs_bytes rs) = omega arith in
    let e0 = recs_written s (end_of s) f (omega arith) bytes (count_of s) free 8 w.walk in
    let e1 : s ≡ word_bytes 4 (4 + length (recs_bytes rs)) ++ drop 4 s = split_drop 4 0 s ∙ ap (λ (t : List ℕ). t ++ drop 4 s) (sym (read_bytes_lem 4 0 s bytes (omega arith)) ∙ ap (word_bytes 4) z) in
    let e2 : drop 4 s ≡ word_bytes 2 6 ++ drop 6 s = split_drop 2 4 s ∙ ap (λ (t : List ℕ). t ++ drop 6 s) (sym (read_bytes_lem 2 4 s bytes (omega arith)) ∙ ap (word_bytes 2) h.kind) in
    let e3 : drop 6 s ≡ word_bytes 2 (length rs) ++ drop 8 s = split_drop 2 6 s ∙ ap (λ (t : List ℕ). t ++ drop 8 s) (sym (read_bytes_lem 2 6 s bytes (omega arith)) ∙ ap (word_bytes 2) (sym w.count)) in
    e1 ∙ (ap (λ (t : List ℕ). word_bytes 4 (4 + length (recs_bytes rs)) ++ t) (e2 ∙ ap (λ (t : List ℕ). word_bytes 2 6 ++ t) (e3 ∙ ap (λ (t : List ℕ). word_bytes 2 (length rs) ++ t) e0)) ∙ simp append_assoc)

-- ---- the bytes of good records

pub length_store : (rs : List Rec) → length (store_bytes rs) ≡ 8 + length (recs_bytes rs)
unfolding store_bytes
length_store rs = simp (length-append, length_word_bytes) (omega arith)

pub length_written : (rs : List Rec) (s : List ℕ) → 8 + length (recs_bytes rs) ≤ length s → length (written rs s) ≡ length s
unfolding written
length_written rs s h =
    omega (arith, length-append (store_bytes rs) (drop (8 + length (recs_bytes rs)) s), length_store rs, length-drop (8 + length (recs_bytes rs)) s)

module _ (size count : ℕ) (t : List ℕ) where
  length_header : length (header_bytes size count) ≡ 8
  length_header = simp (length-append, length_word_bytes)

  end_read : 4 + size < 256 ^ 4 → word_at 4 (header_bytes size count ++ t) 0 ≡ 4 + size
  end_read b =
      let w : header_bytes size count ++ t ≡ [] ++ (word_bytes 4 (4 + size) ++ (word_bytes 2 6 ++ (word_bytes 2 count ++ t))) = simp append_assoc in
      ap (λ (s : List ℕ). word_at 4 s 0) w ∙ bytes_read 4 (4 + size) [] _ b

  store_kind_read : word_at 2 (header_bytes size count ++ t) 4 ≡ 6
  store_kind_read =
      let w : header_bytes size count ++ t ≡ word_bytes 4 (4 + size) ++ (word_bytes 2 6 ++ (word_bytes 2 count ++ t)) = simp append_assoc in
      let b : 6 < 256 ^ 2 = omega arith in
      ap₂ (λ (s : List ℕ) (n : ℕ). word_at 2 s n) w (sym (length_word_bytes 4 (4 + size))) ∙ bytes_read 2 6 (word_bytes 4 (4 + size)) _ b

  count_read : count < 256 ^ 2 → word_at 2 (header_bytes size count ++ t) 6 ≡ count
  count_read b =
      let w : header_bytes size count ++ t ≡ (word_bytes 4 (4 + size) ++ word_bytes 2 6) ++ (word_bytes 2 count ++ t) = simp append_assoc in
      let a : length (word_bytes 4 (4 + size) ++ word_bytes 2 6) ≡ 6 = simp (length-append, length_word_bytes) in
      ap₂ (λ (s : List ℕ) (n : ℕ). word_at 2 s n) w (sym a) ∙ bytes_read 2 count (word_bytes 4 (4 + size) ++ word_bytes 2 6) _ b

pub store_read : (rs : List Rec) (q : List ℕ) → Good free rs → length (store_bytes rs ++ q) ≤ 65536
    → (right_of (store_bytes rs ++ q) ≡ true) × (records_of (store_bytes rs ++ q) ≡ rs)
unfolding store_bytes records_of
store_read rs q g h =
    let size = length (recs_bytes rs) in
    let count = length rs in
    let hd = header_bytes size count in
    let s = store_bytes rs ++ q in
    let w : s ≡ hd ++ (recs_bytes rs ++ q) = append_assoc hd (recs_bytes rs) q in
    let lh = length_header size count (recs_bytes rs ++ q) in
    let l1 = length-append hd (recs_bytes rs) in
    let l2 = length-append (hd ++ recs_bytes rs) q in
    let many = recs_many rs in
    let en : word_at 4 s 0 ≡ 4 + size = ap (λ (x : List ℕ). word_at 4 x 0) w ∙ end_read size count (recs_bytes rs ++ q) (omega arith) in
    let kd : word_at 2 s 4 ≡ 6 = ap (λ (x : List ℕ). word_at 2 x 4) w ∙ store_kind_read size count (recs_bytes rs ++ q) in
    let ct : word_at 2 s 6 ≡ count = ap (λ (x : List ℕ). word_at 2 x 6) w ∙ count_read size count (recs_bytes rs ++ q) (omega arith) in
    let head : Header s = record { long = omega arith; short = h; fits = omega arith; kind = kd } in
    let rd = recs_read rs free hd q (end_of s) g (omega arith) in (
      with_header s (header_true s head)
          ∙ ap (λ (n : ℕ). right_from n free s (end_of s) 8) ct
          ∙ ap₂ (λ (x : List ℕ) (n : ℕ). right_from count free x (end_of s) n) w (sym lh)
          ∙ rd.0,
      ap (λ (n : ℕ). records_from n s 8) ct
          ∙ ap₂ (λ (x : List ℕ) (n : ℕ). records_from count x n) w (sym lh)
          ∙ rd.1,
    )

-- ---- the tests of a record, one by one

pub stands_not : (marks s : List ℕ) (end at : ℕ) → (Stands marks s end at → ⊥) → false ≡ stands_at marks s end at
stands_not marks s end at f = go (stands_at marks s end at) refl
  where
    go : (b : Bool) → stands_at marks s end at ≡ b → false ≡ stands_at marks s end at
    go true p = absurd (f (stands_parts marks s end at p))
    go false p = sym p

pub stands_last : (marks s : List ℕ) (end at : ℕ) → at + 4 ≤ end → 2 ≤ size_at s at → next_at s at ≤ end → 256 ≤ kind_at s at → kind_at s at < 320
    → eqb (get_or marks (kind_at s at - 256) 0) 0 ≡ stands_at marks s end at
unfolding stands_at
stands_last marks s end at a b c d e =
    rw (le-leb (at + 4) end a, le-leb 2 (size_at s at) b, le-leb (next_at s at) end c, le-leb 256 (kind_at s at) d, lt-ltb (kind_at s at) 320 e)

-- only whether a number is marked counts
pub stands_same : (ms : List ℕ) (ps : List Place) (s : List ℕ) (end at : ℕ) → Zeros ms ps → stands_at ms s end at ≡ stands_at (marks_of ps) s end at
unfolding stands_at marks_of
stands_same ms ps s end at z =
    let k = kind_at s at - 256 in
    let e : eqb (get_or ms k 0) 0 ≡ eqb (get_or (map mark ps) k 0) 0 = zeros_at ms ps k z ∙ ap (λ (m : ℕ). eqb m 0) (sym (get_or-map mark ps k none)) in
    ap (λ (b : Bool). leb (at + 4) end && (leb 2 (size_at s at) && (leb (next_at s at) end && (leb 256 (kind_at s at) && (ltb (kind_at s at) 320 && b))))) e
