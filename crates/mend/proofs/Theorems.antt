-- The theorems that specs/Theorems.antt states. Assumes nothing.
use mathlib.Core.Path.{◌≡◌, refl, sym, ap, ap₂, subst, ◌∙◌}
use mathlib.Core.Bool.{Bool, true, false, cond, ◌&&◌}
use mathlib.Core.List.{List, [], ◌∷◌, Permᴰ}
use Prim.Native.Nat.{ℕ, suc, ◌+◌, ◌*◌, ◌≤◌, ◌<◌}
use native.Mathlib.Omega.{arith}
use lib.Dec.{eqb, leb}
use lib.ListN.{length, take, drop, length-map}
use lib.Seq.{take_at, drop_at}
use borrow.Author.Tests.{le-leb, leb-true, eqb-true, ne_eqb, lt-ltb}
use Rattle.common.specs.Each.{Each}
use Rattle.common.proofs.Each.{each_map}
use Rattle.word.specs.Word.{word_at, word_bytes}
use Rattle.notice.specs.Field.{Field}
use Rattle.notice.specs.Render.{field_bytes, fields_bytes, header_bytes, render, NoticeFields}
use Rattle.notice.specs.Layout.{unless, size_at, field_at, count_of, check_of, starts_from, starts_of, fields_of}
use Rattle.notice.specs.Write.{sorted}
use Rattle.notice.proofs.Walks.{from_header}
use Rattle.notice.proofs.Renders.{length_header, length_render, render_passes, render_fields, rendered_count, well_fields, well_render}
use Rattle.notice.proofs.Orders.{all_before_first}
use Rattle.notice.proofs.Sorted.{sorted_length, sorted_same, sorted_same_fields}
use Rattle.mend.specs.Mend.{MendAnswer}
use Rattle.mend.specs.Mend.{Entry, stays, list_from, list_of, kept_in, kept_of, notice_of, list_bytes, onto, room_for, refusal_of, refused, done, mended_by}
use Rattle.mend.specs.Theorems.{MendCall, result_of, entries_in, listed_in, ListRead, ResultWellFormed, SameFields, SameBytes, all_kept, ComesOut, Unchanged, Twice, cut_last, CutEnds, SingleByteCut, HeaderNotBelieved, NothingWritten, DamagedList, DamagedNotice}
use Rattle.mend.proofs.Stores.{field_bytes_lem}
use Rattle.mend.proofs.Kept.{kept_fields, all_kept_lem, kept_all, fields_fit, listed_below, entries_read, cut_last_lem}
use Rattle.mend.proofs.Headers.{same_list, same_fields as same_kept}

-- ---- a call that is not refused

passes : (b : Bool) (n next : ℕ) → unless b (suc n) next ≡ 0 → (b ≡ true) × (next ≡ 0)
passes true n next e = (refl, e)
passes false n next e = absurd (omega arith)

is_zero : (s : List ℕ) (n : ℕ) → (mended_by n s).number ≡ 0 → n ≡ 0
is_zero s n = go (eqb n 0) refl
  where
    go : (b : Bool) → eqb n 0 ≡ b → (cond {A = MendAnswer} b (done s) (refused n)).number ≡ 0 → n ≡ 0
    go true p e = eqb-true n 0 p
    go false p e = e

module _ (s list notice : List ℕ) (m : MendCall s list notice) (z : m.answer.number ≡ 0) where
  none_refused : refusal_of s (length list) (length notice) ≡ 0
  none_refused = is_zero s (refusal_of s (length list) (length notice)) (sym (ap (λ (a : MendAnswer). a.number) m.promise.0) ∙ z)

  record Accepted : Type 0 where
    long : 8 ≤ length s
    short : length s ≤ 16384
    few : length (kept_of s) ≤ 64

  accepted : Accepted
  accepted =
      let a = passes (leb 8 (length s)) 29 _ none_refused in
      let b = passes (leb (length s) 16384) 9 _ a.1 in
      let d = passes (leb (length (kept_of s)) 64) 14 _ b.1 in
      record { long = leb-true 8 (length s) a.0; short = leb-true (length s) 16384 b.0; few = leb-true (length (kept_of s)) 64 d.0 }

  ok : NoticeFields (sorted (kept_of s))
  ok = kept_fields s accepted.long accepted.short (omega (arith, accepted.few, sorted_length (kept_of s)))

  answered : m.answer ≡ done s
  answered = m.promise.0 ∙ ap (λ (n : ℕ). mended_by n s) none_refused

  result : result_of m ≡ notice_of s
  result =
      let n : m.after_notice ≡ onto (notice_of s) notice = m.promise.2 ∙ ap (λ (k : ℕ). cond (eqb k 0) (onto (notice_of s) notice) notice) none_refused in
      ap₂ (λ (a : MendAnswer) (x : List ℕ). take a.length x) answered n ∙ take_at (notice_of s) (drop (length (notice_of s)) notice) (length (notice_of s)) refl

  listed : listed_in m ≡ list_of s
  listed =
      let l : m.after_list ≡ onto (list_bytes (list_of s)) list = m.promise.1 ∙ ap (λ (k : ℕ). cond (eqb k 0) (onto (list_bytes (list_of s)) list) list) none_refused in
      let below : Each (λ (e : Entry). e.offset < 65536) (list_of s) = each_map (list_of s) (λ e h. omega (arith, h.0, accepted.short)) (listed_below (length s) s [] 8) in
      ap₂ (λ (a : MendAnswer) (x : List ℕ). entries_in a.fields x) answered l ∙ entries_read (list_of s) (drop (length (list_bytes (list_of s))) list) below

  fields : fields_of (result_of m) ≡ sorted (kept_of s)
  fields = ap fields_of result ∙ render_fields (sorted (kept_of s)) ok

pub list_read : ListRead
list_read s list notice m z = listed s list notice m z

pub result_well_formed : ResultWellFormed
result_well_formed s list notice m z = ap check_of (result s list notice m z) ∙ render_passes (sorted (kept_of s)) (ok s list notice m z)

pub same_fields : SameFields
same_fields s list notice m z = along (fields s list notice m z) (ap (kept_in s) (listed s list notice m z)) (sorted_same_fields (kept_of s))
  where
    along : {x y u v : List Field} → x ≡ y → u ≡ v → Permᴰ y v → Permᴰ x u
    along p q d = rw (p, q) d

pub same_bytes : SameBytes
same_bytes s list notice bytes m z = (body, along (listed s list notice m z) (each_map (list_of s) (λ e h q. field_bytes_lem s e.offset bytes (h.1 q)) (listed_below (length s) s [] 8)))
  where
    body : drop 8 (result_of m) ≡ fields_bytes (fields_of (result_of m))
    body =
        let fs = sorted (kept_of s) in
        ap (drop 8) (result s list notice m z)
        ∙ (drop_at (header_bytes (length (fields_bytes fs)) (length fs)) (fields_bytes fs) 8 (length_header (length (fields_bytes fs)) (length fs) (fields_bytes fs)) ∙ ap fields_bytes (sym (fields s list notice m z)))

    along : {x y : List Entry} → x ≡ y
        → Each (λ e. stays e.code ≡ true → field_bytes (field_at s e.offset) ≡ take (2 + size_at s e.offset) (drop e.offset s)) y
        → Each (λ e. stays e.code ≡ true → field_bytes (field_at s e.offset) ≡ take (2 + size_at s e.offset) (drop e.offset s)) x
    along e h = rw e h

pub cut_ends : CutEnds
cut_ends s list notice m z = ap cut_last (listed s list notice m z) ∙ cut_last_lem (length s) s [] 8

-- ---- the notice of some fields

none_first : (gs : List Field) → all_before_first [] gs ≡ true
none_first [] = refl
none_first (g ∷ gs) = refl

module _ (fs : List Field) (fine : NoticeFields fs) where
  abbrev s : List ℕ
  s = render fs

  long : 8 ≤ length s
  long = omega (arith, length_render fs)

  walked : list_of s ≡ all_kept (starts_of s)
  walked =
      let head = header_bytes (length (fields_bytes fs)) (length fs) in
      let w = all_kept_lem fs s head [] (length s) refl fine.right fine.rises (none_first fs) (omega (arith, fields_fit fs, length_render fs)) in
      let eight : length head ≡ 8 = length_header (length (fields_bytes fs)) (length fs) (fields_bytes fs) in
      ap (list_from (length s) s []) (sym eight) ∙ (w ∙ (ap₂ (λ (n i : ℕ). all_kept (starts_from n s i)) (sym (rendered_count fs fine)) eight ∙ ap all_kept (sym (from_header s long fine.short))))

  kept : kept_of s ≡ fs
  kept = ap (kept_in s) walked ∙ (kept_all s (starts_of s) ∙ render_fields fs fine)

  again : notice_of s ≡ s
  again = ap (λ (x : List Field). render (sorted x)) kept ∙ ap render (sorted_same fs fine.rises)

  counted : length (list_of s) ≡ count_of s
  counted =
      ap length walked
      ∙ (length-map (starts_of s) (λ (at : ℕ). record { offset = at; code = 0 }) ∙ (sym (length-map (starts_of s) (field_at s)) ∙ (ap length (render_fields fs fine) ∙ sym (rendered_count fs fine))))

  module _ (list notice : List ℕ) (p : 3 * count_of s ≤ length list) (q : length s ≤ length notice) where
    room : room_for s (length list) (length notice) ≡ true
    room = ap₂ (λ (x y : Bool). x && y) (le-leb (3 * length (list_of s)) (length list) (omega (arith, counted))) (le-leb (length (notice_of s)) (length notice) (omega (arith, ap length again)))

    none : refusal_of s (length list) (length notice) ≡ 0
    none =
        ap₂ (λ (x y : Bool). unless x 30 (unless y 10 (unless (leb (length (kept_of s)) 64) 15 (unless (room_for s (length list) (length notice)) 9 0)))) (le-leb 8 (length s) long) (le-leb (length s) 16384 fine.short)
        ∙ ap₂ (λ (x y : Bool). unless x 15 (unless y 9 0)) (le-leb (length (kept_of s)) 64 (omega (arith, fine.few, ap length kept))) room

    comes_out : (m : MendCall s list notice) → ComesOut s list notice m
    comes_out m = record {
      answer_is = m.promise.0 ∙ (ap (λ (n : ℕ). mended_by n s) none ∙ ap₂ answer (ap length again) counted);
      same_bytes = m.promise.2 ∙ (ap (λ (n : ℕ). cond (eqb n 0) (onto (notice_of s) notice) notice) none ∙ ap (λ (x : List ℕ). onto x notice) again);
      every_kept = m.promise.1 ∙ (ap (λ (n : ℕ). cond (eqb n 0) (onto (list_bytes (list_of s)) list) list) none ∙ ap (λ (x : List Entry). onto (list_bytes x) list) walked);
    }
      where
        answer : ℕ → ℕ → MendAnswer
        answer x y = record { number = 0; place = 0; length = x; fields = y }

-- .. under any name for its bytes
comes_out_as : (fs : List Field) → NoticeFields fs → (t : List ℕ) → t ≡ render fs → (list notice : List ℕ) → 3 * count_of t ≤ length list → length t ≤ length notice → (m : MendCall t list notice) → ComesOut t list notice m
comes_out_as fs fine t e = subst (λ (x : List ℕ). (list notice : List ℕ) → 3 * count_of x ≤ length list → length x ≤ length notice → (m : MendCall x list notice) → ComesOut x list notice m) (sym e) (comes_out fs fine)

pub unchanged : Unchanged
unchanged s list notice bytes well p q m = comes_out_as (fields_of s) (well_fields s bytes well) s (well_render s bytes well) list notice p q m

pub twice : Twice
twice s list notice m z list_again notice_again p q again = comes_out_as (sorted (kept_of s)) (ok s list notice m z) (result_of m) (result s list notice m z) list_again notice_again p q again

-- ---- the end, the header, and a refusal

pub single_byte_cut : SingleByteCut
single_byte_cut s at e = lt-ltb (length s) (at + 2 + size_at s at) (omega arith)

pub header_not_believed : HeaderNotBelieved
header_not_believed s t list notice l e m k =
    let a = same_list s t l e in
    let f = same_kept s t l e in
    let n : notice_of s ≡ notice_of t = ap (λ (fs : List Field). render (sorted fs)) f in
    let r : room_for s (length list) (length notice) ≡ room_for t (length list) (length notice) = ap₂ (λ (x : List Entry) (y : List ℕ). leb (3 * length x) (length list) && leb (length y) (length notice)) a n in
    let z : refusal_of s (length list) (length notice) ≡ refusal_of t (length list) (length notice) =
    ap₂ (λ (i : ℕ) (fs : List Field). unless (leb 8 i) 30 (unless (leb i 16384) 10 (unless (leb (length fs) 64) 15 (unless (room_for s (length list) (length notice)) 9 0)))) l f
    ∙ ap (λ (b : Bool). unless (leb 8 (length t)) 30 (unless (leb (length t) 16384) 10 (unless (leb (length (kept_of t)) 64) 15 (unless b 9 0)))) r in
    let d : done s ≡ done t = ap₂ (λ (x : List ℕ) (y : List Entry). record { number = 0; place = 0; length = length x; fields = length y }) n a in (
      m.promise.0 ∙ (ap₂ (λ (i : ℕ) (x : MendAnswer). cond (eqb i 0) x (refused i)) z d ∙ sym k.promise.0),
      m.promise.1 ∙ (ap₂ (λ (i : ℕ) (x : List Entry). cond (eqb i 0) (onto (list_bytes x) list) list) z a ∙ sym k.promise.1),
      m.promise.2 ∙ (ap₂ (λ (i : ℕ) (x : List ℕ). cond (eqb i 0) (onto x notice) notice) z n ∙ sym k.promise.2),
    )

pub nothing_written : NothingWritten
nothing_written s list notice m h =
    let k = refusal_of s (length list) (length notice) in
    let b : eqb k 0 ≡ false = ne_eqb k 0 (λ e. h (ap (λ (a : MendAnswer). a.number) m.promise.0 ∙ ap (λ (n : ℕ). (mended_by n s).number) e)) in
    let a : m.answer ≡ refused k = m.promise.0 ∙ ap (λ (t : Bool). cond t (done s) (refused k)) b in (
      ap (λ (a : MendAnswer). a.length) a,
      ap (λ (a : MendAnswer). a.fields) a,
      m.promise.1 ∙ ap (λ (t : Bool). cond t (onto (list_bytes (list_of s)) list) list) b,
      m.promise.2 ∙ ap (λ (t : Bool). cond t (onto (notice_of s) notice) notice) b,
    )

-- ---- examples

pub damaged_list : DamagedList
unfolding list_from word_at word_bytes
damaged_list = refl

pub damaged_notice : DamagedNotice
unfolding list_from sorted word_at word_bytes
damaged_notice = refl
