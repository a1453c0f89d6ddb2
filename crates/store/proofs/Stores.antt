-- What the stores of each change make of the bytes, and the turns of the loops. Assumes nothing.
use mathlib.Core.Path.{◌≡◌, refl, sym, ap, ap₂, ◌∙◌}
use mathlib.Core.Bool.{Bool, true, false, cond, not}
use mathlib.Core.List.{List, [], ◌∷◌, ◌++◌, append_assoc, append-nil}
use Prim.Native.Nat.{ℕ, zero, suc, ◌+◌, ◌-◌, ◌≤◌, ◌<◌}
use native.Mathlib.Omega.{arith}
use lib.Dec.{eqb, ltb}
use lib.ListN.{length, set, take, drop, replicate, length-append}
use lib.Seq.{sets, sets-eq, take_at, drop_at}
use Rattle.std.specs.Prelude.{Option, Some, None}
use Rattle.std.specs.List.{position, position_or_len}
use Rattle.std.proofs.lemmas.List.Recursion.{is_position_or_len}
use Rattle.std.proofs.lemmas.List.Sums.{prefix_len-le-length}
use borrow.Author.Tests.{ne_eqb, ltb-true, ltb-false}
use Rattle.word.specs.Word.{word_bytes, Bytes}
use Rattle.word.proofs.Laws.{length_word_bytes}
use Rattle.common.proofs.Stores.{sets_append}
use Rattle.notice.proofs.Inserts.{new_header}
use Rattle.store.specs.Layout.{Rec, Place, rec_bytes, recs_bytes, header_bytes, store_bytes, written, size_at, kind_at, next_at, rec_at, end_of, count_of, records_from, records_of, put, free, marks_of, header_right, stands_at, right_from, right_of}
use Rattle.store.specs.Calls.{At, first_zero, starts_in, starts_of, locate_in, without, rec, Appendable}
use Rattle.store.specs.Theorems.{Good}
use Rattle.store.proofs.Places.{length_rec, recs_many, good_split, Spot, spot}
use Rattle.store.proofs.Starts.{Zeros, zeros_free, zeros_set}
use Rattle.store.proofs.Parses.{stands_parts, right_end, right_more, right_stop, records_end, records_more, table_length, header_parts, with_header, right, right_written, length_store, size_read, rec_read, stands_same}

-- ---- the lowest free number

zero_step : (m : ℕ) (ms : List ℕ) → first_zero (m ∷ ms) ≡ cond (eqb m 0) 0 (1 + first_zero ms)
unfolding first_zero
zero_step zero ms = refl
zero_step (suc m) ms = rw (ne_eqb (suc m) 0 (λ e. omega arith)) (omega arith)

zero_none : first_zero [] ≡ 0
unfolding first_zero
zero_none = refl

pub first_is : (ms : List ℕ) → first_zero ms ≡ position_or_len (λ m. eqb m 0) ms
first_is ms = is_position_or_len first_zero (λ m. eqb m 0) zero_none zero_step ms

abbrev pub free_of : List ℕ → Option ℕ
free_of ms = position (λ m. eqb m 0) ms

pub free_some : (ms : List ℕ) (n : ℕ) → free_of ms ≡ Some n → (n ≡ first_zero ms) × (n < length ms)
free_some ms n e = go (ltb (position_or_len (λ m. eqb m 0) ms) (length ms)) refl e
  where
    go : (b : Bool) → ltb (position_or_len (λ m. eqb m 0) ms) (length ms) ≡ b → cond b (Some (position_or_len (λ m. eqb m 0) ms)) None ≡ Some n → (n ≡ first_zero ms) × (n < length ms)
    go true p h = let q : position_or_len (λ m. eqb m 0) ms ≡ n = cc in (omega (arith, q, first_is ms), omega (arith, q, ltb-true _ _ p))
    go false p h = let q : ⊥ = cc in absurd q

pub free_none : (ms : List ℕ) → free_of ms ≡ None → first_zero ms ≡ length ms
free_none ms e = go (ltb (position_or_len (λ m. eqb m 0) ms) (length ms)) refl e
  where
    go : (b : Bool) → ltb (position_or_len (λ m. eqb m 0) ms) (length ms) ≡ b → cond b (Some (position_or_len (λ m. eqb m 0) ms)) None ≡ None → first_zero ms ≡ length ms
    go true p h = let q : ⊥ = cc in absurd q
    go false p h = omega (arith, ltb-false _ _ p, first_is ms, prefix_len-le-length (λ m. not (eqb m 0)) ms)

-- ---- the walk

pub record Walk (s starts : List ℕ) (end left at : ℕ) : Type 0 where
  pub ps : List Place
  pub zeros : Zeros starts ps
  pub after : 8 ≤ at
  pub short : at ≤ 65536
  pub fits : end ≤ length s
  pub small : length s ≤ 65536
  pub right : right_from left ps s end at ≡ right_of s
  pub all : starts_in starts (records_from left s at) at ≡ starts_of s

pub walk_starts : (s starts : List ℕ) (end left : ℕ) → header_right s ≡ true → starts ≡ replicate 64 0 → end ≡ end_of s → left ≡ count_of s → Walk s starts end left 8
unfolding records_of
walk_starts s starts end left h e p q =
    let a = header_parts s h in
    record {
      ps = free;
      zeros = rw e zeros_free;
      after = omega arith;
      short = omega arith;
      fits = omega (arith, a.fits);
      small = a.short;
      right = ap₂ (λ (n m : ℕ). right_from n free s m 8) q p ∙ sym (with_header s h);
      all = ap₂ (λ (l : List ℕ) (n : ℕ). starts_in l (records_from n s 8) 8) e q;
    }

module _ (s starts : List ℕ) (end left at : ℕ) (w : Walk s starts end left at) where
  same_test : stands_at starts s end at ≡ stands_at (marks_of w.ps) s end at
  same_test = stands_same starts w.ps s end at w.zeros

  module _ (less : ℕ) (z : left ≡ suc less) where
    pub walk_stops : stands_at starts s end at ≡ false → right_of s ≡ false
    walk_stops e = sym w.right ∙ ap (λ (n : ℕ). right_from n w.ps s end at) z ∙ right_stop less w.ps s end at (sym same_test ∙ e)

    pub walk_goes : (number next : ℕ) → stands_at starts s end at ≡ true → number ≡ kind_at s at - 256 → next ≡ next_at s at → Walk s (set starts number at) end less next
    unfolding starts_in
    walk_goes number next e q n =
        let l = stands_parts starts s end at e in
        let r = rec_at s at in
        let t = table_length starts s end at w.fits l in
        let m : at + (4 + length r.table) ≡ next_at s at = omega (arith, t, l.two) in
        record {
          ps = put w.ps r;
          zeros = rw q (zeros_set starts w.ps r.number at r.table (omega (arith, w.after)) w.zeros);
          after = omega (arith, w.after);
          short = omega (arith, l.within, w.fits, w.small);
          fits = w.fits;
          small = w.small;
          right =
              ap (λ (k : ℕ). right_from less (put w.ps r) s end k) n
              ∙ sym (right_more less w.ps s end at (sym same_test ∙ e))
              ∙ ap (λ (k : ℕ). right_from k w.ps s end at) (sym z)
              ∙ w.right;
          all =
              ap₂ (λ (i k : ℕ). starts_in (set starts i at) (records_from less s k) k) q n
              ∙ ap (starts_in (set starts r.number at) (records_from less s (next_at s at))) (sym m)
              ∙ ap (λ (l : List Rec). starts_in starts l at) (sym (records_more less s at) ∙ ap (λ (k : ℕ). records_from k s at) (sym z))
              ∙ w.all;
        }

  pub walk_ends : left ≡ 0 → (eqb at end ≡ right_of s) × (starts ≡ starts_of s)
  unfolding starts_in
  walk_ends z = (
    sym (right_end w.ps s end at) ∙ ap (λ (n : ℕ). right_from n w.ps s end at) (sym z) ∙ w.right,
    ap (λ (l : List Rec). starts_in starts l at) (sym (records_end s at) ∙ ap (λ (n : ℕ). records_from n s at) (sym z)) ∙ w.all,
  )

-- ---- the three changes

pub rec_stored : (d : List ℕ) (at n : ℕ) (t : List ℕ)
    → sets (sets (sets d at (word_bytes 2 (2 + length t))) (at + 2) (word_bytes 2 (256 + n))) (at + 4) t ≡ sets d at (rec_bytes (rec n t))
rec_stored d at n t =
    let a = word_bytes 2 (2 + length t) in
    let b = word_bytes 2 (256 + n) in
    let l1 : at + length a ≡ at + 2 = ap (λ (k : ℕ). at + k) (length_word_bytes 2 (2 + length t)) in
    let l2 : at + 2 + length b ≡ at + 4 = omega (arith, length_word_bytes 2 (256 + n)) in
    sym (sets_append a (b ++ t) d at
    ∙ (ap (λ (k : ℕ). sets (sets d at a) k (b ++ t)) l1
    ∙ (sets_append b t (sets d at a) (at + 2)
    ∙ ap (λ (k : ℕ). sets (sets (sets d at a) (at + 2) b) k t) l2)))

-- the header's two words anew
header_anew : (size count size' count' : ℕ) (rest : List ℕ)
    → sets (sets (header_bytes size count ++ rest) 0 (word_bytes 4 (4 + size'))) 6 (word_bytes 2 count') ≡ header_bytes size' count' ++ rest
header_anew size count size' count' rest =
    new_header (word_bytes 4 (4 + size)) (word_bytes 4 (4 + size')) (word_bytes 2 6) (word_bytes 2 count) (word_bytes 2 count') rest
    (length_word_bytes 4 _) (length_word_bytes 4 _) (length_word_bytes 2 6) (length_word_bytes 2 _) (length_word_bytes 2 _)

pub recs_bytes_append : (xs ys : List Rec) → recs_bytes (xs ++ ys) ≡ recs_bytes xs ++ recs_bytes ys
recs_bytes_append [] ys = refl
recs_bytes_append (x ∷ xs) ys = ap (λ (t : List ℕ). rec_bytes x ++ t) (recs_bytes_append xs ys) ∙ sym (append_assoc (rec_bytes x) (recs_bytes xs) (recs_bytes ys))

-- the bytes of a store up to its end
pub to_end : (s : List ℕ) → Bytes s → right_of s ≡ true → take (end_of s) s ≡ store_bytes (records_of s)
to_end s bytes e =
    let n : length (store_bytes (records_of s)) ≡ end_of s = length_store (records_of s) ∙ (right s e).size in
    ap (take (end_of s)) (right_written s bytes e) ∙ take_at (store_bytes (records_of s)) (drop (end_of s) s) (end_of s) n

-- the numbers of a store
pub record Numbers (s : List ℕ) : Type 0 where
  pub after : 8 ≤ end_of s
  pub fits : end_of s ≤ length s
  pub short : length s ≤ 65536
  pub few : count_of s ≤ 16384

pub numbers : (s : List ℕ) → right_of s ≡ true → Numbers s
numbers s e =
    let w = right s e in
    let z = w.size in
    let f = w.header.fits in
    let g = w.header.short in
    record { after = omega arith; fits = f; short = g; few = omega (arith, w.count, recs_many (records_of s)) }

module _ (s : List ℕ) (bytes : Bytes s) (n : ℕ) (t : List ℕ) (a : Appendable s n t) where
  pub appended : sets (sets (sets (sets (sets s (end_of s) (word_bytes 2 (2 + length t))) (end_of s + 2) (word_bytes 2 (256 + n))) (end_of s + 4) t) 0 (word_bytes 4 (end_of s + length t))) 6 (word_bytes 2 (count_of s + 1))
      ≡ written (records_of s ++ (rec n t ∷ [])) s
  unfolding written store_bytes
  appended =
      let w = right s a.right in
      let rs = records_of s in
      let r = rec n t in
      let lr = length_rec r in
      let room = a.room in
      let size = w.size in
      let q = drop (end_of s + length (rec_bytes r)) s in
      let bytes-new : recs_bytes (rs ++ (r ∷ [])) ≡ recs_bytes rs ++ rec_bytes r = recs_bytes_append rs (r ∷ []) ∙ ap (λ (x : List ℕ). recs_bytes rs ++ x) (append-nil (rec_bytes r)) in
      let size_new : length (recs_bytes (rs ++ (r ∷ []))) ≡ length (recs_bytes rs) + length (rec_bytes r) = ap length bytes-new ∙ length-append (recs_bytes rs) (rec_bytes r) in
      let count-new : count_of s + 1 ≡ length (rs ++ (r ∷ [])) = omega (arith, w.count, length-append rs (r ∷ [])) in
      let one : sets s (end_of s) (rec_bytes r) ≡ header_bytes (length (recs_bytes rs)) (length rs) ++ (recs_bytes (rs ++ (r ∷ [])) ++ q) =
      sets-eq (rec_bytes r) s (end_of s) (omega arith)
      ∙ ap (λ (x : List ℕ). x ++ rec_bytes r ++ q) (to_end s bytes a.right)
      ∙ simp append_assoc refl
      ∙ ap (λ (x : List ℕ). header_bytes (length (recs_bytes rs)) (length rs) ++ x) (sym (append_assoc (recs_bytes rs) (rec_bytes r) q) ∙ ap (λ (x : List ℕ). x ++ q) (sym bytes-new)) in
      let e4 : end_of s + length t ≡ 4 + length (recs_bytes (rs ++ (r ∷ []))) = omega arith in
      let eq : end_of s + length (rec_bytes r) ≡ 8 + length (recs_bytes (rs ++ (r ∷ []))) = omega arith in
      ap (λ (x : List ℕ). sets (sets x 0 (word_bytes 4 (end_of s + length t))) 6 (word_bytes 2 (count_of s + 1))) (rec_stored s (end_of s) n t ∙ one)
      ∙ ap₂ (λ (i j : ℕ). sets (sets (header_bytes (length (recs_bytes rs)) (length rs) ++ (recs_bytes (rs ++ (r ∷ [])) ++ q)) 0 (word_bytes 4 i)) 6 (word_bytes 2 j)) e4 count-new
      ∙ header_anew (length (recs_bytes rs)) (length rs) (length (recs_bytes (rs ++ (r ∷ [])))) (length (rs ++ (r ∷ []))) (recs_bytes (rs ++ (r ∷ [])) ++ q)
      ∙ ap (λ (i : ℕ). header_bytes (length (recs_bytes (rs ++ (r ∷ [])))) (length (rs ++ (r ∷ []))) ++ (recs_bytes (rs ++ (r ∷ [])) ++ drop i s)) eq
      ∙ sym (append_assoc (header_bytes (length (recs_bytes (rs ++ (r ∷ [])))) (length (rs ++ (r ∷ [])))) (recs_bytes (rs ++ (r ∷ []))) (drop (8 + length (recs_bytes (rs ++ (r ∷ [])))) s))

-- a record that is found lies before the end
pub record Lying (s : List ℕ) (n at : ℕ) : Type 0 where
  pub spot : Spot n (records_of s) 8 at
  pub size : size_at s at ≡ 2 + length spot.it.table
  pub table : take (size_at s at - 2) (drop (at + 4) s) ≡ spot.it.table
  pub within : next_at s at ≤ end_of s
  pub after : 8 ≤ at
  pub some_record : 1 ≤ count_of s

module _ (s : List ℕ) (bytes : Bytes s) (n at : ℕ) (ok : right_of s ≡ true) (found : locate_in n (records_of s) 8 ≡ At at) where
  the_spot : Spot n (records_of s) 8 at
  the_spot = spot n (records_of s) 8 at found

  -- the bytes before the record, and after it
  abbrev front : List ℕ
  front = header_bytes (length (recs_bytes (records_of s))) (length (records_of s)) ++ recs_bytes the_spot.pre

  abbrev back : List ℕ
  back = recs_bytes the_spot.post ++ drop (end_of s) s

  all_bytes : recs_bytes (records_of s) ≡ recs_bytes the_spot.pre ++ (rec_bytes the_spot.it ++ recs_bytes the_spot.post)
  all_bytes = ap recs_bytes the_spot.all ∙ recs_bytes_append the_spot.pre (the_spot.it ∷ the_spot.post)

  whole_is : s ≡ front ++ (rec_bytes the_spot.it ++ back)
  unfolding store_bytes
  whole_is =
      let h = header_bytes (length (recs_bytes (records_of s))) (length (records_of s)) in
      right_written s bytes ok
      ∙ ap (λ (x : List ℕ). (h ++ x) ++ drop (end_of s) s) all_bytes
      ∙ simp append_assoc

  front_length : length front ≡ at
  front_length =
      let h = header_bytes (length (recs_bytes (records_of s))) (length (records_of s)) in
      let l : length h ≡ 8 = simp (length-append, length_word_bytes) in
      omega (arith, l, length-append h (recs_bytes the_spot.pre), the_spot.place)

  it_good : (the_spot.it.number < 64) × (length the_spot.it.table ≤ 65533)
  unfolding Good
  it_good =
      let g = good_split free the_spot.pre (the_spot.it ∷ the_spot.post) (rw the_spot.all at (right s ok).good) in
      (g.1.0, g.1.1)

  sizes : length (recs_bytes (records_of s)) ≡ length (recs_bytes the_spot.pre) + (4 + length the_spot.it.table + length (recs_bytes the_spot.post))
  sizes =
      omega (
        arith,
        ap length all_bytes,
        length-append (recs_bytes the_spot.pre) (rec_bytes the_spot.it ++ recs_bytes the_spot.post),
        length-append (rec_bytes the_spot.it) (recs_bytes the_spot.post),
        length_rec the_spot.it,
      )

  size_is : size_at s at ≡ 2 + length the_spot.it.table
  size_is = ap₂ (λ (x : List ℕ) (k : ℕ). size_at x k) whole_is (sym front_length) ∙ size_read front back the_spot.it it_good.0 it_good.1

  pub lying : Lying s n at
  lying =
      let i = the_spot.it in
      let z = size_is in
      let r : rec_at s at ≡ i = ap₂ (λ (x : List ℕ) (k : ℕ). rec_at x k) whole_is (sym front_length) ∙ rec_read front back i it_good.0 it_good.1 in
      let w = right s ok in
      record {
        spot = the_spot;
        size = z;
        table = ap (λ (x : Rec). x.table) r;
        within = omega (arith, z, sizes, w.size, the_spot.place);
        after = omega (arith, the_spot.place);
        some_record = omega (arith, w.count, ap length the_spot.all, length-append the_spot.pre (i ∷ the_spot.post));
      }

  abbrev from : ℕ
  from = at + (2 + size_at s at)

  moved_is : take (end_of s - from) (drop from s) ≡ recs_bytes the_spot.post
  moved_is =
      let w = right s ok in
      let z = size_is in
      let p = front ++ rec_bytes the_spot.it in
      let l : length p ≡ from = omega (arith, z, front_length, length-append front (rec_bytes the_spot.it), length_rec the_spot.it) in
      let m : length (recs_bytes the_spot.post) ≡ end_of s - from = omega (arith, z, sizes, w.size, the_spot.place) in
      ap (λ (x : List ℕ). take (end_of s - from) (drop from x)) (whole_is ∙ sym (append_assoc front (rec_bytes the_spot.it) back))
      ∙ ap (take (end_of s - from)) (drop_at p back from l)
      ∙ take_at (recs_bytes the_spot.post) (drop (end_of s) s) (end_of s - from) m

  pub cut : sets (sets (sets s at (take (end_of s - from) (drop from s))) 0 (word_bytes 4 (end_of s - (2 + size_at s at) - 4))) 6 (word_bytes 2 (count_of s - 1)) ≡ written (without n (records_of s)) s
  unfolding written store_bytes
  cut =
      let w = right s ok in
      let z = size_is in
      let rs = records_of s in
      let xs = the_spot.pre in
      let ys = the_spot.post in
      let h = header_bytes (length (recs_bytes rs)) (length rs) in
      let b = recs_bytes ys in
      let ll = sizes in
      let wz = w.size in
      let wf = w.header.fits in
      let place = the_spot.place in
      let rest : List ℕ = drop (at + length b) s in
      let front_is : take at s ≡ front = ap (take at) whole_is ∙ take_at front (rec_bytes the_spot.it ++ back) at front_length in
      let new : recs_bytes (xs ++ ys) ≡ recs_bytes xs ++ b = recs_bytes_append xs ys in
      let size_new : length (recs_bytes (xs ++ ys)) ≡ length (recs_bytes xs) + length b = ap length new ∙ length-append (recs_bytes xs) b in
      let one : sets s at (take (end_of s - from) (drop from s)) ≡ h ++ (recs_bytes (xs ++ ys) ++ rest) =
      ap (sets s at) moved_is
      ∙ sets-eq b s at (omega arith)
      ∙ ap (λ (x : List ℕ). x ++ b ++ rest) front_is
      ∙ simp append_assoc refl
      ∙ ap (λ (x : List ℕ). h ++ x) (sym (append_assoc (recs_bytes xs) b rest) ∙ ap (λ (x : List ℕ). x ++ rest) (sym new)) in
      let e4 : end_of s - (2 + size_at s at) - 4 ≡ 4 + length (recs_bytes (xs ++ ys)) = omega arith in
      let count-new : count_of s - 1 ≡ length (xs ++ ys) = omega (arith, w.count, ap length the_spot.all, length-append xs (the_spot.it ∷ ys), length-append xs ys) in
      let er : at + length b ≡ 8 + length (recs_bytes (xs ++ ys)) = omega arith in
      ap (λ (x : List ℕ). sets (sets x 0 (word_bytes 4 (end_of s - (2 + size_at s at) - 4))) 6 (word_bytes 2 (count_of s - 1))) one
      ∙ ap₂ (λ (i j : ℕ). sets (sets (h ++ (recs_bytes (xs ++ ys) ++ rest)) 0 (word_bytes 4 i)) 6 (word_bytes 2 j)) e4 count-new
      ∙ header_anew (length (recs_bytes rs)) (length rs) (length (recs_bytes (xs ++ ys))) (length (xs ++ ys)) (recs_bytes (xs ++ ys) ++ rest)
      ∙ ap (λ (i : ℕ). header_bytes (length (recs_bytes (xs ++ ys))) (length (xs ++ ys)) ++ (recs_bytes (xs ++ ys) ++ drop i s)) er
      ∙ sym (append_assoc (header_bytes (length (recs_bytes (xs ++ ys))) (length (xs ++ ys))) (recs_bytes (xs ++ ys)) (drop (8 + length (recs_bytes (xs ++ ys))) s))
      ∙ ap (λ (l : List Rec). (header_bytes (length (recs_bytes l)) (length l) ++ recs_bytes l) ++ drop (8 + length (recs_bytes l)) s) (sym the_spot.rest)

pub made : (s : List ℕ) → 8 ≤ length s → sets (sets (sets s 0 (word_bytes 4 4)) 4 (word_bytes 2 6)) 6 (word_bytes 2 0) ≡ written [] s
unfolding written store_bytes word_bytes
made s h =
    let a = word_bytes 4 4 in
    let b = word_bytes 2 6 in
    let c = word_bytes 2 0 in
    let l1 : 0 + length a ≡ 4 = omega (arith, length_word_bytes 4 4) in
    let l2 : 4 + length b ≡ 6 = omega (arith, length_word_bytes 2 6) in
    let l3 : length (header_bytes 0 0) ≡ 8 = omega (arith, length-append a (b ++ c), length-append b c, length_word_bytes 4 4, length_word_bytes 2 6, length_word_bytes 2 0) in
    let one : sets s 0 (header_bytes 0 0) ≡ sets (sets (sets s 0 a) 4 b) 6 c =
    sets_append a (b ++ c) s 0
    ∙ (ap (λ (k : ℕ). sets (sets s 0 a) k (b ++ c)) l1
    ∙ (sets_append b c (sets s 0 a) 4
    ∙ ap (λ (k : ℕ). sets (sets (sets s 0 a) 4 b) k c) l2)) in
    sym one
    ∙ sets-eq (header_bytes 0 0) s 0 (omega arith)
    ∙ ap (λ (k : ℕ). header_bytes 0 0 ++ drop k s) l3
    ∙ ap (λ (x : List ℕ). x ++ drop 8 s) (sym (append-nil (header_bytes 0 0)))
