-- What is written, and what a buffer holds after it. Assumes nothing.
use mathlib.Core.Path.{◌≡◌, refl, sym, ap, ap₂, ◌∙◌}
use mathlib.Core.Bool.{true, false}
use mathlib.Core.List.{List, [], ◌∷◌, ◌++◌, append_assoc}
use Prim.Native.Nat.{ℕ, zero, suc, ◌+◌, ◌*◌, ◌-◌, ◌≤◌, ◌<◌}
use native.Mathlib.Omega.{arith}
use native.Mathlib.Decide.{dec_lt}
use lib.ListN.{length, get_or, set, take, drop, length-set, length-append}
use lib.Seq.{sets, length-sets, sets-eq, drop_at, take-append_seam, length-take-le, drop-set-lt, drop-set-add, take-set-le, get_or-set_same, get_or-set_other}
use borrow.Author.Tests.{le-leb}
use Rattle.common.proofs.Stores.{sets_append, sets_before}
use Rattle.word.specs.Word.{word_at, word_bytes}
use Rattle.word.proofs.Laws.{length_word_bytes}
use Rattle.word.proofs.Theorems.{write_read}
use Rattle.table.specs.Check.{check_of as tableCheck}
use Rattle.quorum.specs.Decision.{has, different, size_of, needed_of, count_of, value_size, value_at, values_from, values_of, table_of, sizes_right, head_bytes, opened_with, added_to}
use Rattle.quorum.proofs.Reading.{Holding, size_at_lem, holding_sized}
use Rattle.quorum.proofs.Counting.{different_snoc}
use Rattle.quorum.proofs.Opening.{Openable}

-- the stores of the head's parts are the stores of its bytes
pub head_stored : (s : List ℕ) (n needed : ℕ) → set (set (sets (sets s 0 (word_bytes 4 (524 + n))) 4 (word_bytes 2 5)) 6 needed) 7 0 ≡ sets s 0 (head_bytes n needed)
head_stored s n needed =
    let w = word_bytes 4 (524 + n) in
    let rest = word_bytes 2 5 ++ (needed ∷ 0 ∷ []) in
    let l1 : 0 + length w ≡ 4 = omega (arith, length_word_bytes 4 (524 + n)) in
    let l2 : 4 + length (word_bytes 2 5) ≡ 6 = omega (arith, length_word_bytes 2 5) in
    sym (sets_append w rest s 0
    ∙ (ap (λ (k : ℕ). sets (sets s 0 w) k rest) l1
    ∙ (sets_append (word_bytes 2 5) (needed ∷ 0 ∷ []) (sets s 0 w) 4
    ∙ ap (λ (k : ℕ). sets (sets (sets s 0 w) 4 (word_bytes 2 5)) k (needed ∷ 0 ∷ [])) l2)))

pub length_head : (n needed : ℕ) → length (head_bytes n needed) ≡ 8
length_head n needed =
    length-append (word_bytes 4 (524 + n)) (word_bytes 2 5 ++ (needed ∷ 0 ∷ []))
    ∙ ap₂ (λ (a b : ℕ). a + b) (length_word_bytes 4 (524 + n)) (length-append (word_bytes 2 5) (needed ∷ 0 ∷ []) ∙ ap (λ (a : ℕ). a + 2) (length_word_bytes 2 5))

-- ---- reading beside a run of stores, and what was stored

word_before : (k at i : ℕ) (xs l : List ℕ) → at + k ≤ i → word_at k (sets l i xs) at ≡ word_at k l at
unfolding word_at
word_before zero at i xs l h = refl
word_before (suc k) at i xs l h = rw (sets_before xs l i at (omega arith), word_before k (suc at) i xs l (omega arith))

pub drop_after : (n : ℕ) (xs l : List ℕ) (i : ℕ) → i + length xs ≤ n → drop n (sets l i xs) ≡ drop n l
drop_after n [] l i h = refl
drop_after n (x ∷ xs) l i h = drop_after n xs (set l i x) (suc i) (omega arith) ∙ drop-set-lt n l i x (omega arith)

part_set : (a m : ℕ) (l : List ℕ) (i x : ℕ) → a + m ≤ i → take m (drop a (set l i x)) ≡ take m (drop a l)
part_set a m l i x h =
    let e : i ≡ a + (i - a) = omega arith in
    rw e (ap (take m) (drop-set-add a l (i - a) x) ∙ take-set-le m (drop a l) (i - a) x (omega arith))

part_before : (a m : ℕ) (xs l : List ℕ) (i : ℕ) → a + m ≤ i → take m (drop a (sets l i xs)) ≡ take m (drop a l)
part_before a m [] l i h = refl
part_before a m (x ∷ xs) l i h = part_before a m xs (set l i x) (suc i) (omega arith) ∙ part_set a m l i x h

part_stored : (xs l : List ℕ) (i : ℕ) → i + length xs ≤ length l → take (length xs) (drop i (sets l i xs)) ≡ xs
part_stored xs l i h =
    let t : length (take i l) ≡ i = length-take-le i l (omega arith) in
    let d : drop i (sets l i xs) ≡ xs ++ drop (i + length xs) l = ap (drop i) (sets-eq xs l i h ∙ append_assoc (take i l) xs (drop (i + length xs) l)) ∙ drop_at (take i l) (xs ++ drop (i + length xs) l) i t in
    ap (take (length xs)) d ∙ take-append_seam xs (drop (i + length xs) l)

-- ---- the values of a list, from the back

values_snoc : (s : List ℕ) (i k : ℕ) → values_from s i (suc k) ≡ values_from s i k ++ (value_at s (i + k) ∷ [])
unfolding values_from
values_snoc s i zero = let z : i + 0 ≡ i = omega arith in rw z
values_snoc s i (suc k) =
    let z : i + suc k ≡ suc i + k = omega arith in
    ap (λ (vs : List (List ℕ)). value_at s i ∷ vs) (values_snoc s (suc i) k ∙ rw z)

sizes_all : (s : List ℕ) (i n : ℕ) → ((k : ℕ) → k < n → (1 ≤ value_size s (i + k)) × (value_size s (i + k) ≤ 64)) → sizes_right s i n ≡ true
unfolding sizes_right
sizes_all s i zero h = refl
sizes_all s i (suc n) h =
    let z : i + 0 ≡ i = omega arith in
    let a : (1 ≤ value_size s i) × (value_size s i ≤ 64) = rw z at (h 0 (omega arith)) in
    let r : sizes_right s (suc i) n ≡ true = sizes_all s (suc i) n (λ k l. let e : i + suc k ≡ suc i + k = omega arith in rw e at (h (suc k) (omega arith))) in
    rw (le-leb 1 (value_size s i) a.0, le-leb (value_size s i) 64 a.1, r)

-- ---- an opening

-- what a buffer is known to hold
pub record Keeps (s table : List ℕ) (needed : ℕ) (values : List (List ℕ)) : Type 0 where
  pub holding : Holding s
  pub table_is : table_of s ≡ table
  pub needed_is : needed_of s ≡ needed
  pub values_are : values_of s ≡ values

module _ (s table : List ℕ) (needed : ℕ) (o : Openable (length s) table needed) where
  abbrev v4 : ℕ
  v4 = 524 + length table

  abbrev s1 : List ℕ
  s1 = sets s 0 (word_bytes 4 v4)

  abbrev s2 : List ℕ
  s2 = sets s1 4 (word_bytes 2 5)

  abbrev s3 : List ℕ
  s3 = set (set s2 6 needed) 7 0

  abbrev now : List ℕ
  now = opened_with s table needed

  now_is : now ≡ sets s3 528 table
  now_is = ap (λ (t : List ℕ). sets t 528 table) (sym (head_stored s (length table) needed))

  length_s2 : length s2 ≡ length s
  length_s2 = length-sets s1 4 (word_bytes 2 5) ∙ length-sets s 0 (word_bytes 4 v4)

  length_s3 : length s3 ≡ length s
  length_s3 = simp length-set length_s2

  length_now : length now ≡ length s
  length_now = ap length now_is ∙ (length-sets s3 528 table ∙ length_s3)

  -- the head's parts
  size_is : word_at 4 now 0 ≡ v4
  size_is =
      ap (λ (t : List ℕ). word_at 4 t 0) now_is
      ∙ (word_before 4 0 528 table s3 (omega arith)
      ∙ (word_before 4 0 7 (0 ∷ []) (set s2 6 needed) (omega arith)
      ∙ (word_before 4 0 6 (needed ∷ []) s2 (omega arith)
      ∙ (word_before 4 0 4 (word_bytes 2 5) s1 (omega arith)
      ∙ write_read 4 v4 0 s (omega (arith, o.fits)) (omega (arith, o.short))))))

  kind_is : word_at 2 now 4 ≡ 5
  kind_is =
      ap (λ (t : List ℕ). word_at 2 t 4) now_is
      ∙ (word_before 2 4 528 table s3 (omega arith)
      ∙ (word_before 2 4 7 (0 ∷ []) (set s2 6 needed) (omega arith)
      ∙ (word_before 2 4 6 (needed ∷ []) s2 (omega arith)
      ∙ write_read 2 5 4 s1 (omega (arith, o.fits, length-sets s 0 (word_bytes 4 v4))) (omega arith))))

  opened_needed : needed_of now ≡ needed
  opened_needed =
      ap (λ (t : List ℕ). get_or t 6 0) now_is
      ∙ (sets_before table s3 528 6 (omega arith)
      ∙ (get_or-set_other (set s2 6 needed) 7 6 0 0 (λ z. omega arith)
      ∙ get_or-set_same s2 6 needed 0 (omega (arith, o.fits, length_s2))))

  opened_count : count_of now ≡ 0
  opened_count =
      ap (λ (t : List ℕ). get_or t 7 0) now_is
      ∙ (sets_before table s3 528 7 (omega arith)
      ∙ get_or-set_same (set s2 6 needed) 7 0 0 (simp length-set (omega (arith, o.fits, length_s2))))

  opened_table : table_of now ≡ table
  opened_table =
      let z : size_of now - 528 ≡ length table = omega (arith, size_is) in
      ap (λ (n : ℕ). take n (drop 528 now)) z
      ∙ (ap (λ (t : List ℕ). take (length table) (drop 528 t)) now_is
      ∙ part_stored table s3 528 (omega (arith, o.fits, length_s3)))

  opened_values : values_of now ≡ []
  unfolding values_from
  opened_values = ap (λ (n : ℕ). values_from now 0 n) opened_count

  opened_sizes : sizes_right now 0 (count_of now) ≡ true
  unfolding sizes_right
  opened_sizes = ap (λ (n : ℕ). sizes_right now 0 n) opened_count

  opened_apart : different (values_of now) ≡ true
  unfolding different
  opened_apart = ap different opened_values

  pub opening_keeps : Keeps now table needed []
  opening_keeps = record {
    holding = record {
      head = record {
        long = omega (arith, length_now, o.fits);
        least = omega (arith, size_is);
        fits = omega (arith, size_is, length_now, o.fits);
        kind = kind_is;
        some_needed = omega (arith, opened_needed, o.some_needed);
        few_needed = omega (arith, opened_needed, o.few_needed);
        few = omega (arith, opened_count);
      };
      sizes = opened_sizes;
      apart = opened_apart;
      table = ap tableCheck opened_table ∙ o.checked;
    };
    table_is = opened_table;
    needed_is = opened_needed;
    values_are = opened_values;
  }

-- ---- one value more

module _ (s v : List ℕ) (h : Holding s) (some_bytes : 1 ≤ length v) (short : length v ≤ 64) (new : has v (values_of s) ≡ false) (room : count_of s < 8) where
  abbrev n : ℕ
  n = count_of s

  abbrev at : ℕ
  at = 8 + 65 * n

  abbrev t1 : List ℕ
  t1 = set s 7 (n + 1)

  abbrev more : List ℕ
  more = added_to s v

  length_t1 : length t1 ≡ length s
  length_t1 = length-set s 7 (n + 1)

  length_more : length more ≡ length s
  length_more = length-sets t1 at (length v ∷ v) ∙ length_t1

  le_stays : (k i : ℕ) → i + k ≤ 7 → word_at k more i ≡ word_at k s i
  le_stays k i l = word_before k i at (length v ∷ v) t1 (omega arith) ∙ word_before k i 7 ((n + 1) ∷ []) s l

  needed_stays : needed_of more ≡ needed_of s
  needed_stays = sets_before (length v ∷ v) t1 at 6 (omega arith) ∙ get_or-set_other s 7 6 (n + 1) 0 (λ z. omega arith)

  count_more : count_of more ≡ n + 1
  count_more = sets_before (length v ∷ v) t1 at 7 (omega arith) ∙ get_or-set_same s 7 (n + 1) 0 (omega (arith, h.head.long))

  table_stays : table_of more ≡ table_of s
  table_stays =
      ap (λ (k : ℕ). take (4 + k - 528) (drop 528 more)) (le_stays 4 0 (omega arith))
      ∙ ap (take (size_of s - 528)) (drop_after 528 (length v ∷ v) t1 at (omega arith) ∙ drop-set-lt 528 s 7 (n + 1) (omega arith))

  -- the values that were there, and the new one
  size_stays : (i : ℕ) → i < n → value_size more i ≡ value_size s i
  size_stays i l = sets_before (length v ∷ v) t1 at (8 + 65 * i) (omega arith) ∙ get_or-set_other s 7 (8 + 65 * i) (n + 1) 0 (λ z. omega arith)

  value_stays : (i : ℕ) → i < n → value_at more i ≡ value_at s i
  value_stays i l =
      let z = size_at_lem s (holding_sized s h) i l in
      ap (λ (k : ℕ). take k (drop (9 + 65 * i) more)) (size_stays i l)
      ∙ (part_before (9 + 65 * i) (value_size s i) (length v ∷ v) t1 at (omega (arith, z.1))
      ∙ ap (take (value_size s i)) (drop-set-lt (9 + 65 * i) s 7 (n + 1) (omega arith)))

  values_stay : (i k : ℕ) → i + k ≤ n → values_from more i k ≡ values_from s i k
  unfolding values_from
  values_stay i zero l = refl
  values_stay i (suc k) l = ap₂ (λ (x : List ℕ) (xs : List (List ℕ)). x ∷ xs) (value_stays i (omega arith)) (values_stay (suc i) k (omega arith))

  size_new : value_size more n ≡ length v
  size_new = sets_before v (set t1 at (length v)) (suc at) at (omega arith) ∙ get_or-set_same t1 at (length v) 0 (omega (arith, length_t1, h.head.long))

  value_new : value_at more n ≡ v
  value_new =
      let e : 9 + 65 * n ≡ suc at = omega arith in
      ap (λ (k : ℕ). take k (drop (9 + 65 * n) more)) size_new
      ∙ (ap (λ (k : ℕ). take (length v) (drop k more)) e
      ∙ part_stored v (set t1 at (length v)) (suc at) (simp length-set (omega (arith, h.head.long))))

  values_more : values_of more ≡ values_of s ++ (v ∷ [])
  values_more =
      let e : count_of more ≡ suc n = omega (arith, count_more) in
      let z : 0 + n ≡ n = omega arith in
      ap (λ (k : ℕ). values_from more 0 k) e
      ∙ (values_snoc more 0 n
      ∙ ap₂ (λ (xs : List (List ℕ)) (x : List ℕ). xs ++ (x ∷ [])) (values_stay 0 n (omega arith)) (ap (value_at more) z ∙ value_new))

  sizes_more : sizes_right more 0 (count_of more) ≡ true
  sizes_more = sizes_all more 0 (count_of more) (λ k l. let z : 0 + k ≡ k = omega arith in rw z (by k l (dec_lt k n)))
    where
      by : (k : ℕ) → k < count_of more → Dec (k < n) → (1 ≤ value_size more k) × (value_size more k ≤ 64)
      by k l (yes d) = let a = size_at_lem s (holding_sized s h) k d in rw (size_stays k d) a
      by k l (no d) =
          let e : k ≡ n = omega (arith, count_more) in
          rw (e, size_new) (some_bytes, short)

  pub added_keeps : Keeps more (table_of s) (needed_of s) (values_of s ++ (v ∷ []))
  added_keeps = record {
    holding = record {
      head = record {
        long = omega (arith, length_more, h.head.long);
        least = omega (arith, le_stays 4 0 (omega arith), h.head.least);
        fits = omega (arith, le_stays 4 0 (omega arith), length_more, h.head.fits);
        kind = le_stays 2 4 (omega arith) ∙ h.head.kind;
        some_needed = omega (arith, needed_stays, h.head.some_needed);
        few_needed = omega (arith, needed_stays, h.head.few_needed);
        few = omega (arith, count_more);
      };
      sizes = sizes_more;
      apart = ap different values_more ∙ different_snoc v (values_of s) h.apart new;
      table = ap tableCheck table_stays ∙ h.table;
    };
    table_is = table_stays;
    needed_is = needed_stays;
    values_are = values_more;
  }
