-- What is kept: right fields whose names rise when they are put in order; what is kept of a notice; and the list, read back. Assumes nothing.
use mathlib.Core.Path.{◌≡◌, refl, sym, ap, ap₂, ◌∙◌}
use mathlib.Core.Bool.{Bool, true, false, cond, not, ◌&&◌, ◌||◌}
use mathlib.Core.List.{List, [], ◌∷◌, ◌++◌, map, append_assoc, append-nil}
use Prim.Native.Nat.{ℕ, zero, suc, ◌+◌, ◌-◌, ◌≤◌, ◌<◌}
use native.Mathlib.Omega.{arith}
use lib.Dec.{eqb, ltb}
use lib.ListN.{length, length-append}
use borrow.Author.Tests.{ltb-true, le-ltb}
use Rattle.common.specs.Choice.{pick}
use Rattle.common.specs.Each.{Each}
use Rattle.word.specs.Word.{word_at, word_bytes}
use Rattle.word.proofs.Theorems.{bytes_read}
use Rattle.octets.specs.Octets.{before_of}
use Rattle.octets.proofs.Theorems.{and_parts}
use Rattle.notice.specs.Field.{Field, field_right, all_right, before_first, rising}
use Rattle.notice.specs.Render.{field_bytes, fields_bytes, NoticeFields}
use Rattle.notice.specs.Layout.{next_at, name_at, field_at, lies_at, right_at, starts_from}
use Rattle.notice.specs.Write.{has_name, sorted}
use Rattle.notice.proofs.Fields.{right_small, length_field, field_read, next_read, lies_read}
use Rattle.notice.proofs.Places.{lies_true}
use Rattle.notice.proofs.Walks.{starts_end, starts_more}
use Rattle.notice.proofs.Renders.{length_render}
use Rattle.notice.proofs.Orders.{insert_rising, insert_right, before_not_after, all_before, all_before_first, before_new, before_both, before_end}
use Rattle.notice.proofs.Sorted.{sorted_named, sorted_size}
use Rattle.mend.specs.Mend.{Entry, has_greater, code_among, code_at, stays, kept_with, list_from, kept_in, kept_of, list_bytes}
use Rattle.mend.specs.Theorems.{entries_in, all_kept, cut_last}
use Rattle.mend.proofs.Walks.{less, is_among, stays_is, sorted_last, list_end, list_more, kept_more, kept_size}

-- ---- right fields, rising names, and no more bytes than there are

pub record Sound (s : List ℕ) (kept : List Field) : Type 0 where
  pub right : all_right (sorted kept) ≡ true
  pub rises : rising (sorted kept) ≡ true
  pub short : 8 + length (fields_bytes kept) ≤ length s

module _ (s : List ℕ) (kept : List Field) (at : ℕ) (w : Sound s kept) (t : 8 + length (fields_bytes kept) ≤ at) where
  still_taken : 8 + length (fields_bytes (kept_with s kept at)) ≤ next_at s at
  still_taken = omega (arith, kept_size s kept at, less (stays (code_at s kept at)) (next_at s at - at))

  still_sound : (b : Bool) → stays (code_at s kept at) ≡ b → Sound s (cond b (kept ++ (field_at s at ∷ [])) kept)
  still_sound false e = w
  still_sound true e =
      let x = stays_is s kept at e in
      let g = field_at s at in
      let o = sorted_last kept g x.new in
      let k : kept_with s kept at ≡ kept ++ (g ∷ []) = ap (λ (b : Bool). cond b (kept ++ (g ∷ [])) kept) e in
      record {
        right = ap all_right o ∙ insert_right g (sorted kept) (and_parts (lies_at s at) (field_right g) x.right).1 w.right;
        rises = ap rising o ∙ insert_rising g (sorted kept) w.rises (sorted_named (name_at s at) kept ∙ x.new);
        short = omega (arith, still_taken, x.within, ap (λ (fs : List Field). length (fields_bytes fs)) k);
      }

kept_sound : (n : ℕ) (s : List ℕ) (kept : List Field) (at : ℕ) → Sound s kept → 8 + length (fields_bytes kept) ≤ at → Sound s (kept ++ kept_in s (list_from n s kept at))
unfolding list_from
kept_sound zero s kept at w t = rw (append-nil kept) w
kept_sound (suc n) s kept at w t =
    go (ltb at (length s)) (kept_sound n s (kept_with s kept at) (next_at s at) (still_sound s kept at w t (stays (code_at s kept at)) refl) (still_taken s kept at w t))
  where
    go : (b : Bool) → Sound s (kept_with s kept at ++ kept_in s (list_from n s (kept_with s kept at) (next_at s at)))
        → Sound s (kept ++ kept_in s (pick b (λ _. record { offset = at; code = code_at s kept at } ∷ list_from n s (kept_with s kept at) (next_at s at)) (λ _. [])))
    go true ih = along (kept_more s kept at (list_from n s (kept_with s kept at) (next_at s at))) ih
      where
        along : {x y : List Field} → x ≡ y → Sound s y → Sound s x
        along e v = rw e v
    go false ih = rw (append-nil kept) w

pub kept_fields : (s : List ℕ) → 8 ≤ length s → length s ≤ 16384 → length (sorted (kept_of s)) ≤ 64 → NoticeFields (sorted (kept_of s))
unfolding sorted
kept_fields s g h m =
    let w = kept_sound (length s) s [] 8 none (omega arith) in
    record { few = m; right = w.right; rises = w.rises; short = omega (arith, w.short, length_render (sorted (kept_of s)), sorted_size (kept_of s)) }
  where
    none : Sound s []
    none = record { right = refl; rises = refl; short = omega arith }

-- ---- the walk over the fields of a notice keeps each

none_greater : (acc : List Field) (name : List ℕ) → all_before acc name ≡ true → has_greater name acc ≡ false
none_greater [] name e = refl
none_greater (g ∷ gs) name e =
    let p = and_parts (before_of g.name name) (all_before gs name) e in
    ap₂ (λ (a b : Bool). a || b) (before_not_after g.name name p.0) (none_greater gs name p.1)

pub all_kept_lem : (fs : List Field) (s p : List ℕ) (kept : List Field) (n : ℕ) → s ≡ p ++ fields_bytes fs → all_right fs ≡ true → rising fs ≡ true → all_before_first kept fs ≡ true → length fs ≤ n
    → list_from n s kept (length p) ≡ all_kept (starts_from (length fs) s (length p))
all_kept_lem [] s p kept n e r u b m =
    let h : length s ≤ length p = omega (arith, ap length (e ∙ append-nil p)) in
    list_end s n kept (length p) h ∙ ap all_kept (sym (starts_end s (length p)))
all_kept_lem (f ∷ fs) s p kept n e r u b m =
    let a = and_parts (field_right f) (all_right fs) r in
    let v = and_parts (before_first f.name fs) (rising fs) u in
    let small = right_small f a.0 in
    let at = length p in
    let field : field_at s at ≡ f = ap (λ (t : List ℕ). field_at t at) e ∙ field_read p (fields_bytes fs) f small in
    let lies : lies_at s at ≡ true = ap (λ (t : List ℕ). lies_at t at) e ∙ lies_read p (fields_bytes fs) f small in
    let next : next_at s at ≡ length (p ++ field_bytes f) = ap (λ (t : List ℕ). next_at t at) e ∙ next_read p (fields_bytes fs) f small in
    let right : right_at s at ≡ true = ap₂ (λ (x : Bool) (g : Field). x && field_right g) lies field ∙ a.0 in
    let l = lies_true s at lies in
    let zero-code : code_at s kept at ≡ 0 =
    sym (is_among s kept at l.within right)
    ∙ (ap (λ (g : Field). code_among kept g.name) field ∙ ap₂ (λ (x y : Bool). cond x 2 (cond y 1 0)) (before_new kept f.name b) (none_greater kept f.name b)) in
    let with : kept_with s kept at ≡ kept ++ (f ∷ []) = ap₂ (λ (x : ℕ) (g : Field). cond (stays x) (kept ++ (g ∷ [])) kept) zero-code field in
    let again : s ≡ (p ++ field_bytes f) ++ fields_bytes fs = e ∙ sym (append_assoc p (field_bytes f) (fields_bytes fs)) in
    let ih = all_kept_lem fs s (p ++ field_bytes f) (kept ++ (f ∷ [])) (n - 1) again a.1 v.1 (after fs v.0) (omega arith) in
    let on : list_from n s kept at ≡ record { offset = at; code = 0 } ∷ list_from (n - 1) s (kept ++ (f ∷ [])) (length (p ++ field_bytes f)) =
    list_more s n kept at (omega arith) (omega (arith, l.within))
    ∙ (ap (λ (x : ℕ). record { offset = at; code = x } ∷ list_from (n - 1) s (kept_with s kept at) (next_at s at)) zero-code
    ∙ ap₂ (λ (x : List Field) (i : ℕ). record { offset = at; code = 0 } ∷ list_from (n - 1) s x i) with next) in
    let i : suc (length fs) - 1 ≡ length fs = omega arith in
    let starts : starts_from (suc (length fs)) s at ≡ at ∷ starts_from (length fs) s (length (p ++ field_bytes f)) =
    starts_more s at (suc (length fs)) (omega arith) lies ∙ ap₂ (λ (x y : ℕ). at ∷ starts_from x s y) i next in
    on ∙ (ap (λ (x : List Entry). record { offset = at; code = 0 } ∷ x) ih ∙ ap all_kept (sym starts))
  where
    after : (gs : List Field) → before_first f.name gs ≡ true → all_before_first (kept ++ (f ∷ [])) gs ≡ true
    after [] x = refl
    after (g ∷ gs) x = before_end kept f g.name (before_both kept f.name g.name b x) x

pub kept_all : (s ats : List ℕ) → kept_in s (all_kept ats) ≡ map (field_at s) ats
kept_all s [] = refl
kept_all s (a ∷ ats) = ap (λ (fs : List Field). field_at s a ∷ fs) (kept_all s ats)

pub fields_fit : (fs : List Field) → length fs ≤ length (fields_bytes fs)
fields_fit [] = omega arith
fields_fit (f ∷ fs) = omega (arith, fields_fit fs, length-append (field_bytes f) (fields_bytes fs), length_field f)

-- ---- the list

-- each field of it lies at an offset below the end, and is right if it stays
pub listed_below : (n : ℕ) (s : List ℕ) (kept : List Field) (at : ℕ) → Each (λ e. (e.offset < length s) × (stays e.code ≡ true → right_at s e.offset ≡ true)) (list_from n s kept at)
unfolding list_from
listed_below zero s kept at = tt
listed_below (suc n) s kept at = go (ltb at (length s)) refl (listed_below n s (kept_with s kept at) (next_at s at))
  where
    go : (b : Bool) → ltb at (length s) ≡ b → Each (λ e. (e.offset < length s) × (stays e.code ≡ true → right_at s e.offset ≡ true)) (list_from n s (kept_with s kept at) (next_at s at))
        → Each (λ e. (e.offset < length s) × (stays e.code ≡ true → right_at s e.offset ≡ true)) (pick b (λ _. record { offset = at; code = code_at s kept at } ∷ list_from n s (kept_with s kept at) (next_at s at)) (λ _. []))
    go true e ih = ((ltb-true at (length s) e, λ h. (stays_is s kept at h).right), ih)
    go false e ih = tt

-- .. and is read back
pub entries_read : (es : List Entry) (rest : List ℕ) → Each (λ e. e.offset < 65536) es → entries_in (length es) (list_bytes es ++ rest) ≡ es
unfolding entries_in word_bytes
entries_read [] rest h = refl
entries_read (e ∷ es) rest h =
    let w : word_at 2 (word_bytes 2 e.offset ++ (e.code ∷ (list_bytes es ++ rest))) 0 ≡ e.offset = bytes_read 2 e.offset [] (e.code ∷ (list_bytes es ++ rest)) h.0 in
    ap₂ (λ (o : ℕ) (ds : List Entry). record { offset = o; code = e.code } ∷ ds) w (entries_read es rest h.1)

-- a field before another is not cut
uncut : (s : List ℕ) (kept : List Field) (at : ℕ) → ltb (next_at s at) (length s) ≡ true → eqb (code_at s kept at) 4 ≡ false
uncut s kept at h =
    let p = ltb-true (next_at s at) (length s) h in
    ap (λ (b : Bool). eqb (cond b 4 (cond (right_at s at) (code_among kept (name_at s at)) 3)) 4) (le-ltb (length s) (next_at s at) (omega arith))
    ∙ go (right_at s at) (has_name (name_at s at) kept) (has_greater (name_at s at) kept)
  where
    go : (r a b : Bool) → eqb (cond r (cond a 2 (cond b 1 0)) 3) 4 ≡ false
    go true true b = refl
    go true false true = refl
    go true false false = refl
    go false a b = refl

pub cut_last_lem : (n : ℕ) (s : List ℕ) (kept : List Field) (at : ℕ) → cut_last (list_from n s kept at) ≡ true
unfolding list_from
cut_last_lem zero s kept at = refl
cut_last_lem (suc zero) s kept at = go (ltb at (length s))
  where
    go : (b : Bool) → cut_last (pick b (λ _. record { offset = at; code = code_at s kept at } ∷ []) (λ _. [])) ≡ true
    go true = refl
    go false = refl
cut_last_lem (suc (suc n)) s kept at = go (ltb at (length s)) (ltb (next_at s at) (length s)) refl (cut_last_lem (suc n) s (kept_with s kept at) (next_at s at))
  where
    rest : Bool → List Entry
    rest b = pick b (λ _. record { offset = next_at s at; code = code_at s (kept_with s kept at) (next_at s at) } ∷ list_from n s (kept_with s (kept_with s kept at) (next_at s at)) (next_at s (next_at s at))) (λ _. [])

    go : (a b : Bool) → ltb (next_at s at) (length s) ≡ b → cut_last (rest b) ≡ true → cut_last (pick a (λ _. record { offset = at; code = code_at s kept at } ∷ rest b) (λ _. [])) ≡ true
    go false b e ih = refl
    go true false e ih = refl
    go true true e ih = ap₂ (λ (x y : Bool). not x && y) (uncut s kept at e) ih
