-- The walk, one field at a time: what a field is, the fields kept, and the list. Assumes nothing.
use mathlib.Core.Path.{◌≡◌, refl, sym, ap, ap₂, ◌∙◌}
use mathlib.Core.Bool.{Bool, true, false, cond, ◌||◌}
use mathlib.Core.List.{List, [], ◌∷◌, ◌++◌, append_assoc, append-nil}
use Prim.Native.Nat.{ℕ, zero, suc, ◌+◌, ◌-◌, ◌*◌, ◌≤◌, ◌<◌}
use native.Mathlib.Omega.{arith}
use lib.Dec.{ltb}
use lib.ListN.{length, get_or, length-append, get_or-eq_default}
use borrow.Author.Tests.{lt-ltb, le-ltb, ltb-false}
use Rattle.common.specs.Choice.{pick}
use Rattle.common.proofs.Choice.{true_false}
use Rattle.word.specs.Word.{word_at}
use Rattle.octets.specs.Octets.{same_of, before_of}
use Rattle.notice.specs.Field.{Field}
use Rattle.notice.specs.Render.{field_bytes, fields_bytes}
use Rattle.notice.specs.Layout.{size_at, next_at, name_at, field_at, right_at}
use Rattle.notice.specs.Write.{has_name, insert_field, sorted}
use Rattle.notice.proofs.Inserts.{fields_append}
use Rattle.notice.proofs.Orders.{or_no, insert_swap}
use Rattle.notice.proofs.Sorted.{sorted_named, sorted_length}
use Rattle.mend.specs.Mend.{Entry, cut_at, has_greater, code_among, code_at, stays, kept_with, list_from, list_of, kept_in, kept_of}
use Rattle.mend.specs.Order.{fields_in, InOrder, Admits}
use Rattle.mend.proofs.Orders.{order_length}
use Rattle.mend.proofs.Stores.{field_size_lem}

pub single_byte : (s : List ℕ) (at : ℕ) → length s ≤ suc at → get_or s at 0 ≡ size_at s at
unfolding word_at
single_byte s at h =
    let z : get_or s (suc at) 0 ≡ 0 = get_or-eq_default s 0 h in
    omega arith

-- ---- what a field is

-- a cut, a bad and a right field
module _ (s : List ℕ) (kept : List Field) (at : ℕ) where
  not_cut : next_at s at ≤ length s → cut_at s at ≡ false
  not_cut h = le-ltb (length s) (next_at s at) h

  pub is_among : next_at s at ≤ length s → right_at s at ≡ true → code_among kept (name_at s at) ≡ code_at s kept at
  is_among h e = ap₂ (λ (a b : Bool). cond a 4 (cond b (code_among kept (name_at s at)) 3)) (sym (not_cut h)) (sym e)

-- a field that stays
pub record Stays (s : List ℕ) (kept : List Field) (at : ℕ) : Type 0 where
  pub within : next_at s at ≤ length s
  pub right : right_at s at ≡ true
  pub new : has_name (name_at s at) kept ≡ false

pub stays_is : (s : List ℕ) (kept : List Field) (at : ℕ) → stays (code_at s kept at) ≡ true → Stays s kept at
stays_is s kept at = go (cut_at s at) (right_at s at) (has_name (name_at s at) kept) refl refl refl
  where
    go : (a b d : Bool) → cut_at s at ≡ a → right_at s at ≡ b → has_name (name_at s at) kept ≡ d
        → stays (cond a 4 (cond b (cond d 2 (cond (has_greater (name_at s at) kept) 1 0)) 3)) ≡ true → Stays s kept at
    go false true false p q r h = record { within = ltb-false (length s) (next_at s at) p; right = q; new = r }
    go false true true p q r h = true_false (sym h)
    go false false d p q r h = true_false (sym h)
    go true b d p q r h = true_false (sym h)

-- the order of those kept does not matter
insert_greater : (name : List ℕ) (f : Field) (fs : List Field) → has_greater name (insert_field f fs) ≡ has_greater name (f ∷ fs)
insert_greater name f [] = refl
insert_greater name f (g ∷ gs) = go (before_of f.name g.name) (insert_greater name f gs)
  where
    turn : (a b d : Bool) → (b || (a || d)) ≡ (a || (b || d))
    turn true true d = refl
    turn true false d = refl
    turn false true d = refl
    turn false false d = refl

    go : (b : Bool) → has_greater name (insert_field f gs) ≡ (before_of name f.name || has_greater name gs)
        → has_greater name (cond b (f ∷ (g ∷ gs)) (g ∷ insert_field f gs)) ≡ (before_of name f.name || (before_of name g.name || has_greater name gs))
    go true e = refl
    go false e = ap (λ (b : Bool). before_of name g.name || b) e ∙ turn (before_of name f.name) (before_of name g.name) (has_greater name gs)

sorted_greater : (name : List ℕ) (fs : List Field) → has_greater name (sorted fs) ≡ has_greater name fs
unfolding sorted
sorted_greater name [] = refl
sorted_greater name (f ∷ fs) = insert_greater name f (sorted fs) ∙ ap (λ (b : Bool). before_of name f.name || b) (sorted_greater name fs)

pub sorted_code : (s : List ℕ) (kept : List Field) (at : ℕ) → code_at s (sorted kept) at ≡ code_at s kept at
sorted_code s kept at =
    ap₂ (λ (a b : Bool). cond (cut_at s at) 4 (cond (right_at s at) (cond a 2 (cond b 1 0)) 3)) (sorted_named (name_at s at) kept) (sorted_greater (name_at s at) kept)

-- .. nor whether a new one comes last
pub sorted_last : (fs : List Field) (f : Field) → has_name f.name fs ≡ false → sorted (fs ++ (f ∷ [])) ≡ insert_field f (sorted fs)
unfolding sorted
sorted_last [] f e = refl
sorted_last (g ∷ fs) f e =
    let p = or_no (same_of g.name f.name) (has_name f.name fs) e in
    ap (insert_field g) (sorted_last fs f p.1) ∙ insert_swap g f p.0 (sorted fs)

-- ---- one field of the walk

module _ (s : List ℕ) where
  pub list_end : (n : ℕ) (kept : List Field) (at : ℕ) → length s ≤ at → list_from n s kept at ≡ []
  unfolding list_from
  list_end zero kept at h = refl
  list_end (suc n) kept at h = rw (le-ltb at (length s) h)

  list_suc : (n : ℕ) (kept : List Field) (at : ℕ) → at < length s
      → list_from (suc n) s kept at ≡ record { offset = at; code = code_at s kept at } ∷ list_from n s (kept_with s kept at) (next_at s at)
  unfolding list_from
  list_suc n kept at h = rw (lt-ltb at (length s) h)

  pub list_more : (n : ℕ) (kept : List Field) (at : ℕ) → 0 < n → at < length s
      → list_from n s kept at ≡ record { offset = at; code = code_at s kept at } ∷ list_from (n - 1) s (kept_with s kept at) (next_at s at)
  list_more n kept at p h = let z : n ≡ suc (n - 1) = omega arith in ap (λ (k : ℕ). list_from k s kept at) z ∙ list_suc (n - 1) kept at h

  pub list_short : (n : ℕ) (kept : List Field) (at : ℕ) → length (list_from n s kept at) ≤ n
  unfolding list_from
  list_short zero kept at = omega arith
  list_short (suc n) kept at = go (ltb at (length s)) (list_short n (kept_with s kept at) (next_at s at))
    where
      go : (b : Bool) → length (list_from n s (kept_with s kept at) (next_at s at)) ≤ n
          → length (pick b (λ _. record { offset = at; code = code_at s kept at } ∷ list_from n s (kept_with s kept at) (next_at s at)) (λ _. [])) ≤ suc n
      go true h = omega arith
      go false h = omega arith

  -- what is kept so far, and in the list of the rest
  pub kept_more : (kept : List Field) (at : ℕ) (es : List Entry) → kept ++ kept_in s (record { offset = at; code = code_at s kept at } ∷ es) ≡ kept_with s kept at ++ kept_in s es
  kept_more kept at es = go (stays (code_at s kept at))
    where
      go : (b : Bool) → kept ++ cond b (field_at s at ∷ kept_in s es) (kept_in s es) ≡ cond b (kept ++ (field_at s at ∷ [])) kept ++ kept_in s es
      go true = sym (append_assoc kept (field_at s at ∷ []) (kept_in s es))
      go false = refl

-- the bytes of the fields kept
pub kept_size : (s : List ℕ) (kept : List Field) (at : ℕ) → length (fields_bytes (kept_with s kept at)) ≡ length (fields_bytes kept) + cond (stays (code_at s kept at)) (next_at s at - at) 0
kept_size s kept at = go (stays (code_at s kept at)) refl
  where
    go : (b : Bool) → stays (code_at s kept at) ≡ b → length (fields_bytes (cond b (kept ++ (field_at s at ∷ [])) kept)) ≡ length (fields_bytes kept) + cond b (next_at s at - at) 0
    go true e =
        let f = field_at s at in
        omega (
          arith,
          ap length (fields_append kept (f ∷ [])),
          length-append (fields_bytes kept) (field_bytes f ++ []),
          length-append (field_bytes f) [],
          field_size_lem s at (stays_is s kept at e).right,
        )
    go false e = omega arith

-- ---- where either pass is

pub record Walked (s order : List ℕ) (kept : List Field) (n at count : ℕ) : Type 0 where
  pub in_order : InOrder s order n
  pub fields_are : fields_in s order n ≡ sorted kept
  pub all : kept ++ kept_in s (list_from (length s - count) s kept at) ≡ kept_of s
  pub listed : count + length (list_from (length s - count) s kept at) ≡ length (list_of s)
  pub from : 8 + 2 * count ≤ at
  pub taken : 8 + length (fields_bytes kept) ≤ at
  pub short : 8 + length (fields_bytes kept) ≤ length s
  pub below : at < 81922

pub walk_starts : (s order : List ℕ) → 8 ≤ length s → length order ≡ 65 → Walked s order [] 0 8 0
unfolding sorted
walk_starts s order g h =
    let z : length s - 0 ≡ length s = omega arith in
    record {
      in_order = first order h;
      fields_are = no_fields order;
      all = ap (λ (k : ℕ). kept_in s (list_from k s [] 8)) z;
      listed = omega (arith, ap (λ (k : ℕ). length (list_from k s [] 8)) z);
      from = omega arith;
      taken = omega arith;
      short = omega arith;
      below = omega arith;
    }
  where
    no_fields : (x : List ℕ) → fields_in s x 0 ≡ []
    no_fields [] = refl
    no_fields (b ∷ bs) = refl

    first : (x : List ℕ) → length x ≡ 65 → InOrder s x 0
    first [] e = record { long = e; few = omega arith; right = tt; rise = refl }
    first (b ∷ bs) e = record { long = e; few = omega arith; right = tt; rise = refl }

pub less : (b : Bool) (k : ℕ) → cond b k 0 ≤ k
less true k = omega arith
less false k = omega arith

module _ (s order : List ℕ) (kept : List Field) (n at count : ℕ) (w : Walked s order kept n at count) where
  pub kept_length : length kept ≡ n
  kept_length = sym (sorted_length kept) ∙ (sym (ap length w.fields_are) ∙ order_length s order n w.in_order)

  -- what was kept so far is part of all that is kept
  pub part_of : n ≤ length (kept_of s)
  part_of = omega (arith, kept_length, ap length w.all, length-append kept (kept_in s (list_from (length s - count) s kept at)))

  pub ended : length s ≤ at → (kept ≡ kept_of s) × (count ≡ length (list_of s))
  ended h =
      let e : list_from (length s - count) s kept at ≡ [] = list_end s (length s - count) kept at h in
      let l : length (list_from (length s - count) s kept at) ≡ 0 = ap length e in
      (sym (ap (λ (es : List Entry). kept ++ kept_in s es) e ∙ append-nil kept) ∙ w.all, omega (arith, w.listed))

  module _ (h : at < length s) where
    abbrev next : List Field
    next = kept_with s kept at

    pub list_on : list_from (length s - count) s kept at ≡ record { offset = at; code = code_at s kept at } ∷ list_from (length s - (count + 1)) s next (next_at s at)
    list_on =
        let one_less : length s - count - 1 ≡ length s - (count + 1) = omega arith in
        list_more s (length s - count) kept at (omega (arith, w.from)) h
        ∙ ap (λ (k : ℕ). record { offset = at; code = code_at s kept at } ∷ list_from k s next (next_at s at)) one_less

    -- one turn, by what `admit` answers and leaves
    module _ (after : List ℕ) (code : ℕ) (a : Admits s order n at after code) where
      pub code_is : code ≡ code_at s kept at
      code_is = a.code_is ∙ (ap (λ (fs : List Field). code_at s fs at) w.fields_are ∙ sorted_code s kept at)

      grown : (b : Bool) → stays (code_at s kept at) ≡ b → cond b (insert_field (field_at s at) (sorted kept)) (sorted kept) ≡ sorted (cond b (kept ++ (field_at s at ∷ [])) kept)
      grown true e = sym (sorted_last kept (field_at s at) (stays_is s kept at e).new)
      grown false e = refl

      pub walks-on : next_at s at < 81922 → Walked s after next (n + cond (stays code) 1 0) (next_at s at) (count + 1)
      walks-on u = record {
        in_order = a.in_order;
        fields_are = a.fields_are
            ∙ (ap₂ (λ (x : ℕ) (fs : List Field). cond (stays x) (insert_field (field_at s at) fs) fs) code_is w.fields_are ∙ grown (stays (code_at s kept at)) refl);
        all = sym (kept_more s kept at (list_from (length s - (count + 1)) s next (next_at s at))) ∙ (ap (λ (es : List Entry). kept ++ kept_in s es) (sym list_on) ∙ w.all);
        listed = omega (arith, w.listed, ap length list_on);
        from = omega (arith, w.from);
        taken = omega (arith, w.taken, kept_size s kept at, less (stays (code_at s kept at)) (next_at s at - at));
        short = still-short (stays (code_at s kept at)) refl;
        below = u;
      }
        where
          still-short : (b : Bool) → stays (code_at s kept at) ≡ b → 8 + length (fields_bytes next) ≤ length s
          still-short true e =
              omega (arith, w.taken, kept_size s kept at, less (stays (code_at s kept at)) (next_at s at - at), (stays_is s kept at e).within)
          still-short false e =
              let z : cond (stays (code_at s kept at)) (next_at s at - at) 0 ≡ 0 = ap (λ (b : Bool). cond b (next_at s at - at) 0) e in
              omega (arith, w.short, kept_size s kept at)
