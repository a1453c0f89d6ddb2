-- Where field k of a notice lies, and its parts. Assumes nothing.
use Rattle.std.specs.Prelude.{Ok, Err}
use Rattle.std.proofs.Common.{◌≡◌, ℕ, zero, suc, ◌+◌, ◌-◌, ◌<◌, ◌≤◌, Bool, true, false, ltb, List, [], ◌∷◌, map, length, get_or, take, drop, sym, refl, ap, ◌∙◌, add-one, arith, length-drop, drop-cons, ltb-false, ltb-true, le-ltb, lt-ltb, le-leb}
use lib.ListN.{length-map}
use Rattle.common.specs.Choice.{pick}
use Rattle.word.specs.Word.{Bytes}
use Rattle.refusal.specs.declared.Refusal.{Refusal}
use Rattle.refusal.proofs.Numbers.{not_zero}
use Rattle.refusal.specs.Refusal.{number_of as refusal_number, place_of as refusal_place}
use Rattle.notice.specs.Layout.{Layout}
use Rattle.notice.specs.Read.{PlaceAnswer}
use Rattle.notice.specs.Field.{Field}
use Rattle.notice.specs.Layout.{kind_at, name_size_at, value_size_at, next_at, value_start, field_at, lies_at, length_right, count_of, check_of, starts_from, starts_of}
use Rattle.notice.specs.Read.{part_of, read_number, read_place, blank, read_field, locate_at, nowhere, locate_of, Located}
use Rattle.notice.proofs.Places.{Lies, lies_true}
use Rattle.notice.proofs.Walks.{starts_end, starts_more, starts_stop}
use Rattle.notice.proofs.Renders.{well_count}

-- the bytes from a to e
module _ (s : List ℕ) (a e : ℕ) where
  pub is_part_lem : a ≤ e → e ≤ length s → take (e - a) (drop a s) ≡ part_of s a e
  is_part_lem p q = rw (le-leb a e p, le-leb e (length s) q)

-- where there is a start, the field there lies within the notice
first_lies : (n : ℕ) (s : List ℕ) (at : ℕ) → 0 < length (starts_from n s at) → (0 < n) × (lies_at s at ≡ true)
first_lies zero s at h = let e = ap length (starts_end s at) in absurd (omega arith)
first_lies (suc n) s at h = go (lies_at s at) refl
  where
    go : (b : Bool) → lies_at s at ≡ b → (0 < suc n) × (lies_at s at ≡ true)
    go true e = (omega arith, e)
    go false e = let z = ap length (starts_stop s at (suc n) (omega arith) e) in absurd (omega arith)

pub each_lies : (n : ℕ) (s : List ℕ) (at k : ℕ) → k < length (starts_from n s at) → lies_at s (get_or (starts_from n s at) k 0) ≡ true
each_lies zero s at k h = let e = ap length (starts_end s at) in absurd (omega arith)
each_lies (suc n) s at k h =
    let f = first_lies (suc n) s at (omega arith) in
    let i : suc n - 1 ≡ n = omega arith in
    let m : starts_from (suc n) s at ≡ at ∷ starts_from n s (next_at s at) = rw i at (starts_more s at (suc n) (omega arith) f.1) in
    rw m (go k (rw m at h) f.1 (each_lies n s (next_at s at)))
  where
    go : (j : ℕ) → j < suc (length (starts_from n s (next_at s at))) → lies_at s at ≡ true → ((k : ℕ) → k < length (starts_from n s (next_at s at)) → lies_at s (get_or (starts_from n s (next_at s at)) k 0) ≡ true)
        → lies_at s (get_or (at ∷ starts_from n s (next_at s at)) j 0) ≡ true
    go zero p e ih = e
    go (suc j) p e ih = ih j (omega arith)

some_start : (s : List ℕ) → 0 < length (starts_of s) → starts_of s ≡ starts_from (count_of s) s 8
some_start s h = go (length_right s) h
  where
    go : (b : Bool) → 0 < length (pick b (λ _. starts_from (count_of s) s 8) (λ _. [])) → pick b (λ _. starts_from (count_of s) s 8) (λ _. []) ≡ starts_from (count_of s) s 8
    go true p = refl
    go false p = absurd (omega arith)

pub start_lies : (s : List ℕ) (k : ℕ) → k < length (starts_of s) → lies_at s (get_or (starts_of s) k 0) ≡ true
start_lies s k h =
    let e = some_start s (omega arith) in
    rw e (each_lies (count_of s) s 8 k (rw e at h))

-- the walk of `field_start`: after i fields
module _ (s : List ℕ) (k : ℕ) (h : k < length (starts_of s)) where
  abbrev pub After : ℕ → ℕ → Type 0
  After i at = drop i (starts_of s) ≡ starts_from (count_of s - i) s at

  after_lies : (i at : ℕ) → i ≤ k → After i at → (0 < count_of s - i) × (lies_at s at ≡ true)
  after_lies i at p e =
      let l : length (starts_of s) - i ≡ length (starts_from (count_of s - i) s at) = sym (length-drop i (starts_of s)) ∙ ap length e in
      first_lies (count_of s - i) s at (omega arith)

  pub after_within : (i at : ℕ) → i ≤ k → After i at → Lies s at
  after_within i at p e = lies_true s at (after_lies i at p e).1

  pub after_is : (i at : ℕ) → i ≤ k → After i at → at ≡ get_or (starts_of s) i 0
  after_is i at p e =
      let a = after_lies i at p e in
      let d = drop-cons (starts_of s) i 0 (omega arith) in
      let m = starts_more s at (count_of s - i) a.0 a.1 in
      let q : get_or (starts_of s) i 0 ∷ drop (suc i) (starts_of s) ≡ at ∷ starts_from (count_of s - i - 1) s (next_at s at) = sym d ∙ (e ∙ m) in
      cc

  pub after_more : (i at : ℕ) → i < k → After i at → After (i + 1) (next_at s at)
  after_more i at p e =
      let a = after_lies i at (omega arith) e in
      let d = drop-cons (starts_of s) i 0 (omega arith) in
      let m = starts_more s at (count_of s - i) a.0 a.1 in
      let q : get_or (starts_of s) i 0 ∷ drop (suc i) (starts_of s) ≡ at ∷ starts_from (count_of s - i - 1) s (next_at s at) = sym d ∙ (e ∙ m) in
      let t : drop (suc i) (starts_of s) ≡ starts_from (count_of s - i - 1) s (next_at s at) = cc in
      let n : count_of s - i - 1 ≡ count_of s - (i + 1) = omega arith in
      ap (λ (j : ℕ). drop j (starts_of s)) (add-one i) ∙ (t ∙ ap (λ (j : ℕ). starts_from j s (next_at s at)) n)

pub same_place : (s : List ℕ) (at kind value end : ℕ) → kind ≡ kind_at s at → value ≡ value_start s at → end ≡ next_at s at
    → ◌≡◌ {A = PlaceAnswer} (record { number = 0; place = 0; kind = kind; name = at + 5; value = value; end = end }) (locate_at s at)
same_place s at kind value end p q r = λ i. record { number = 0; place = 0; kind = p i; name = at + 5; value = q i; end = r i }

-- what `locate` answers, case by case
module _ (s : List ℕ) (bytes : Bytes s) (k : ℕ) where
  pub at_fault : (r : Refusal) → check_of s ≡ Err r → nowhere (refusal_number r) (refusal_place r) ≡ locate_of s k
  at_fault r e = rw (e, not_zero r)

  module _ (e : check_of s ≡ Ok tt) where
    pub past_count : count_of s ≤ k → nowhere 17 0 ≡ locate_of s k
    past_count h = rw (e, le-ltb k (count_of s) h)

    module _ (h : k < count_of s) where
      pub has-start : k < length (starts_of s)
      has-start = omega (arith, well_count s bytes e, length-map (starts_of s) (field_at s))

      pub lies_by : {at : ℕ} → at ≡ get_or (starts_of s) k 0 → Lies s at
      lies_by p = rw p (lies_true s (get_or (starts_of s) k 0) (start_lies s k has-start))

      pub located : locate_at s (get_or (starts_of s) k 0) ≡ locate_of s k
      located = rw (e, lt-ltb k (count_of s) h)

      field_is : read_field s k ≡ field_at s (get_or (starts_of s) k 0)
      field_is = rw (e, lt-ltb k (count_of s) h) (getD-mapped (starts_of s) k has-start)
        where
          getD-mapped : (ats : List ℕ) (j : ℕ) → j < length ats → get_or (map (field_at s) ats) j blank ≡ field_at s (get_or ats j 0)
          getD-mapped [] j p = absurd (omega arith)
          getD-mapped (at ∷ ats) zero p = refl
          getD-mapped (at ∷ ats) (suc j) p = getD-mapped ats j (omega arith)

  -- the field's parts lie where `locate` says
  no_parts_lem : (n place : ℕ) → nowhere n place ≡ locate_of s k → read_number s k ≡ n → read_place s ≡ place → read_field s k ≡ blank → Located s k (locate_of s k)
  no_parts_lem n place p r q f = rw (← p) (record {
    is = p;
    number_is = sym r;
    place_is = sym q;
    kind_is = ap (λ (x : Field). x.kind) (sym f);
    name_is = sym (is_part_lem s 0 0 (omega arith) (omega arith)) ∙ ap (λ (x : Field). x.name) (sym f);
    value_is = sym (is_part_lem s 0 0 (omega arith) (omega arith)) ∙ ap (λ (x : Field). x.value) (sym f);
  })

  some_parts : (at : ℕ) → Lies s at → locate_at s at ≡ locate_of s k → read_number s k ≡ 0 → read_place s ≡ 0 → read_field s k ≡ field_at s at → Located s k (locate_of s k)
  some_parts at l p r q f =
      let room = l.room in
      let within = l.within in
      let n : value_start s at - (at + 5) ≡ name_size_at s at = omega arith in
      let m : next_at s at - value_start s at ≡ value_size_at s at = omega arith in
      rw (← p) (record {
        is = p;
        number_is = sym r;
        place_is = sym q;
        kind_is = ap (λ (x : Field). x.kind) (sym f);
        name_is = sym (is_part_lem s (at + 5) (value_start s at) (omega arith) (omega arith)) ∙ (ap (λ (j : ℕ). take j (drop (at + 5) s)) n ∙ ap (λ (x : Field). x.name) (sym f));
        value_is = sym (is_part_lem s (value_start s at) (next_at s at) (omega arith) (omega arith)) ∙ (ap (λ (j : ℕ). take j (drop (value_start s at) s)) m ∙ ap (λ (x : Field). x.value) (sym f));
      })

  parts : Located s k (locate_of s k)
  parts = by_layout (check_of s) refl
    where
      by_count : check_of s ≡ Ok tt → (b : Bool) → ltb k (count_of s) ≡ b → Located s k (locate_of s k)
      by_count e true p =
          let h : k < count_of s = ltb-true k (count_of s) p in
          some_parts (get_or (starts_of s) k 0) (lies_true s (get_or (starts_of s) k 0) (start_lies s k (has-start e h))) (located e h) (rw (e, p)) (rw e) (field_is e h)
      by_count e false p =
          let h : count_of s ≤ k = ltb-false k (count_of s) p in
          no_parts_lem 17 0 (past_count e h) (rw (e, p)) (rw e) (rw (e, p))

      by_layout : (l : Layout) → check_of s ≡ l → Located s k (locate_of s k)
      by_layout (Ok u) e = by_count e (ltb k (count_of s)) refl
      by_layout (Err r) e = no_parts_lem (refusal_number r) (refusal_place r) (at_fault r e) (rw e) (rw e) (rw (e, not_zero r))

  pub is_located : (p : PlaceAnswer) → p ≡ locate_of s k → Located s k p
  is_located p e = rw e parts
