-- What the calls answer, by what their tests find. Assumes nothing.
use mathlib.Core.Path.{◌≡◌, refl, sym, ap, subst, ◌∙◌}
use mathlib.Core.Bool.{Bool, true, false}
use mathlib.Core.List.{List, [], ◌∷◌, ◌++◌}
use mathlib.Core.Option.{none, some}
use Prim.Native.Nat.{ℕ, zero, suc, ◌+◌, ◌-◌, ◌≤◌, ◌<◌}
use native.Mathlib.Omega.{arith}
use native.Mathlib.Decide.{dec_le, dec_lt}
use lib.Dec.{leb, ltb}
use lib.ListN.{length, get_or, take, drop, replicate, length-replicate}
use borrow.Author.Tests.{le-leb, lt-leb, lt-ltb, le-ltb, leb-true, ltb-true, ne_eqb}
use Rattle.word.specs.Word.{Bytes}
use Rattle.notice.specs.Layout.{unless}
use Rattle.table.specs.Check.{check_of as tableCheck}
use Rattle.table.proofs.Theorems.{checked_short}
use Rattle.store.specs.Layout.{Place, end_of, size_at, next_at, records_of, places_from, free, size_right, right_of, places_in, written}
use Rattle.store.specs.Calls.{ended, added, found as found_as, Part, lowest_free, held_count, room_for, starts_of, first_zero, At, Nothing, locate_in, without, rec, Makes, add_refusal, added_of, added_bytes, held_refusal_in, held_refusal, removed_bytes, Removes, fetched_of, part_of, Appendable}
use Rattle.store.proofs.Places.{length_places, lowest_free_lem, lowest_most, count_most, full_count, count_full, bytes_held, none_found, spot_held}
use Rattle.store.proofs.Starts.{length_starts, zeros_free, zeros_first, zeros_starts, start_none, start_found}
use Rattle.store.proofs.Parses.{right}
use Rattle.store.proofs.Stores.{Lying, lying, free_of, free_some, free_none}
use Rattle.refusal.specs.declared.Refusal.{Refusal}
use Rattle.refusal.specs.declared.Refusal.TheVariants.{Store}
use Rattle.refusal.specs.Refusal.{number_of}
use Rattle.std.specs.Prelude.{Some, None, Err}
use Rattle.store.specs.declared.records.Records.{Records}

-- ---- what the places say

pub all_free : (m n : ℕ) → ◌≡◌ {A = Place} (get_or (replicate m none) n none) none
all_free zero n = refl
all_free (suc m) zero = refl
all_free (suc m) (suc n) = all_free m n

-- a free number is left exactly if fewer than 64 are held
module _ (ps : List Place) (l : length ps ≡ 64) where
  pub free_count : lowest_free ps < 64 → held_count ps < 64
  free_count h = go (dec_lt (held_count ps) 64)
    where
      go : Dec (held_count ps < 64) → held_count ps < 64
      go (yes p) = p
      go (no p) = let e = count_full ps (omega (arith, count_most ps)) in absurd (omega arith)

  pub count_free_number : held_count ps < 64 → lowest_free ps < 64
  count_free_number h = go (dec_lt (lowest_free ps) 64)
    where
      go : Dec (lowest_free ps < 64) → lowest_free ps < 64
      go (yes p) = p
      go (no p) = let e = full_count ps (omega (arith, lowest_most ps)) in absurd (omega arith)

module _ (s : List ℕ) where
  pub places_64 : length (places_in s) ≡ 64
  unfolding places_in
  places_64 = length_places free (records_of s) ∙ length-replicate {A = Place} 64 none

  pub starts_64 : length (starts_of s) ≡ 64
  starts_64 = length_starts (replicate 64 0) (records_of s) 8 ∙ length-replicate {A = ℕ} 64 0

  pub lowest_few : lowest_free (places_in s) ≤ 64
  lowest_few = omega (arith, lowest_most (places_in s), places_64)

  pub first_lowest : first_zero (starts_of s) ≡ lowest_free (places_in s)
  unfolding places_in
  first_lowest = zeros_first (starts_of s) (places_from free (records_of s)) (zeros_starts (replicate 64 0) free (records_of s) 8 (omega arith) zeros_free)

  module _ (ok : right_of s ≡ true) where
    pub starts_none : (n : ℕ) → get_or (starts_of s) n 0 ≡ 0 → locate_in n (records_of s) 8 ≡ Nothing
    starts_none n z = start_none (records_of s) (right s ok).good n z

    pub starts_found : (n v : ℕ) → v ≡ get_or (starts_of s) n 0 → (v ≡ 0 → ⊥) → locate_in n (records_of s) 8 ≡ At v
    starts_found n v q z = start_found (records_of s) (right s ok).good n v q z

    -- the request's sum is where the store would end
    pub room_is : (t : List ℕ) → room_for (places_in s) t ≡ end_of s + (4 + length t)
    unfolding places_in
    room_is t = let w = right s ok in omega (arith, w.size, bytes_held (records_of s) w.good)

-- what is known of a store whose records are indexed
module _ (s : List ℕ) (r : Records) (same : r.store.now ≡ s) where
  pub is_right : right_of s ≡ true
  is_right = ap right_of (sym same) ∙ r.right

  pub all_starts : r.starts ≡ starts_of s
  all_starts = r.all ∙ ap starts_of same

  pub start_at : (n at : ℕ) → at ≡ get_or r.starts n 0 → at ≡ get_or (starts_of s) n 0
  start_at n at e = e ∙ ap (λ (l : List ℕ). get_or l n 0) all_starts

  pub free_number : (n : ℕ) → free_of r.starts ≡ Some n → (n ≡ lowest_free (places_in s)) × (lowest_free (places_in s) < 64)
  free_number n e =
      let f = free_some r.starts n e in
      let q : n ≡ lowest_free (places_in s) = f.0 ∙ ap first_zero all_starts ∙ first_lowest s in
      (q, omega (arith, f.1, ap length all_starts, starts_64 s))

  pub no_number : free_of r.starts ≡ None → lowest_free (places_in s) ≡ 64
  no_number e = sym (first_lowest s) ∙ sym (ap first_zero all_starts) ∙ free_none r.starts e ∙ ap length all_starts ∙ starts_64 s

-- ---- make

module _ (s : List ℕ) where
  pub made_empty : size_right (length s) ≡ true → (after : List ℕ) → after ≡ written [] s → Makes s after 0
  made_empty e after b = record { answer = rw e; bytes = b ∙ rw e }

-- ---- add

module _ (s t : List ℕ) where
  pub broken : right_of s ≡ false → add_refusal s t ≡ 26
  unfolding add_refusal
  broken e = rw e

  module _ (ok : right_of s ≡ true) where
    pub bad_table : tableCheck t ≡ false → add_refusal s t ≡ 12
    unfolding add_refusal
    bad_table e = rw (ok, e)

    module _ (passes : tableCheck t ≡ true) where
      pub all_held : lowest_free (places_in s) ≡ 64 → add_refusal s t ≡ 27
      unfolding add_refusal
      all_held e =
          let l = places_64 s in
          let c = full_count (places_in s) (e ∙ sym l) in
          rw (ok, passes, le-ltb (held_count (places_in s)) 64 (omega arith))

      module _ (some_free : lowest_free (places_in s) < 64) where
        pub no_room : length s < end_of s + (4 + length t) → add_refusal s t ≡ 28
        unfolding add_refusal
        no_room h =
            let f = free_count (places_in s) (places_64 s) some_free in
            rw (ok, passes, lt-ltb (held_count (places_in s)) 64 f, lt-leb (room_for (places_in s) t) (length s) (omega (arith, room_is s ok t)))

        pub accepted : end_of s + (4 + length t) ≤ length s → add_refusal s t ≡ 0
        unfolding add_refusal
        accepted h =
            let f = free_count (places_in s) (places_64 s) some_free in
            rw (ok, passes, lt-ltb (held_count (places_in s)) 64 f, le-leb (room_for (places_in s) t) (length s) (omega (arith, room_is s ok t)))

  pub broken_add : (e : Refusal) → (e ≡ Store) × (right_of s ≡ false) → added (Err e) ≡ added_of s t
  broken_add e h = rw (h.0, broken h.1)

  pub number_is : add_refusal s t ≡ 0 → (added_of s t).number ≡ lowest_free (places_in s)
  number_is e = rw e

  pub same_bytes : (add_refusal s t ≡ 0 → ⊥) → s ≡ added_bytes s t
  same_bytes f = rw (ne_eqb (add_refusal s t) 0 f)

  pub new_bytes : add_refusal s t ≡ 0 → written (records_of s ++ (rec (lowest_free (places_in s)) t ∷ [])) s ≡ added_bytes s t
  new_bytes e = rw e

-- each test of a row of refusals that ends with 0
pub passed : (b : Bool) (n next : ℕ) → unless b (suc n) next ≡ 0 → (b ≡ true) × (next ≡ 0)
passed true n next e = (refl, e)
passed false n next e = absurd (omega arith)

module _ (s t : List ℕ) where
  pub appendable : add_refusal s t ≡ 0 → Appendable s (lowest_free (places_in s)) t
  unfolding add_refusal
  appendable e =
      let a = passed (right_of s) 25 _ e in
      let b = passed (tableCheck t) 11 _ a.1 in
      let c = passed (ltb (held_count (places_in s)) 64) 26 _ b.1 in
      let d = passed (leb (room_for (places_in s) t) (length s)) 27 0 c.1 in
      record {
        right = a.0;
        few = count_free_number (places_in s) (places_64 s) (ltb-true _ _ c.0);
        short = checked_short t b.0;
        unheld = lowest_free_lem (places_in s);
        room = omega (arith, room_is s a.0 t, leb-true (room_for (places_in s) t) (length s) d.0);
      }

-- ---- remove and fetch

abbrev part : ℕ → ℕ → ℕ → Part
part refusal start end = record { refusal = refusal; start = start; end = end }

module _ (s : List ℕ) (n : ℕ) where
  pub remove_refused : (k : ℕ) → held_refusal s n ≡ suc k → Removes s n s (suc k)
  remove_refused k e = record { answer = sym e; bytes = rw (ne_eqb (held_refusal s n) 0 (λ z. omega arith)) }

  pub part_refused : (k : ℕ) → held_refusal s n ≡ suc k → part (suc k) 0 0 ≡ part_of s n
  part_refused k e = rw (e, ne_eqb (suc k) 0 (λ z. omega arith))

  pub broken_held : right_of s ≡ false → held_refusal s n ≡ 26
  unfolding held_refusal
  broken_held e = rw e

  pub broken_part : (e : Refusal) → (e ≡ Store) × (right_of s ≡ false) → found_as (Err e) ≡ part_of s n
  broken_part e h = rw h.0 (part_refused 25 (broken_held h.1))

  pub broken_remove : (e : Refusal) → (e ≡ Store) × (right_of s ≡ false) → Removes s n s (ended (Err e))
  broken_remove e h = rw h.0 (remove_refused 25 (broken_held h.1))

  module _ (ok : right_of s ≡ true) where
    pub not_held : get_or (starts_of s) n 0 ≡ 0 → held_refusal s n ≡ 29
    unfolding held_refusal places_in
    not_held z = let u : get_or (places_from free (records_of s)) n none ≡ none = none_found n free (records_of s) 8 (starts_none s ok n z) ∙ all_free 64 n in rw (ok, u)

    module _ (bytes : Bytes s) (at : ℕ) (is : at ≡ get_or (starts_of s) n 0) (some_start : at ≡ 0 → ⊥) where
      pub found : locate_in n (records_of s) 8 ≡ At at
      found = starts_found s ok n at is some_start

      pub lies : Lying s n at
      lies = lying s bytes n at ok found

      held : get_or (places_in s) n none ≡ some lies.spot.it.table
      unfolding places_in
      held = spot_held n (records_of s) 8 at lies.spot (right s ok).good

      pub is_held : held_refusal s n ≡ 0
      unfolding held_refusal
      is_held = rw (ok, held)

      pub fetched : fetched_of s n ≡ lies.spot.it.table
      fetched = rw (is_held, held)

      pub part_held : part 0 (at + 4) (next_at s at) ≡ part_of s n
      part_held =
          let e : next_at s at ≡ at + 4 + length (fetched_of s n) = omega (arith, lies.size, ap length fetched) in
          ap (λ (k : ℕ). part 0 (at + 4) k) e ∙ rw (is_held, is)

      pub cut-bytes : written (without n (records_of s)) s ≡ removed_bytes s n
      cut-bytes = rw is_held

-- what a refusal tells of the place, in bytes that keep the layout
module _ (s : List ℕ) (n : ℕ) (ok : right_of s ≡ true) where
  refusal_is : held_refusal s n ≡ held_refusal_in (places_in s) n
  unfolding held_refusal
  refusal_is = rw ok

  pub place_free : (held_refusal s n ≡ 0 → ⊥) → (held_refusal s n ≡ 29) × (get_or (places_in s) n none ≡ none)
  place_free z = go (get_or (places_in s) n none) refl
    where
      go : (p : Place) → get_or (places_in s) n none ≡ p → (held_refusal s n ≡ 29) × (get_or (places_in s) n none ≡ none)
      go none e = (refusal_is ∙ rw e, e)
      go (some t) e = absurd (z (refusal_is ∙ rw e))

  pub place_held : held_refusal s n ≡ 0 → get_or (places_in s) n none ≡ some (fetched_of s n)
  place_held z = go (get_or (places_in s) n none) refl
    where
      go : (p : Place) → get_or (places_in s) n none ≡ p → get_or (places_in s) n none ≡ some (fetched_of s n)
      go none e = let y : ◌≡◌ {A = ℕ} 29 0 = sym (refusal_is ∙ rw e) ∙ z in absurd (omega arith)
      go (some t) e = e ∙ rw (z, e)

-- ---- the part that is answered

module _ (s : List ℕ) (n : ℕ) where
  abbrev pub Fetches : Part → Type 0
  Fetches p = (p.start ≤ p.end) × (p.end ≤ length s) × (take (p.end - p.start) (drop p.start s) ≡ fetched_of s n)

  nothing_fetched : (k : ℕ) → held_refusal s n ≡ suc k → Fetches (part_of s n)
  nothing_fetched k e = subst Fetches (part_refused s n k e) (omega arith, omega arith, rw (ne_eqb (held_refusal s n) 0 (λ z. omega arith)))

  pub fetches : Bytes s → Fetches (part_of s n)
  fetches bytes = go (right_of s) refl
    where
      by-start : right_of s ≡ true → Dec (1 ≤ get_or (starts_of s) n 0) → Fetches (part_of s n)
      by-start ok (no z) = nothing_fetched 28 (not_held s n ok (omega arith))
      by-start ok (yes z) =
          let at = get_or (starts_of s) n 0 in
          let some_start : at ≡ 0 → ⊥ = λ e. omega arith in
          let l = lies s n ok bytes at refl some_start in
          let f = (right s ok).header.fits in
          let y = l.size in
          let d : next_at s at - (at + 4) ≡ size_at s at - 2 = omega arith in
          let b : take (next_at s at - (at + 4)) (drop (at + 4) s) ≡ l.spot.it.table = ap (λ (i : ℕ). take i (drop (at + 4) s)) d ∙ l.table in
          subst Fetches (part_held s n ok bytes at refl some_start) (omega arith, omega (arith, l.within), b ∙ sym (fetched s n ok bytes at refl some_start))

      go : (b : Bool) → right_of s ≡ b → Fetches (part_of s n)
      go false e = nothing_fetched 25 (broken_held s n e)
      go true e = by-start e (dec_le 1 (get_or (starts_of s) n 0))
