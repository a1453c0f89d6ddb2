-- The search for a name: how two names stand to each other, and the fields that the search has passed, where names rise. Assumes nothing.
use Rattle.std.specs.Prelude.{Option as Optional, Ok, Some, None, option_map, unwrap_or, min}
use Rattle.std.specs.Option.{option_and}
use Rattle.std.proofs.Common.{◌≡◌, ℕ, ◌+◌, ◌-◌, ◌<◌, ◌≤◌, Bool, true, false, cond, ◌&&◌, eqb, ltb, List, [], ◌∷◌, ◌++◌, map, length, get_or, drop, sym, refl, ap, ◌∙◌, ap₂, inr, ⊎_elim, arith, length-append, get_or-drop, drop-cons, get_or-take, ltb-true, ltb-false, eqb-true}
use mathlib.Core.Option.{some, none}
use lib.Seq.{append_snoc}
use borrow.Author.Tests.{eqb-false}
use Rattle.common.proofs.Choice.{true_false}
use Rattle.word.specs.Word.{Bytes}
use Rattle.octets.specs.Octets.{same_of, before_of}
use Rattle.octets.proofs.Theorems.{and_parts, same, before, before_irreflexive, before_transitive, before_total}
use Rattle.notice.specs.declared.search.Stop.{Stop}
use Rattle.notice.specs.Field.{Field, field_right, before_first, rising}
use Rattle.notice.specs.Layout.{name_size_at, next_at, name_at, field_at, lies_at, right_at, stands_at, count_of, check_from, check_of, starts_from, starts_of, fields_of}
use Rattle.notice.specs.Lookup.{found_at, lookup_in}
use Rattle.notice.specs.Search.{further, index_of, below_of, looked_of, index_at, Stops, find_answer, found_index, index_number, sought_of}
use Rattle.notice.proofs.Places.{right_lies, right_name, length_name}
use Rattle.notice.proofs.Walks.{starts_end, starts_more}
use Rattle.notice.proofs.Renders.{fields_from, check_sound, header_well, well_starts, well_checked, well_count, first_stands}
use Rattle.notice.proofs.Orders.{same_symmetric, before_not_same, before_not_after, all_before}

-- ---- two names

-- by their first bytes
module _ (s : List ℕ) (at : ℕ) (right : right_at s at ≡ true) (name : List ℕ) (first : ℕ) (e : name ≡ first ∷ drop 1 name) where
  pub name_head : name_at s at ≡ get_or s (at + 5) 0 ∷ drop 1 (name_at s at)
  name_head =
      let n = (right_name s at right).0 in
      let l = length_name s at (right_lies s at right) in
      let z : at + 5 + 0 ≡ at + 5 = omega arith in
      let g : get_or (name_at s at) 0 0 ≡ get_or s (at + 5) 0 = get_or-take (name_size_at s at) (drop (at + 5) s) 0 0 (omega arith) ∙ (get_or-drop (at + 5) s 0 0 ∙ ap (λ (i : ℕ). get_or s i 0) z) in
      drop-cons (name_at s at) 0 0 (omega arith) ∙ ap (λ (b : ℕ). b ∷ drop 1 (name_at s at)) g

  pub head_below : get_or s (at + 5) 0 < first → before_of (name_at s at) name ≡ true
  head_below h = (before (name_at s at) name).1 (inr ([], get_or s (at + 5) 0, first, drop 1 (name_at s at), drop 1 name, name_head, e, h))

-- ---- fields from the first name that is not below

module _ (name : List ℕ) where
  -- a name after one that is not below is above
  pub first_above : (last : List ℕ) (fs : List Field) → before_of last name ≡ false → before_first last fs ≡ true → before_first name fs ≡ true
  first_above last [] n a = refl
  first_above last (f ∷ fs) n a =
      ⊎_elim (λ h. true_false (sym h ∙ n)) (λ h. ⊎_elim (λ e. ap (λ (t : List ℕ). before_of t f.name) (sym e) ∙ a) (λ b. before_transitive name last f.name b a) h) (before_total last name)

  -- .. and not the same
  above_not_same : (t : List ℕ) → before_of name t ≡ true → same_of t name ≡ false
  above_not_same t e = same_symmetric t name ∙ before_not_same name t e

  -- where the first is above, all are
  none_below : (fs : List Field) → before_first name fs ≡ true → rising fs ≡ true → below_of name fs ≡ 0
  none_below [] a r = refl
  none_below (f ∷ fs) a r =
      let p = and_parts (before_first f.name fs) (rising fs) r in
      let n = before_not_after name f.name a in
      rw n (omega (arith, none_below fs (first_above f.name fs n p.0) p.1))

  pub none_same : (fs : List Field) → before_first name fs ≡ true → rising fs ≡ true → index_of name fs ≡ none
  none_same [] a r = refl
  none_same (f ∷ fs) a r =
      let p = and_parts (before_first f.name fs) (rising fs) r in
      rw (above_not_same f.name a) (ap further (none_same fs (first_above f.name fs (before_not_after name f.name a) p.0) p.1))

  -- where the first is not below, none is
  pub not_below_lem : (f : Field) (fs : List Field) → before_of f.name name ≡ false → rising (f ∷ fs) ≡ true → below_of name (f ∷ fs) ≡ 0
  not_below_lem f fs n r =
      let p = and_parts (before_first f.name fs) (rising fs) r in
      rw n (omega (arith, none_below fs (first_above f.name fs n p.0) p.1))

-- two cases of what may be found
some_is : {k at : ℕ} → Some at ≡ Some k → at ≡ k
some_is {k} {at} e = ap (λ (o : Optional ℕ). unwrap_or o at) e

none_some : {A : Type 0} {k : ℕ} → ◌≡◌ {A = Optional ℕ} None (Some k) → A
none_some e = let z : ◌≡◌ {A = ℕ} 0 1 = ap (λ (o : Optional ℕ). unwrap_or (option_map (λ (k : ℕ). 1) o) 0) e in absurd (omega arith)

-- ---- fields that were passed, since their names are below

module _ (s name : List ℕ) where
  -- the names of the fields that start at these places are all below
  abbrev pub AllBelow : List ℕ → Type 0
  AllBelow ats = all_before (map (field_at s) ats) name ≡ true

  pub below_end : (ats : List ℕ) (at : ℕ) → AllBelow ats → before_of (name_at s at) name ≡ true → AllBelow (ats ++ (at ∷ []))
  below_end [] at e h = ap (λ (b : Bool). b && true) h
  below_end (a ∷ ats) at e h =
      let p = and_parts (before_of (name_at s a) name) (all_before (map (field_at s) ats) name) e in
      ap₂ (λ (b c : Bool). b && c) p.0 (below_end ats at p.1 h)

  -- what they add to what the fields after them give
  module _ (rest : List ℕ) where
    below_passed : (ats : List ℕ) → AllBelow ats → below_of name (map (field_at s) (ats ++ rest)) ≡ length ats + below_of name (map (field_at s) rest)
    below_passed [] e = omega arith
    below_passed (a ∷ ats) e =
        let p = and_parts (before_of (name_at s a) name) (all_before (map (field_at s) ats) name) e in
        rw p.0 (omega (arith, below_passed ats p.1))

    none_passed : (ats : List ℕ) → AllBelow ats → index_of name (map (field_at s) rest) ≡ none → index_of name (map (field_at s) (ats ++ rest)) ≡ none
    none_passed [] e h = h
    none_passed (a ∷ ats) e h =
        let p = and_parts (before_of (name_at s a) name) (all_before (map (field_at s) ats) name) e in
        rw (before_not_same (name_at s a) name p.0) (ap further (none_passed ats p.1 h))

    first_passed : (ats : List ℕ) → AllBelow ats → index_of name (map (field_at s) rest) ≡ some 0 → index_of name (map (field_at s) (ats ++ rest)) ≡ some (length ats)
    first_passed [] e h = h
    first_passed (a ∷ ats) e h =
        let p = and_parts (before_of (name_at s a) name) (all_before (map (field_at s) ats) name) e in
        rw (before_not_same (name_at s a) name p.0) (ap further (first_passed ats p.1 h))

    lookup_passed : (ats : List ℕ) → AllBelow ats → lookup_in s name (ats ++ rest) ≡ lookup_in s name rest
    lookup_passed [] e = refl
    lookup_passed (a ∷ ats) e =
        let p = and_parts (before_of (name_at s a) name) (all_before (map (field_at s) ats) name) e in
        rw (before_not_same (name_at s a) name p.0) (lookup_passed ats p.1)

  -- where the first is above, none is found
  none_found : (ats : List ℕ) → before_first name (map (field_at s) ats) ≡ true → rising (map (field_at s) ats) ≡ true → lookup_in s name ats ≡ None
  none_found [] a r = refl
  none_found (at ∷ ats) a r =
      let p = and_parts (before_first (name_at s at) (map (field_at s) ats)) (rising (map (field_at s) ats)) r in
      rw (above_not_same name (name_at s at) a) (none_found ats (first_above name (name_at s at) (map (field_at s) ats) (before_not_after name (name_at s at) a) p.0) p.1)

-- ---- where the search stops

-- the names of the first n fields are below, and those after them start at these places
pub record Parted (s name : List ℕ) (n : ℕ) (rest : List ℕ) : Type 0 where
  pub starts : List ℕ
  pub all : starts_of s ≡ starts ++ rest
  pub below : AllBelow s name starts
  pub count : length starts ≡ n
  pub within : n ≤ count_of s

module _ (s name : List ℕ) (n : ℕ) (rest : List ℕ) (p : Parted s name n rest) (rises : rising (map (field_at s) rest) ≡ true) where
  -- the first name that is left is above, or none is left
  pub parted_none : before_first name (map (field_at s) rest) ≡ true → Stops s name (record { below = n; found = None })
  parted_none a =
      let fs = p.all in
      record {
        below = rw fs (omega (arith, p.count, below_passed s name rest p.starts p.below, none_below name (map (field_at s) rest) a rises));
        within = p.within;
        index = rw fs (none_passed s name rest p.starts p.below (none_same name (map (field_at s) rest) a rises));
        lookup = rw fs (lookup_passed s name rest p.starts p.below ∙ none_found s name rest a rises);
        right = λ at e. none_some e;
      }

  -- .. or it is the one sought
  module _ (at : ℕ) (ats : List ℕ) (more : rest ≡ at ∷ ats) (right : right_at s at ≡ true) (e : name_at s at ≡ name) where
    pub parted_same : Stops s name (record { below = n; found = Some at })
    parted_same =
        let fs = p.all in
        let t : same_of (name_at s at) name ≡ true = (same (name_at s at) name).1 e in
        let m : before_of (name_at s at) name ≡ false = ap (λ (t : List ℕ). before_of t name) e ∙ before_irreflexive name in
        let none_left : below_of name (map (field_at s) rest) ≡ 0 = rw more (not_below_lem name (field_at s at) (map (field_at s) ats) m (rw more at rises)) in
        let here : index_of name (map (field_at s) rest) ≡ some 0 = rw (more, t) in
        let b : below_of name (fields_of s) ≡ n = rw fs (omega (arith, below_passed s name rest p.starts p.below, p.count)) in
        let i : index_of name (fields_of s) ≡ some (length p.starts) = rw fs (first_passed s name rest p.starts p.below here) in
        let l : lookup_in s name rest ≡ Some (found_at s at) = rw (more, t) in
        record {
          below = b;
          within = p.within;
          index = i ∙ ap some p.count;
          lookup = rw fs (lookup_passed s name rest p.starts p.below ∙ l);
          right = λ k q. ap (right_at s) (sym (some_is q)) ∙ right;
        }

-- ---- the walk of `search`

-- n fields are passed, and those that are left, from `at` on, stand after the name `last`
pub record Passed (s name : List ℕ) (n at : ℕ) : Type 0 where
  pub parted : Parted s name n (starts_from (count_of s - n) s at)
  pub last : List ℕ
  pub rest : check_from (count_of s - n) last s at ≡ Ok tt

pub none_yet : (s name : List ℕ) → Bytes s → check_of s ≡ Ok tt → Passed s name 0 8
none_yet s name bytes well =
    let z : count_of s - 0 ≡ count_of s = omega arith in
    record {
      parted = record { starts = []; all = rw z (well_starts s bytes well); below = refl; count = refl; within = omega arith };
      last = [];
      rest = rw z (header_well s bytes well).1;
    }

module _ (s name : List ℕ) (bytes : Bytes s) (n at : ℕ) (p : Passed s name n at) where
  left : ℕ
  left = count_of s - n

  rises : rising (fields_from (count_of s - n) s at) ≡ true
  rises = (check_sound (count_of s - n) p.last s at bytes p.rest).rises

  stops_none : before_first name (fields_from (count_of s - n) s at) ≡ true → Stops s name (record { below = n; found = None })
  stops_none = parted_none s name n (starts_from (count_of s - n) s at) p.parted rises

  pub stops_end : count_of s ≤ n → Stops s name (record { below = n; found = None })
  stops_end h = let z : count_of s - n ≡ 0 = omega arith in stops_none (rw (z, starts_end s at))

  -- one field more
  module _ (h : n < count_of s) where
    some_left : 0 < count_of s - n
    some_left = omega arith

    stands : (stands_at p.last s at ≡ true) × (check_from (count_of s - n - 1) (name_at s at) s (next_at s at) ≡ Ok tt)
    stands = first_stands (count_of s - n) p.last s at some_left p.rest

    pub next_right : right_at s at ≡ true
    next_right = (and_parts (right_at s at) (before_of p.last (name_at s at)) stands.0).0

    more : starts_from (count_of s - n) s at ≡ at ∷ starts_from (count_of s - n - 1) s (next_at s at)
    more = starts_more s at (count_of s - n) some_left (and_parts (lies_at s at) (field_right (field_at s at)) next_right).0

    pub pass : before_of (name_at s at) name ≡ true → Passed s name (n + 1) (next_at s at)
    pass e =
        let q = p.parted in
        let z : count_of s - (n + 1) ≡ count_of s - n - 1 = omega arith in
        record {
          parted = record {
            starts = q.starts ++ (at ∷ []);
            all = rw z (q.all ∙ (ap (λ (ats : List ℕ). q.starts ++ ats) more ∙ sym (append_snoc q.starts at (starts_from (count_of s - n - 1) s (next_at s at)))));
            below = below_end s name q.starts at q.below e;
            count = omega (arith, q.count, length-append q.starts (at ∷ []));
            within = omega arith;
          };
          last = name_at s at;
          rest = rw z stands.1;
        }

    pub stops_above : before_of name (name_at s at) ≡ true → Stops s name (record { below = n; found = None })
    stops_above e = stops_none (rw more e)

    pub stops_same : name_at s at ≡ name → Stops s name (record { below = n; found = Some at })
    stops_same = parted_same s name n (starts_from (count_of s - n) s at) p.parted rises at (starts_from (count_of s - n - 1) s (next_at s at)) more next_right

-- a name that is not empty has a first byte
pub first_is : (name : List ℕ) → eqb (length name) 0 ≡ false → name ≡ get_or name 0 0 ∷ drop 1 name
first_is name e = let n = eqb-false (length name) 0 e in drop-cons name 0 0 (omega (arith, n))

-- no name is below the empty one
pub stops_empty : (s name : List ℕ) → Bytes s → check_of s ≡ Ok tt → eqb (length name) 0 ≡ true → Stops s name (record { below = 0; found = None })
stops_empty s name bytes well e = go name (eqb-true (length name) 0 e)
  where
    z : count_of s - 0 ≡ count_of s
    z = omega arith

    go : (t : List ℕ) → length t ≡ 0 → Stops s t (record { below = 0; found = None })
    go [] h = stops_none s [] bytes 0 8 (none_yet s [] bytes well) (rw z (well_checked s bytes well).after)
    go (b ∷ t) h = absurd (omega arith)

-- ---- what finding a name answers

module _ (s name : List ℕ) (bytes : Bytes s) (well : check_of s ≡ Ok tt) (r : Stop) (stops : Stops s name r) where
  index_found : unwrap_or (option_and r.found (Some r.below)) 64 ≡ index_number (index_of name (fields_of s))
  index_found = go r.found ∙ ap index_number (sym stops.index)
    where
      go : (o : Optional ℕ) → unwrap_or (option_and o (Some r.below)) 64 ≡ index_number (index_at o r.below)
      go None = refl
      go (Some at) = refl

  looked_at : min (count_of s) (r.below + 1) ≡ looked_of name (fields_of s)
  looked_at = go (ltb (below_of name (fields_of s)) (length (fields_of s))) refl
    where
      go : (b : Bool) → ltb (below_of name (fields_of s)) (length (fields_of s)) ≡ b → min (count_of s) (r.below + 1) ≡ below_of name (fields_of s) + cond b 1 0
      go true e = omega (arith, ltb-true _ _ e, well_count s bytes well, stops.below)
      go false e = omega (arith, ltb-false _ _ e, well_count s bytes well, stops.below, stops.within)

  pub sought_is : {index : Optional ℕ} {n looked : ℕ} → index ≡ option_and r.found (Some r.below) → n ≡ count_of s → looked ≡ min n (r.below + 1)
      → find_answer (Ok (record { index = index; looked = looked })) ≡ sought_of s name
  sought_is i n l = rw (i, l, n, index_found, looked_at)

  pub sought_index : {index : Optional ℕ} → index ≡ option_and r.found (Some r.below) → found_index index ≡ index_of name (fields_of s)
  sought_index i = ap found_index i ∙ go r.found ∙ sym stops.index
    where
      go : (o : Optional ℕ) → found_index (option_and o (Some r.below)) ≡ index_at o r.below
      go None = refl
      go (Some at) = refl
