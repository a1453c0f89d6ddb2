-- The search by halving and the walk by the starts, for a caller who has the fields' starts. Assumes nothing.
use Rattle.std.specs.Prelude.{Ok, Some, None}
use Rattle.std.proofs.Common.{◌≡◌, ℕ, zero, suc, ◌+◌, ◌<◌, ◌≤◌, Bool, true, ◌&&◌, List, [], ◌∷◌, map, length, get_or, take, drop, sym, refl, ap, ◌∙◌, ap₂, add-one, arith, take-append-drop, length-take-le, drop-cons, get_or-take, take-suc}
use Rattle.std.proofs.lemmas.List.{take-take}
use lib.ListN.{length-map}
use Rattle.word.specs.Word.{Bytes}
use Rattle.octets.specs.Octets.{before_of}
use Rattle.octets.proofs.Theorems.{and_parts, before_transitive}
use Rattle.notice.specs.Field.{field_right, all_right, before_first, rising}
use Rattle.notice.specs.Layout.{name_at, field_at, right_at, count_of, check_of, starts_of, Indexed}
use Rattle.notice.specs.Search.{Stops}
use Rattle.notice.proofs.Renders.{well_count, well_fields}
use Rattle.notice.proofs.Orders.{all_before, before_both}
use Rattle.notice.proofs.Searches.{AllBelow, below_end, Parted, parted_none, parted_same}
use Rattle.notice.proofs.Readings.{start_lies, has-start}

-- ---- the fields that start at some places, where names rise

module _ (s : List ℕ) where
  abbrev Rising : List ℕ → Type 0
  Rising ats = rising (map (field_at s) ats) ≡ true

  rising_rest : (k : ℕ) (ats : List ℕ) → Rising ats → Rising (drop k ats)
  rising_rest zero ats r = r
  rising_rest (suc k) [] r = r
  rising_rest (suc k) (a ∷ ats) r = rising_rest k ats (and_parts (before_first (name_at s a) (map (field_at s) ats)) (rising (map (field_at s) ats)) r).1

  -- a name before the first is before each
  before_each : (name : List ℕ) (k : ℕ) (ats : List ℕ) → k < length ats → before_first name (map (field_at s) ats) ≡ true → Rising ats → before_of name (name_at s (get_or ats k 0)) ≡ true
  before_each name k [] h b r = absurd (omega arith)
  before_each name zero (a ∷ ats) h b r = b
  before_each name (suc k) (a ∷ ats) h b r =
      let p = and_parts (before_first (name_at s a) (map (field_at s) ats)) (rising (map (field_at s) ats)) r in
      before_transitive name (name_at s a) (name_at s (get_or ats k 0)) b (before_each (name_at s a) k ats (omega arith) p.0 p.1)

  -- .. and each is after all before it
  all_before_lem : (k : ℕ) (ats : List ℕ) → k < length ats → Rising ats → AllBelow s (name_at s (get_or ats k 0)) (take k ats)
  all_before_lem k [] h r = absurd (omega arith)
  all_before_lem zero (a ∷ ats) h r = refl
  all_before_lem (suc k) (a ∷ ats) h r =
      let p = and_parts (before_first (name_at s a) (map (field_at s) ats)) (rising (map (field_at s) ats)) r in
      ap₂ (λ (b c : Bool). b && c) (before_each (name_at s a) k ats (omega arith) p.0 p.1) (all_before_lem k ats (omega arith) p.1)

  each_right : (k : ℕ) (ats : List ℕ) → k < length ats → all_right (map (field_at s) ats) ≡ true → field_right (field_at s (get_or ats k 0)) ≡ true
  each_right k [] h e = absurd (omega arith)
  each_right zero (a ∷ ats) h e = (and_parts (field_right (field_at s a)) (all_right (map (field_at s) ats)) e).0
  each_right (suc k) (a ∷ ats) h e = each_right k ats (omega arith) (and_parts (field_right (field_at s a)) (all_right (map (field_at s) ats)) e).1

-- the part of an index that counts is one too
pub indexed_part : (s starts : List ℕ) (n : ℕ) → n ≡ count_of s → Indexed s starts → Indexed s (take n starts)
indexed_part s starts n e h = rw e (take-take (count_of s) (count_of s) starts (omega arith) ∙ h)

-- ---- the walks of `halved` and `walked`

-- the names before `low` are below the one sought, those from `high` on above it
pub record Between (s name : List ℕ) (low high : ℕ) : Type 0 where
  pub order : low ≤ high
  pub within : high ≤ count_of s
  pub below : AllBelow s name (take low (starts_of s))
  pub above : before_first name (map (field_at s) (drop high (starts_of s))) ≡ true

module _ (s name : List ℕ) (bytes : Bytes s) (well : check_of s ≡ Ok tt) where
  start_count : length (starts_of s) ≡ count_of s
  start_count = sym (length-map (starts_of s) (field_at s)) ∙ well_count s bytes well

  rises : Rising s (starts_of s)
  rises = (well_fields s bytes well).rises

  -- the fields from k on, where all names before it are below
  parted : (k : ℕ) → k ≤ count_of s → AllBelow s name (take k (starts_of s)) → Parted s name k (drop k (starts_of s))
  parted k h b =
      let c = start_count in
      let l = length-take-le k (starts_of s) (omega arith) in
      record { starts = take k (starts_of s); all = sym (take-append-drop k (starts_of s)); below = b; count = l; within = h }

  module _ (low high : ℕ) (b : Between s name low high) where
    -- none is left between
    pub stops_between : high ≤ low → Stops s name (record { below = low; found = None })
    stops_between h =
        let e : low ≡ high = omega (arith, b.order) in
        let w : low ≤ count_of s = omega (arith, b.within) in
        parted_none s name low (drop low (starts_of s)) (parted low w b.below) (rising_rest s low (starts_of s) rises) (rw e b.above)

    -- a field between: that in the middle, or the first
    module _ (mid : ℕ) (least : low ≤ mid) (most : mid < high) (starts : List ℕ) (indexed : Indexed s starts) where
      abbrev at : ℕ
      at = get_or starts mid 0

      abbrev start : ℕ
      start = get_or (starts_of s) mid 0

      counted : mid < count_of s
      counted = omega (arith, b.within)

      has : mid < length (starts_of s)
      has = has-start s bytes mid well counted

      is-start : at ≡ start
      is-start = sym (get_or-take (count_of s) starts mid 0 counted) ∙ ap (λ (ats : List ℕ). get_or ats mid 0) indexed

      before-start : AllBelow s (name_at s start) (take mid (starts_of s))
      before-start = all_before_lem s mid (starts_of s) has rises

      start_right : right_at s start ≡ true
      start_right = ap₂ (λ (a c : Bool). a && c) (start_lies s mid has) (each_right s mid (starts_of s) has (well_fields s bytes well).right)

      pub mid-right : right_at s at ≡ true
      mid-right = rw is-start start_right

      pub from-mid : before_of (name_at s at) name ≡ true → Between s name (mid + 1) high
      from-mid e =
          let n : before_of (name_at s start) name ≡ true = rw is-start at e in
          let all : AllBelow s name (take mid (starts_of s)) = before_both (map (field_at s) (take mid (starts_of s))) (name_at s start) name before-start n in
          record {
            order = omega arith;
            within = b.within;
            below = rw (add-one, take-suc (starts_of s) mid 0 has) (below_end s name (take mid (starts_of s)) start all n);
            above = b.above;
          }

      pub to-mid : before_of name (name_at s at) ≡ true → Between s name low mid
      to-mid e = record { order = omega arith; within = omega (arith, counted); below = b.below; above = rw (drop-cons (starts_of s) mid 0 has) (rw is-start at e) }

      pub stops-mid : name_at s at ≡ name → Stops s name (record { below = mid; found = Some at })
      stops-mid e =
          let n : name_at s start ≡ name = rw is-start at e in
          let p = parted mid (omega (arith, counted)) (ap (λ (t : List ℕ). all_before (map (field_at s) (take mid (starts_of s))) t) (sym n) ∙ before-start) in
          rw is-start (parted_same s name mid (drop mid (starts_of s)) p (rising_rest s mid (starts_of s) rises) start (drop (suc mid) (starts_of s)) (drop-cons (starts_of s) mid 0 has) start_right n)
