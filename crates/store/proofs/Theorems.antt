-- The theorems that specs/Theorems.antt states. Assumes nothing.
use mathlib.Core.Path.{◌≡◌, refl, sym, ap, ap₂, subst, ◌∙◌}
use mathlib.Core.Bool.{Bool, true, false}
use mathlib.Core.List.{List, [], ◌∷◌, ◌++◌, map}
use mathlib.Core.Option.{none, some}
use Prim.Native.Nat.{ℕ, zero, suc, ◌+◌, ◌*◌, ◌≤◌, ◌<◌}
use native.Mathlib.Omega.{arith}
use lib.Dec.{eqb, leb, ltb}
use lib.ListN.{length, get_or, set, drop, length-append, length-replicate}
use lib.Seq.{set-get_or}
use borrow.Author.Tests.{le-leb, lt-leb, lt-ltb, ne_eqb, eqb-true, eqb-false, leb-true, leb-false, ltb-true}
use Rattle.common.specs.Choice.{pick}
use Rattle.common.specs.Each.{Each}
use Rattle.notice.specs.Layout.{unless}
use Rattle.table.specs.Check.{check_of as tableCheck}
use Rattle.table.proofs.Tests.{both_true}
use Rattle.table.proofs.Theorems.{checked_short}
use Rattle.store.specs.Layout.{Rec, Place, rec_bytes, recs_bytes, store_bytes, written, end_of, records_of, places_from, free, size_right, right_of, places_in}
use Rattle.store.specs.Calls.{Added, Part, lowest_free, held_count, held_bytes, room_for, is_held, table_in, Found, At, Nothing, without, locate_in, rec, add_refusal_in, add_refusal, added_by, added_bytes, held_refusal_in, held_refusal, removed_bytes, fetched_of}
use Rattle.store.specs.Theorems.{Good, LayoutIs, RecordsRead, AtMost64, Lowest, FullIs64, RoomRule, NumberBelow64, PartFetched, AddRefused, RemoveRefused, FetchRefused, Call, make, add, remove, fetch, Event, made, added, removed, fetched, call_of, refusal_in, Happens, Follows, plain_event, plain_after, plain_events, AsPlain, Never26, Passes, FetchedPass}
use Rattle.store.proofs.Places.{some_none, length_rec, recs_append, length_places, places_append, good_append, bytes_held, lowest_free_lem, spot, none_found, spot_removed, count_places, count_free, count_most, full_count, count_full, lower_held}
use Rattle.store.proofs.Parses.{right, right_written, length_store, length_written, store_read}
use Rattle.store.proofs.Answers.{all_free, count_free_number, passed, appendable, number_is, Fetches, fetches}

-- ---- the layout

pub layout_is : LayoutIs
layout_is s bytes = (
  λ e. (records_of s, drop (end_of s) s, (right s e).good, (right s e).header.short, right_written s bytes e),
  λ w. ap right_of w.4 ∙ (store_read w.0 w.1 w.2 (let z = ap length w.4 in let h = w.3 in omega arith)).0,
)

pub records_read : RecordsRead
records_read rs rest g h = (store_read rs rest g h).1

length_free : length free ≡ 64
length_free = length-replicate {A = Place} 64 none

pub at_most_64 : AtMost64
at_most_64 s e =
    let ps = places_from free (records_of s) in
    let c = count_places free (records_of s) length_free (right s e).good in
    let l : length ps ≡ 64 = length_places free (records_of s) ∙ length_free in
    omega (arith, c, l, count_most ps, count_free 64)

-- ---- one call

pub lowest : Lowest
lowest ps = (lowest_free_lem ps, lower_held ps)

pub full_is_64 : FullIs64
full_is_64 ps l = (λ e. full_count ps (e ∙ sym l) ∙ l, λ e. count_full ps (e ∙ sym l) ∙ l)

pub room_rule : RoomRule
unfolding add_refusal
room_rule s t after a adds ok passes few =
    let r : a.refusal ≡ unless (leb (room_for (places_in s) t) (length s)) 28 0 = ap (λ (x : Added). x.refusal) adds.answer ∙ rw (ok, passes, lt-ltb (held_count (places_in s)) 64 few) in
    (λ e. exceeds (leb (room_for (places_in s) t) (length s)) refl (sym r ∙ e), λ h. r ∙ rw (lt-leb (room_for (places_in s) t) (length s) h))
  where
    exceeds : (b : Bool) → leb (room_for (places_in s) t) (length s) ≡ b → unless b 28 0 ≡ 28 → length s < room_for (places_in s) t
    exceeds true p e = absurd (omega arith)
    exceeds false p e = let l = leb-false (room_for (places_in s) t) (length s) p in omega arith

pub number_below_64 : NumberBelow64
number_below_64 s t after a adds z =
    let e : add_refusal s t ≡ 0 = sym (ap (λ (x : Added). x.refusal) adds.answer) ∙ z in
    let n : a.number ≡ lowest_free (places_in s) = ap (λ (x : Added). x.number) adds.answer ∙ number_is s t e in
    omega (arith, n, (appendable s t e).few)

pub part_fetched : PartFetched
part_fetched s bytes n p e = subst (Fetches s n) (sym e) (fetches s n bytes)

pub add_refused : AddRefused
add_refused s t after a adds n =
    let f : eqb (add_refusal s t) 0 ≡ false = ne_eqb (add_refusal s t) 0 (λ z. n (ap (λ (x : Added). x.refusal) adds.answer ∙ z)) in
    (ap (λ (x : Added). x.number) adds.answer ∙ rw f, adds.bytes ∙ rw f)

pub remove_refused : RemoveRefused
remove_refused s n after refusal removes z =
    removes.bytes ∙ rw (ne_eqb (held_refusal s n) 0 (λ e. z (removes.answer ∙ e)))

pub fetch_refused : FetchRefused
fetch_refused s n p e z =
    let f : eqb (held_refusal s n) 0 ≡ false = ne_eqb (held_refusal s n) 0 (λ y. z (ap (λ (x : Part). x.refusal) e ∙ y)) in
    (ap (λ (x : Part). x.start) e ∙ rw f, ap (λ (x : Part). x.end) e ∙ rw f, rw f)

-- ---- a store and the plain list

record State (s : List ℕ) (size : ℕ) (ps : List Place) : Type 0 where
  pub rs : List Rec
  pub rest : List ℕ
  pub good : Good free rs
  pub bytes : s ≡ store_bytes rs ++ rest
  pub long : length s ≡ size
  pub some_room : 8 ≤ size
  pub short : size ≤ 65536
  pub places : places_from free rs ≡ ps

-- what a change leaves
state_written : (s : List ℕ) (size : ℕ) (rs : List Rec) → length s ≡ size → 8 ≤ size → size ≤ 65536 → Good free rs → 8 + length (recs_bytes rs) ≤ size → State (written rs s) size (places_from free rs)
unfolding written
state_written s size rs l m h g r =
    record {
      rs = rs;
      rest = drop (8 + length (recs_bytes rs)) s;
      good = g;
      bytes = refl;
      long = length_written rs s (omega arith) ∙ l;
      some_room = m;
      short = h;
      places = refl;
    }

emptied : (s : List ℕ) (size : ℕ) → length s ≡ size → 8 ≤ size → size ≤ 65536 → State (written [] s) size free
unfolding Good places_from
emptied s size l m h = state_written s size [] l m h tt m

module _ (s : List ℕ) (size : ℕ) (ps : List Place) (w : State s size ps) where
  both : (right_of (store_bytes w.rs ++ w.rest) ≡ true) × (records_of (store_bytes w.rs ++ w.rest) ≡ w.rs)
  both = let z = ap length w.bytes in store_read w.rs w.rest w.good (omega (arith, w.long, w.short))

  ok : right_of s ≡ true
  ok = ap right_of w.bytes ∙ both.0

  records : records_of s ≡ w.rs
  records = ap records_of w.bytes ∙ both.1

  same_places : places_in s ≡ ps
  unfolding places_in
  same_places = ap (places_from free) records ∙ w.places

  used : 8 + length (recs_bytes w.rs) ≤ size
  used = omega (arith, ap length w.bytes, length-append (store_bytes w.rs) w.rest, length_store w.rs, w.long)

  right_size : size_right (length s) ≡ true
  right_size =
      let a : 8 ≤ length s = omega (arith, w.long, w.some_room) in
      let b : length s ≤ 65536 = omega (arith, w.long, w.short) in
      rw (le-leb 8 (length s) a, le-leb (length s) 65536 b)

  add_same : (t : List ℕ) → add_refusal s t ≡ add_refusal_in size ps t
  unfolding add_refusal
  add_same t = rw (ok, same_places, w.long)

  held_same : (n : ℕ) → held_refusal s n ≡ held_refusal_in ps n
  unfolding held_refusal
  held_same n = rw (ok, same_places)

  fetched_same : (n : ℕ) → fetched_of s n ≡ table_in (get_or ps n none)
  fetched_same n = rw (held_same n, same_places) (by_place (get_or ps n none))
    where
      by_place : (p : Place) → pick (eqb (unless (is_held p) 29 0) 0) (λ _. table_in p) (λ _. []) ≡ table_in p
      by_place none = refl
      by_place (some t) = refl

  -- a table that is accepted
  after_add : (t : List ℕ) → add_refusal_in size ps t ≡ 0 → State (written (records_of s ++ (rec (lowest_free (places_in s)) t ∷ [])) s) size (set ps (lowest_free ps) (some t))
  unfolding Good places_from
  after_add t e =
      let a = passed (tableCheck t) 11 _ e in
      let b = passed (ltb (held_count ps) 64) 26 _ a.1 in
      let c = passed (leb (room_for ps t) size) 27 0 b.1 in
      let l : length ps ≡ 64 = ap length (sym w.places) ∙ length_places free w.rs ∙ length_free in
      let few : lowest_free ps < 64 = count_free_number ps l (ltb-true _ _ b.0) in
      let room : room_for ps t ≤ size = leb-true _ _ c.0 in
      let r = rec (lowest_free ps) t in
      let rs = w.rs ++ (r ∷ []) in
      let unheld : get_or (places_from free w.rs) (lowest_free ps) none ≡ none = ap (λ (x : List Place). get_or x (lowest_free ps) none) w.places ∙ lowest_free_lem ps in
      let g : Good free rs = good_append free w.rs (r ∷ []) w.good (few, let z = checked_short t a.0 in omega arith, unheld, tt) in
      let held : held_bytes ps + 4 * held_count ps ≡ length (recs_bytes w.rs) = ap (λ (x : List Place). held_bytes x + 4 * held_count x) (sym w.places) ∙ bytes_held w.rs w.good in
      let n : length (recs_bytes rs) ≡ length (recs_bytes w.rs) + (4 + length t) =
      omega (arith, recs_append w.rs (r ∷ []), length_rec r, length-append (rec_bytes r) []) in
      let new = state_written s size rs w.long w.some_room w.short g (omega arith) in
      let p : places_from free rs ≡ set ps (lowest_free ps) (some t) = places_append free w.rs (r ∷ []) ∙ ap (λ (x : List Place). set x (lowest_free ps) (some t)) w.places in
      let q : records_of s ++ (rec (lowest_free (places_in s)) t ∷ []) ≡ rs = ap₂ (λ (x : List Rec) (y : List Place). x ++ (rec (lowest_free y) t ∷ [])) records same_places in
      rw (← p, q) new

  -- a number that is held
  after_remove : (n : ℕ) → held_refusal_in ps n ≡ 0 → State (written (without n (records_of s)) s) size (set ps n none)
  after_remove n e = go (locate_in n w.rs 8) refl
    where
      go : (f : Found) → locate_in n w.rs 8 ≡ f → State (written (without n (records_of s)) s) size (set ps n none)
      go (At at) f =
          let sp = spot n w.rs 8 at f in
          let q = spot_removed n w.rs 8 at sp w.good in
          let l : length (recs_bytes (without n w.rs)) ≤ length (recs_bytes w.rs) =
          omega (arith, ap (λ (x : List Rec). length (recs_bytes x)) sp.rest, ap (λ (x : List Rec). length (recs_bytes x)) sp.all, recs_append sp.pre sp.post, recs_append sp.pre (sp.it ∷ sp.post), length-append (rec_bytes sp.it) (recs_bytes sp.post)) in
          let new = state_written s size (without n w.rs) w.long w.some_room w.short q.0 (omega (arith, used)) in
          let p : places_from free (without n w.rs) ≡ set ps n none = q.1 ∙ ap (λ (x : List Place). set x n none) w.places in
          rw (← p, records) new
      go Nothing f =
          let z : get_or ps n none ≡ none = ap (λ (x : List Place). get_or x n none) (sym w.places) ∙ none_found n free w.rs 8 f ∙ all_free 64 n in
          let y : ◌≡◌ {A = ℕ} 29 0 = rw z at e in
          absurd (omega arith)

  added_state : (t : List ℕ) → State (added_bytes s t) size (plain_after size ps (add t))
  added_state t = rw (add_same t) (go (eqb (add_refusal_in size ps t) 0) refl)
    where
      go : (b : Bool) → eqb (add_refusal_in size ps t) 0 ≡ b
          → State (pick b (λ _. written (records_of s ++ (rec (lowest_free (places_in s)) t ∷ [])) s) (λ _. s)) size (pick b (λ _. set ps (lowest_free ps) (some t)) (λ _. ps))
      go true e = after_add t (eqb-true (add_refusal_in size ps t) 0 e)
      go false e = w

  removed_state : (n : ℕ) → State (removed_bytes s n) size (set ps n none)
  removed_state n = rw (held_same n) (go (eqb (held_refusal_in ps n) 0) refl)
    where
      unheld : (p : Place) → eqb (unless (is_held p) 29 0) 0 ≡ false → p ≡ none
      unheld none e = refl
      unheld (some t) e = absurd (eqb-false 0 0 e refl)

      go : (b : Bool) → eqb (held_refusal_in ps n) 0 ≡ b → State (pick b (λ _. written (without n (records_of s)) s) (λ _. s)) size (set ps n none)
      go true e = after_remove n (eqb-true (held_refusal_in ps n) 0 e)
      go false e =
          let z : get_or ps n none ≡ none = unheld (get_or ps n none) e in
          let q : set ps n none ≡ ps = ap (set ps n) (sym z) ∙ set-get_or ps n none in
          rw q w

  -- one event is the plain list's, and leaves a store that is the plain list's
  one_event : (e : Event) (after : List ℕ) → Happens s e after → (e ≡ plain_event size ps (call_of e)) × State after size (plain_after size ps (call_of e))
  one_event (made k) after h = (
    ap made (h.answer ∙ rw right_size),
    subst (λ (x : List ℕ). State x size free) (sym (h.bytes ∙ rw right_size)) (emptied s size w.long w.some_room w.short),
  )
  one_event (added t a) after h = (
    ap (added t) (h.answer ∙ ap₂ added_by (add_same t) same_places),
    subst (λ (x : List ℕ). State x size (plain_after size ps (add t))) (sym h.bytes) (added_state t),
  )
  one_event (removed n k) after h = (
    ap (removed n) (h.answer ∙ held_same n),
    subst (λ (x : List ℕ). State x size (set ps n none)) (sym h.bytes) (removed_state n),
  )
  one_event (fetched n k t) after h = (
    ap₂ (fetched n) (h.0 ∙ held_same n) (h.1 ∙ fetched_same n),
    subst (λ (x : List ℕ). State x size ps) (sym h.2) w,
  )

pub as_plain : AsPlain
unfolding Follows
as_plain size es h = go es h.empty free first h.follows
  where
    first : State h.empty size free
    first =
        let a : size_right (length h.buffer) ≡ true = (passed (size_right (length h.buffer)) 25 0 (sym h.makes.answer)).0 in
        let b = both_true (leb 8 (length h.buffer)) (leb (length h.buffer) 65536) a in
        let m : 8 ≤ size = omega (arith, h.long, leb-true 8 (length h.buffer) b.0) in
        let n : size ≤ 65536 = omega (arith, h.long, leb-true (length h.buffer) 65536 b.1) in
        subst (λ (x : List ℕ). State x size free) (sym (h.makes.bytes ∙ rw a)) (emptied h.buffer size h.long m n)

    go : (es : List Event) (x : List ℕ) (ps : List Place) → State x size ps → Follows x es → es ≡ plain_events size ps (map call_of es)
    go [] x ps w f = refl
    go (e ∷ es) x ps w f =
        let one = one_event x size ps w e f.0 f.1 in
        ap₂ (λ (a : Event) (l : List Event). a ∷ l) one.0 (go es f.0 (plain_after size ps (call_of e)) one.1 f.2)

pub never_26 : Never26
never_26 size es h = subst (Each (λ e. refusal_in e ≡ 26 → ⊥)) (sym (as_plain size es h)) (go (map call_of es) free)
  where
    add_not : (a b c : Bool) → unless a 12 (unless b 27 (unless c 28 0)) ≡ 26 → ⊥
    add_not true true true e = omega arith
    add_not true true false e = omega arith
    add_not true false c e = omega arith
    add_not false b c e = omega arith

    held_not : (b : Bool) → unless b 29 0 ≡ 26 → ⊥
    held_not true e = omega arith
    held_not false e = omega arith

    one : (c : Call) (ps : List Place) → refusal_in (plain_event size ps c) ≡ 26 → ⊥
    one make ps e = omega arith
    one (add t) ps e = add_not (tableCheck t) (ltb (held_count ps) 64) (leb (room_for ps t) size) e
    one (remove n) ps e = held_not (is_held (get_or ps n none)) e
    one (fetch n) ps e = held_not (is_held (get_or ps n none)) e

    go : (cs : List Call) (ps : List Place) → Each (λ e. refusal_in e ≡ 26 → ⊥) (plain_events size ps cs)
    go [] ps = tt
    go (c ∷ cs) ps = (one c ps, go cs (plain_after size ps c))

-- ---- every table held passes the check

abbrev Passing : List Place → Type 0
Passing ps = (n : ℕ) (t : List ℕ) → get_or ps n none ≡ some t → tableCheck t ≡ true

passing_free : Passing free
passing_free n t e = some_none {t = t} (sym e ∙ all_free 64 n)

passing_set : (ps : List Place) (k : ℕ) (p : Place) → Passing ps → ((t : List ℕ) → p ≡ some t → tableCheck t ≡ true) → Passing (set ps k p)
passing_set [] k p w h n t e = w n t e
passing_set (q ∷ ps) zero p w h zero t e = h t e
passing_set (q ∷ ps) zero p w h (suc n) t e = w (suc n) t e
passing_set (q ∷ ps) (suc k) p w h zero t e = w zero t e
passing_set (q ∷ ps) (suc k) p w h (suc n) t e = passing_set ps k p (λ i u f. w (suc i) u f) h n t e

passing_after : (size : ℕ) (ps : List Place) (c : Call) → Passing ps → Passing (plain_after size ps c)
passing_after size ps make w = passing_free
passing_after size ps (add t) w = go (eqb (add_refusal_in size ps t) 0) refl
  where
    go : (b : Bool) → eqb (add_refusal_in size ps t) 0 ≡ b → Passing (pick b (λ _. set ps (lowest_free ps) (some t)) (λ _. ps))
    go true e =
        let c : tableCheck t ≡ true = (passed (tableCheck t) 11 _ (eqb-true (add_refusal_in size ps t) 0 e)).0 in
        passing_set ps (lowest_free ps) (some t) w (λ u f. ap tableCheck (sym (ap table_in f)) ∙ c)
    go false e = w
passing_after size ps (remove n) w = passing_set ps n none w (λ u f. some_none {t = u} (sym f))
passing_after size ps (fetch n) w = w

pub fetched_pass : FetchedPass
fetched_pass size es h = subst (Each Passes) (sym (as_plain size es h)) (go (map call_of es) free passing_free)
  where
    held : (ps : List Place) (n : ℕ) (q : Place) → get_or ps n none ≡ q → Passing ps → unless (is_held (get_or ps n none)) 29 0 ≡ 0 → tableCheck (table_in (get_or ps n none)) ≡ true
    held ps n none f p e = let y : ◌≡◌ {A = ℕ} 29 0 = rw f at e in absurd (omega arith)
    held ps n (some t) f p e = rw f (p n t f)

    one : (ps : List Place) (c : Call) → Passing ps → Passes (plain_event size ps c)
    one ps make p = tt
    one ps (add t) p = tt
    one ps (remove n) p = tt
    one ps (fetch n) p = held ps n (get_or ps n none) refl p

    go : (cs : List Call) (ps : List Place) → Passing ps → Each Passes (plain_events size ps cs)
    go [] ps p = tt
    go (c ∷ cs) ps p = (one ps c p, go cs (plain_after size ps c) (passing_after size ps c p))
