-- The theorems that specs/Theorems.antt states. Assumes nothing.
use mathlib.Core.Path.{◌≡◌, refl, sym, ap, subst, ◌∙◌}
use mathlib.Core.Bool.{Bool, true, false, ◌&&◌, ◌||◌, or-true}
use mathlib.Core.List.{List, [], ◌∷◌, ◌++◌, append-nil, append_assoc}
use Prim.Native.Nat.{ℕ, ◌+◌, ◌*◌, ◌≤◌}
use native.Mathlib.Omega.{arith}
use native.Mathlib.Decide.{dec_le}
use lib.Dec.{eqb, leb, ltb}
use lib.ListN.{length, set, drop}
use lib.Seq.{sets, length-sets, drop-set-lt}
use borrow.Author.Tests.{ltb-false, ne_eqb}
use Rattle.common.specs.Choice.{pick}
use Rattle.common.proofs.Choice.{true_false}
use Rattle.octets.proofs.Theorems.{and_parts, same_refl}
use Rattle.quorum.specs.Decision.{has, count_of, values_of, kept, holds_of, head_bytes, opened_with}
use Rattle.quorum.specs.Showing.{Turn, Keep, Add, Refuse, Shown, staff_of, turn_of, adds, bytes_by, open_refusal, Opens, Shows}
use Rattle.quorum.specs.Theorems.{Event, Follows, History, counts, staffs_of, brought, staff_values, how_many, Counted, Reached, CountedOnce, NeverTwenty, ShownAgain, NeverTwelve, AtMostEight, RefusedStays, RefusedMakesNone, ShownPast, OpenedPast, OpenedKeeps}
use Rattle.quorum.proofs.Counting.{neither, has_append, collect, collect_append, has_collect, collect_number, collect_full}
use Rattle.quorum.proofs.Reading.{holding, holds, length_values}
use Rattle.quorum.proofs.Opening.{openable}
use Rattle.quorum.proofs.Writing.{length_head, drop_after, Keeps, opening_keeps}
use Rattle.quorum.proofs.Staff.{staff_short}
use Rattle.quorum.proofs.Turns.{length_by, with_staff, without_staff, not_held, answer_by_lem, bytes_by_lem, free-place}
use Rattle.quorum.proofs.Steps.{takes, runs_true, counts_by, Step, held_step, step, Reaches, walk, values_append}
pub use Rattle.quorum.proofs.Counting.{numbered, numberable}

-- ---- an opening

module _ (s table after : List ℕ) (needed : ℕ) (a : Shown) (w : Opens s table needed after a) where
  number_is : a.number ≡ open_refusal (length s) table needed
  number_is = ap (λ (x : Shown). x.number) w.answer

  module _ (z : a.number ≡ 0) where
    new_bytes : after ≡ opened_with s table needed
    new_bytes = let e : open_refusal (length s) table needed ≡ 0 = sym number_is ∙ z in w.bytes ∙ rw e

    new_keeps : Keeps after table needed []
    new_keeps = rw new_bytes (opening_keeps s table needed (openable (length s) table needed (sym number_is ∙ z)))

  old_bytes : (a.number ≡ 0 → ⊥) → after ≡ s
  old_bytes n =
      let e : eqb (open_refusal (length s) table needed) 0 ≡ false = ne_eqb (open_refusal (length s) table needed) 0 (λ z. n (number_is ∙ z)) in
      w.bytes ∙ rw e

-- ---- the last event of a history

module _ (table : List ℕ) (needed : ℕ) (es : List Event) (e : Event) (h : History table needed (es ++ (e ∷ []))) where
  there : Reaches table needed [] es (e ∷ [])
  there = walk table needed es (e ∷ []) h.opened [] (new_keeps h.buffer table h.opened needed h.answer h.opens h.accepted) h.follows

  -- the values that are kept before it
  abbrev vs : List (List ℕ)
  vs = collect [] (staff_values table es)

  last_step : (after : List ℕ) × Step after table needed vs e
  unfolding Follows
  last_step = let x = there.follows in (x.0, step there.bytes table needed vs there.keeps e x.0 x.1)

  final : Step last_step.0 table needed vs e
  final = last_step.1

  -- the values that it leaves are those of the whole history
  all_values : collect vs (brought table e) ≡ collect [] (staff_values table (es ++ (e ∷ [])))
  unfolding staff_values
  all_values = sym (ap (collect []) (values_append table es (e ∷ []) ∙ ap (λ (l : List (List ℕ)). staff_values table es ++ l) (append-nil (brought table e))) ∙ collect_append [] (staff_values table es) (brought table e))

  unchanged : collect vs (brought table e) ≡ vs → e.answer.count ≡ how_many (staff_values table es)
  unchanged z = final.count ∙ (ap length z ∙ collect_number (staff_values table es))

  -- a value of the history is kept
  known : (v : List ℕ) → has v (staff_values table es) ≡ true → has v vs ≡ true
  unfolding has
  known v k = has_collect v [] (staff_values table es) ∙ k

  counted_before : (v : List ℕ) → staffs_of e.notice ≡ v ∷ [] → has v vs ≡ true → collect vs (brought table e) ≡ vs
  unfolding collect
  counted_before v i k = go (counts table e) refl
    where
      go : (b : Bool) → counts table e ≡ b → collect vs (pick (counts table e) (λ _. staffs_of e.notice) (λ _. [])) ≡ vs
      go true t = rw (t, i, k)
      go false t = rw t

pub counted : Counted
counted table needed es e h = (final table needed es e h).count ∙ (ap length (all_values table needed es e h) ∙ collect_number (staff_values table (es ++ (e ∷ []))))

pub reached : Reached
reached table needed es e h = (final table needed es e h).reached

pub counted_once : CountedOnce
counted_once table needed es e h v i k = unchanged table needed es e h (counted_before table needed es e h v i (known table needed es e h v k))

pub never_twenty : NeverTwenty
never_twenty table needed es e h v i k = (final table needed es e h).not_twenty v i (known table needed es e h v k)

pub never_twelve : NeverTwelve
never_twelve table needed es e h = (final table needed es e h).not_twelve

-- ---- a notice shown again

-- one who is not taken when another list is: there is no place left
full : (v : List ℕ) (vs ws : List (List ℕ)) → takes v ws ≡ true → takes v vs ≡ false → 8 ≤ length vs
unfolding takes
full v vs ws a b = ltb-false (length vs) 8 (neither (has v vs) (ltb (length vs) 8) (sym (ap (λ (x : Bool). x && (has v vs || ltb (length vs) 8)) (and_parts (leb 1 (length v)) _ a).0) ∙ b)).1

module _ (table : List ℕ) (needed : ℕ) (es fs : List Event) (e f : Event) (h : History table needed ((es ++ (e ∷ fs)) ++ (f ∷ []))) (q : f.notice ≡ e.notice) where
  -- the values that are kept before it is shown first, and before it is shown again
  abbrev first : List (List ℕ)
  first = collect [] (staff_values table es)

  abbrev second : List (List ℕ)
  second = collect [] (staff_values table (es ++ (e ∷ fs)))

  earlier : (after : List ℕ) × Step after table needed first e
  unfolding Follows
  earlier =
      let k = new_keeps h.buffer table h.opened needed h.answer h.opens h.accepted in
      let r = walk table needed es (e ∷ (fs ++ (f ∷ []))) h.opened [] k (subst (λ (l : List Event). Follows h.opened l) (append_assoc es (e ∷ fs) (f ∷ [])) h.follows) in
      let x = r.follows in
      (x.0, step r.bytes table needed first r.keeps e x.0 x.1)

  later : Step (last_step table needed (es ++ (e ∷ fs)) f h).0 table needed second f
  later = final table needed (es ++ (e ∷ fs)) f h

  grown : second ≡ collect (collect first (brought table e)) (staff_values table fs)
  unfolding staff_values
  grown =
      ap (collect []) (values_append table es (e ∷ fs))
      ∙ (collect_append [] (staff_values table es) (brought table e ++ staff_values table fs) ∙ collect_append first (brought table e) (staff_values table fs))

  at_most : length second ≤ 8
  at_most =
      let r = there table needed (es ++ (e ∷ fs)) f h in
      omega (arith, ap length r.keeps.values_are, length_values r.bytes 0 (count_of r.bytes), r.keeps.holding.head.few)

  -- it counted when it was shown first
  counted_first : counts table e ≡ true → collect second (brought table f) ≡ second
  unfolding has staff_values
  counted_first u =
      let v = staff_of e.notice in
      let b : brought table e ≡ v ∷ [] = rw u (earlier.1.staff u) in
      let m : has v (brought table e ++ staff_values table fs) ≡ true = rw (b, same_refl v) in
      let n : has v (staff_values table (es ++ (e ∷ fs))) ≡ true =
      ap (has v) (values_append table es (e ∷ fs)) ∙ (has_append v (staff_values table es) (brought table e ++ staff_values table fs) ∙ (ap (λ (x : Bool). has v (staff_values table es) || x) m ∙ or-true (has v (staff_values table es)))) in
      counted_before table needed (es ++ (e ∷ fs)) f h v (ap staffs_of q ∙ earlier.1.staff u) (known table needed (es ++ (e ∷ fs)) f h v n)

  -- it counts now, and did not then: there was no place, and there is none now
  counted_late : counts table f ≡ true → counts table e ≡ false → ⊥
  unfolding collect
  counted_late t u =
      let v = staff_of e.notice in
      let a = and_parts (runs_true table e.notice) (takes v second) (ap (counts_by table second) (sym q) ∙ (sym later.counted ∙ t)) in
      let b : takes v first ≡ false = sym (ap (λ (x : Bool). x && takes v first) a.0) ∙ (sym earlier.1.counted ∙ u) in
      let n : brought table e ≡ [] = rw u in
      let g : second ≡ collect first (staff_values table fs) = grown ∙ ap (λ (l : List (List ℕ)). collect (collect first l) (staff_values table fs)) n in
      let z : second ≡ first = g ∙ collect_full first (staff_values table fs) (omega (arith, at_most, full v first second a.1 b, ap length g)) in
      true_false (sym a.1 ∙ (ap (takes v) z ∙ b))

  again : (a b : Bool) → counts table f ≡ a → counts table e ≡ b → collect second (brought table f) ≡ second
  unfolding collect
  again false b t u = rw t
  again true true t u = counted_first u
  again true false t u = absurd (counted_late t u)

pub shown_again : ShownAgain
shown_again table needed es fs e f h q =
    unchanged table needed (es ++ (e ∷ fs)) f h (again table needed es fs e f h q (counts table f) (counts table e) refl refl)

-- ---- of every buffer

-- what a notice leaves, if it adds nothing
stays : (s notice after : List ℕ) (a : Shown) → Shows s notice after a → holds_of s ≡ true → adds (turn_of (kept s) notice) ≡ false → after ≡ s
stays s notice after a w e f = w.bytes ∙ (bytes_by_lem s notice e (turn_of (kept s) notice) refl ∙ sym (without_staff (turn_of (kept s) notice) s (staff_of notice) f))

pub at_most_eight : AtMostEight
at_most_eight s notice after a w = go (holds_of s) refl
  where
    go : (b : Bool) → holds_of s ≡ b → a.count ≤ 8
    go true e =
        let t = held_step s notice after a (holding s e) w in
        let l = length_values after 0 (count_of after) in
        let m : length (values_of after) ≡ a.count = ap length t.keeps.values_are ∙ sym t.count in
        omega (arith, l, m, t.keeps.holding.head.few)
    go false e =
        let c : a.count ≡ 0 = ap (λ (x : Shown). x.count) (w.answer ∙ sym (not_held s notice e).answer) in
        omega arith

pub refused_stays : RefusedStays
refused_stays s notice after a w n = go (holds_of s) refl
  where
    by : holds_of s ≡ true → (t : Turn) → t ≡ turn_of (kept s) notice → adds t ≡ false
    by e Keep p = refl
    by e Add p = absurd (n (ap (λ (x : Shown). x.number) (w.answer ∙ answer_by_lem s notice e Add p)))
    by e (Refuse number place) p = refl

    go : (b : Bool) → holds_of s ≡ b → after ≡ s
    go true e = stays s notice after a w e (by e (turn_of (kept s) notice) refl)
    go false e = w.bytes ∙ sym (not_held s notice e).bytes

pub refused_makes_none : RefusedMakesNone
refused_makes_none s table after needed a w n = old_bytes s table after needed a w n

pub shown_past : ShownPast
shown_past s notice after a w = go (holds_of s) (adds (turn_of (kept s) notice)) refl refl
  where
    same_bytes : after ≡ s → (length after ≡ length s) × (drop 528 after ≡ drop 528 s)
    same_bytes q = (ap length q, ap (drop 528) q)

    go : (b c : Bool) → holds_of s ≡ b → adds (turn_of (kept s) notice) ≡ c → (length after ≡ length s) × (drop 528 after ≡ drop 528 s)
    go true true e f =
        let t = turn_of (kept s) notice in
        let v = staff_of notice in
        let q : after ≡ bytes_by t s v = w.bytes ∙ bytes_by_lem s notice e t refl in
        let n = free-place s notice e t refl f in
        let l = staff_short notice in
        (ap length q ∙ length_by t s v, ap (drop 528) (q ∙ sym (with_staff t s v f)) ∙ (drop_after 528 (length v ∷ v) (set s 7 (count_of s + 1)) (8 + 65 * count_of s) (omega arith) ∙ drop-set-lt 528 s 7 (count_of s + 1) (omega arith)))
    go true false e f = same_bytes (stays s notice after a w e f)
    go false c e f = same_bytes (w.bytes ∙ sym (not_held s notice e).bytes)

pub opened_past : OpenedPast
opened_past s table after needed a w = go (dec_le 1 a.number)
  where
    go : Dec (1 ≤ a.number) → (length after ≡ length s) × (drop (528 + length table) after ≡ drop (528 + length table) s)
    go (no z) =
        let q = new_bytes s table after needed a w (omega arith) in
        let n = 528 + length table in
        let head = head_bytes (length table) needed in (
          ap length q ∙ (length-sets (sets s 0 head) 528 table ∙ length-sets s 0 head),
          ap (drop n) q ∙ (drop_after n table (sets s 0 head) 528 (omega arith) ∙ drop_after n head s 0 (omega (arith, length_head (length table) needed))),
        )
    go (yes n) = let q = old_bytes s table after needed a w (λ z. omega arith) in (ap length q, ap (drop (528 + length table)) q)

pub opened_keeps : OpenedKeeps
opened_keeps s table after needed a w z =
    let k = new_keeps s table after needed a w z in
    rw (holds after k.holding, k.table_is, k.needed_is, k.values_are)
