-- What one notice does to a decision, and what the notices since an opening do. Assumes nothing.
use Rattle.std.specs.Prelude.{Ok, Err}
use mathlib.Core.Path.{◌≡◌, refl, sym, ap, subst, ◌∙◌}
use mathlib.Core.Bool.{Bool, true, false, ◌&&◌, ◌||◌}
use mathlib.Core.List.{List, [], ◌∷◌, ◌++◌, append_assoc}
use Prim.Native.Nat.{ℕ, ◌+◌, ◌≤◌}
use native.Mathlib.Omega.{arith}
use lib.Dec.{eqb, leb, ltb}
use lib.ListN.{length, get_or, length-append}
use borrow.Author.Tests.{lt-ltb, le-ltb, le-leb, lt-leb, ne_eqb, eq-eqb}
use Rattle.common.proofs.Choice.{true_false}
use Rattle.truth.specs.Truth.{is_true}
use Rattle.notice.specs.Layout.{Layout}
use Rattle.notice.proofs.Faults.{fault_number}
use Rattle.notice.specs.Layout.{check_of as noticeCheck}
use Rattle.table.specs.Check.{check_of as tableCheck}
use Rattle.interpreter.specs.Running.{RunAnswer, running_of}
use Rattle.interpreter.proofs.Answers.{notice_refused, neither_refused}
use Rattle.quorum.specs.Decision.{has, needed_of, count_of, values_of, table_of, kept, holds_of}
use Rattle.quorum.specs.Showing.{Turn, Keep, Add, Refuse, Shown, staff_of, turn_of, shown_as, answer_by, bytes_by, Shows}
use Rattle.quorum.specs.Theorems.{Event, Follows, counts, staffs_of, brought, staff_values}
use Rattle.quorum.proofs.Counting.{collect, collect_append}
use Rattle.quorum.proofs.Reading.{Holding, holds, length_values}
use Rattle.quorum.proofs.Writing.{Keeps, added_keeps}
use Rattle.quorum.proofs.Staff.{staff_short, staff_string}
use Rattle.quorum.proofs.Turns.{Delivered, Told, told, undecided_in, answer_by_lem, bytes_by_lem}

-- ---- one notice

-- whether a notice counts, by what is kept
unfoldable pub takes : List ℕ → List (List ℕ) → Bool
takes v vs = leb 1 (length v) && (has v vs || ltb (length vs) 8)

abbrev pub runs_true : List ℕ → List ℕ → Bool
runs_true table notice = eqb (running_of table notice).number 0 && is_true (running_of table notice).verdict

abbrev pub counts_by : List ℕ → List (List ℕ) → List ℕ → Bool
counts_by table vs notice = runs_true table notice && takes (staff_of notice) vs

-- what the buffer keeps afterwards, and how the answer stands to it
pub record Step (after table : List ℕ) (needed : ℕ) (vs : List (List ℕ)) (e : Event) : Type 0 where
  pub keeps : Keeps after table needed (collect vs (brought table e))
  pub count : e.answer.count ≡ length (collect vs (brought table e))
  pub reached : e.answer.reached ≡ leb needed e.answer.count
  pub counted : counts table e ≡ counts_by table vs e.notice
  pub staff : counts table e ≡ true → staffs_of e.notice ≡ staff_of e.notice ∷ []
  pub not_twenty : (v : List ℕ) → staffs_of e.notice ≡ v ∷ [] → has v vs ≡ true → e.answer.number ≡ 20 → ⊥
  pub not_twelve : e.answer.number ≡ 12 → ⊥

-- a run of a table that passes the check is refused by 11 or not at all
run_number : (table notice : List ℕ) → tableCheck table ≡ true → 1 ≤ (running_of table notice).number → (running_of table notice).number ≡ 11
run_number table notice e h = go (noticeCheck notice) refl
  where
    go : (l : Layout) → noticeCheck notice ≡ l → (running_of table notice).number ≡ 11
    go (Ok u) q = let z : (running_of table notice).number ≡ 0 = ap (λ (r : RunAnswer). r.number) (sym (neither_refused table notice e q)) in absurd (omega arith)
    go (Err r) q = ap (λ (a : RunAnswer). a.number) (sym (notice_refused table notice r e q)) ∙ fault_number notice r q

module _ (s notice after : List ℕ) (a : Shown) (h : Holding s) (w : Shows s notice after a) where
  abbrev event : Event
  event = record { notice = notice; answer = a }

  abbrev next : List (List ℕ)
  next = collect (values_of s) (brought (table_of s) event)

  abbrev Stepped : Type 0
  Stepped = Step after (table_of s) (needed_of s) (values_of s) event

  held : holds_of s ≡ true
  held = holds s h

  answer_is : (t : Turn) → t ≡ turn_of (kept s) notice → a ≡ answer_by t (count_of s) (needed_of s) (undecided_in s notice)
  answer_is t e = w.answer ∙ answer_by_lem s notice held t e

  bytes_are : (t : Turn) → t ≡ turn_of (kept s) notice → after ≡ bytes_by t s (staff_of notice)
  bytes_are t e = w.bytes ∙ bytes_by_lem s notice held t e

  before : Keeps s (table_of s) (needed_of s) (values_of s)
  before = record { holding = h; table_is = refl; needed_is = refl; values_are = refl }

  keeps_with : (x : List ℕ) (l m : List (List ℕ)) → after ≡ x → l ≡ m → Keeps x (table_of s) (needed_of s) m → Keeps after (table_of s) (needed_of s) l
  keeps_with x l m q z k = rw (q, z) k

  -- refused or short of true: all is as it stood
  uncounted_step : (number place : ℕ) → a ≡ shown_as number place (count_of s) (needed_of s) (undecided_in s notice) → after ≡ s → counts (table_of s) event ≡ false → counts_by (table_of s) (values_of s) notice ≡ false
      → ((v : List ℕ) → staffs_of notice ≡ v ∷ [] → has v (values_of s) ≡ true → number ≡ 20 → ⊥) → (number ≡ 12 → ⊥) → Stepped
  unfolding collect
  uncounted_step number place p q f c u v =
      let o : a.number ≡ number = ap (λ (x : Shown). x.number) p in
      let l : a.count ≡ count_of s = ap (λ (x : Shown). x.count) p in
      let z : next ≡ values_of s = rw f in
      record {
        keeps = keeps_with s next (values_of s) q z before;
        count = l ∙ sym (ap length z ∙ length_values s 0 (count_of s));
        reached = ap (λ (x : Shown). x.reached) p ∙ ap (leb (needed_of s)) (sym l);
        counted = f ∙ sym c;
        staff = λ t. true_false (sym t ∙ f);
        not_twenty = λ x i j k. u x i j (sym o ∙ k);
        not_twelve = λ k. v (sym o ∙ k);
      }

  refused_step : (number place : ℕ) → Refuse number place ≡ turn_of (kept s) notice → (number ≡ 0 → ⊥) → counts_by (table_of s) (values_of s) notice ≡ false
      → ((v : List ℕ) → staffs_of notice ≡ v ∷ [] → has v (values_of s) ≡ true → number ≡ 20 → ⊥) → (number ≡ 12 → ⊥) → Stepped
  refused_step number place e n c u v =
      let p = answer_is (Refuse number place) e in
      let o : eqb a.number 0 ≡ false = ne_eqb a.number 0 (λ z. n (sym (ap (λ (x : Shown). x.number) p) ∙ z)) in
      uncounted_step number place p (bytes_are (Refuse number place) e) (rw o) c u v

  -- the verdict is true, and Staff is right
  module _ (d : Delivered (kept s) notice) (x : 1 ≤ length (staff_of notice)) where
    abbrev v : List ℕ
    v = staff_of notice

    one : staffs_of notice ≡ v ∷ []
    one = staff_string notice x

    the_one : (y : List ℕ) → staffs_of notice ≡ y ∷ [] → y ≡ v
    the_one y e = ap (λ (l : List (List ℕ)). get_or l 0 []) (sym e ∙ one)

    counts_by_lem : (b c : Bool) → has v (values_of s) ≡ b → ltb (length (values_of s)) 8 ≡ c → counts_by (table_of s) (values_of s) notice ≡ (b || c)
    unfolding takes
    counts_by_lem b c e f = rw (eq-eqb _ 0 d.accepted, d.holds_true, le-leb 1 (length v) x, e, f)

    -- not refused
    accepted_step : (count : ℕ) → a ≡ shown_as 0 0 count (needed_of s) (undecided_in s notice) → counts_by (table_of s) (values_of s) notice ≡ true
        → (count ≡ length (collect (values_of s) (v ∷ []))) → Keeps after (table_of s) (needed_of s) (collect (values_of s) (v ∷ [])) → Stepped
    accepted_step count p c l k =
        let o : a.number ≡ 0 = ap (λ (y : Shown). y.number) p in
        let m : a.count ≡ count = ap (λ (y : Shown). y.count) p in
        let t : counts (table_of s) event ≡ true = rw (eq-eqb a.number 0 o, d.holds_true) in
        let z : brought (table_of s) event ≡ v ∷ [] = rw t one in
        record {
          keeps = rw z k;
          count = m ∙ (l ∙ ap (λ (ws : List (List ℕ)). length (collect (values_of s) ws)) (sym z));
          reached = ap (λ (y : Shown). y.reached) p ∙ ap (leb (needed_of s)) (sym m);
          counted = t ∙ sym c;
          staff = λ _. one;
          not_twenty = λ y i j g. omega (arith, o, g);
          not_twelve = λ g. omega (arith, o, g);
        }

  by_turn : (t : Turn) → t ≡ turn_of (kept s) notice → Told (kept s) notice t → Stepped
  unfolding collect takes
  by_turn t e (Told.refused_run n) =
      let m = run_number (table_of s) notice h.table n in
      refused_step _ _ e (λ z. omega arith) (rw (ne_eqb (running_of (table_of s) notice).number 0 (λ z. omega arith))) (λ v i j z. omega arith) (λ z. omega arith)
  by_turn t e (Told.aside n f) =
      let p = answer_is Keep e in
      let o : a.number ≡ 0 = ap (λ (x : Shown). x.number) p in
      uncounted_step 0 0 p (bytes_are Keep e) (rw (eq-eqb a.number 0 o, f)) (rw (eq-eqb (running_of (table_of s) notice).number 0 n, f)) (λ v i j k. omega arith) (λ k. omega arith)
  by_turn t e (Told.nameless d l) =
      refused_step 19 0 e (λ z. omega arith) (rw (eq-eqb _ 0 d.accepted, d.holds_true, lt-leb 1 (length (staff_of notice)) (omega arith))) (λ v i j z. omega arith) (λ z. omega arith)
  by_turn t e (Told.known d x g) =
      let z : collect (values_of s) (staff_of notice ∷ []) ≡ values_of s = rw g in
      accepted_step d x (count_of s) (answer_is Keep e) (counts_by_lem d x true _ g refl)
      (sym (ap length z ∙ length_values s 0 (count_of s)))
      (keeps_with s _ (values_of s) (bytes_are Keep e) z before)
  by_turn t e (Told.new d x g y) =
      let z : collect (values_of s) (staff_of notice ∷ []) ≡ values_of s ++ (staff_of notice ∷ []) = rw g in
      let m = length_values s 0 (count_of s) in
      accepted_step d x (count_of s + 1) (answer_is Add e) (counts_by_lem d x false true g (lt-ltb (length (values_of s)) 8 y))
      (sym (ap length z ∙ (length-append (values_of s) (staff_of notice ∷ []) ∙ ap (λ (x : ℕ). x + 1) m)))
      (keeps_with _ _ (values_of s ++ (staff_of notice ∷ [])) (bytes_are Add e) z (added_keeps s (staff_of notice) h x (staff_short notice) g (omega (arith, y, m))))
  by_turn t e (Told.ninth d x g y) =
      refused_step 20 0 e (λ z. omega arith) (counts_by_lem d x false false g (le-ltb (length (values_of s)) 8 y))
      (λ v i j z. true_false (sym (ap (λ (l : List ℕ). has l (values_of s)) (sym (the_one d x v i)) ∙ j) ∙ g)) (λ z. omega arith)

  pub held_step : Stepped
  held_step = by_turn (turn_of (kept s) notice) refl (told (kept s) notice)

pub step : (s table : List ℕ) (needed : ℕ) (vs : List (List ℕ)) → Keeps s table needed vs → (e : Event) (after : List ℕ) → Shows s e.notice after e.answer → Step after table needed vs e
step s table needed vs k e after w =
    subst (λ (t : List ℕ). Step after t needed vs e) k.table_is
    (subst (λ (n : ℕ). Step after (table_of s) n vs e) k.needed_is
    (subst (λ (l : List (List ℕ)). Step after (table_of s) (needed_of s) l e) k.values_are
    (held_step s e.notice after e.answer k.holding w)))

-- ---- the notices since an opening

-- what the buffer keeps after some events, and what follows
pub record Reaches (table : List ℕ) (needed : ℕ) (vs : List (List ℕ)) (es rest : List Event) : Type 0 where
  pub bytes : List ℕ
  pub keeps : Keeps bytes table needed (collect vs (staff_values table es))
  pub follows : Follows bytes rest

pub walk : (table : List ℕ) (needed : ℕ) (es rest : List Event) (s : List ℕ) (vs : List (List ℕ)) → Keeps s table needed vs → Follows s (es ++ rest) → Reaches table needed vs es rest
unfolding Follows staff_values collect
walk table needed [] rest s vs k f = record { bytes = s; keeps = k; follows = f }
walk table needed (e ∷ es) rest s vs k f =
    let t = step s table needed vs k e f.0 f.1 in
    let r = walk table needed es rest f.0 (collect vs (brought table e)) t.keeps f.2 in
    record {
      bytes = r.bytes;
      keeps = subst (λ (l : List (List ℕ)). Keeps r.bytes table needed l) (sym (collect_append vs (brought table e) (staff_values table es))) r.keeps;
      follows = r.follows;
    }

pub values_append : (table : List ℕ) (es fs : List Event) → staff_values table (es ++ fs) ≡ staff_values table es ++ staff_values table fs
unfolding staff_values
values_append table [] fs = refl
values_append table (e ∷ es) fs =
    ap (λ (l : List (List ℕ)). brought table e ++ l) (values_append table es fs) ∙ sym (append_assoc (brought table e) (staff_values table es) (staff_values table fs))
