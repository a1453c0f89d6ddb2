-- What a notice is to a decision, case by case, and what is answered. Assumes nothing.
use mathlib.Core.Path.{◌≡◌, refl, sym, ap, subst, ◌∙◌}
use mathlib.Core.Bool.{Bool, true, false, cond}
use mathlib.Core.List.{List, ◌∷◌}
use Prim.Native.Nat.{ℕ, ◌+◌, ◌*◌, ◌≤◌, ◌<◌}
use native.Mathlib.Omega.{arith}
use native.Mathlib.Decide.{dec_le, dec_lt}
use lib.ListN.{length, set, length-set}
use lib.Seq.{length-sets}
use borrow.Author.Tests.{lt-ltb, le-ltb, eq-eqb, ne_eqb}
use Rattle.common.specs.Choice.{pick}
use Rattle.common.proofs.Choice.{true_false}
use Rattle.truth.specs.Truth.{is_true}
use Rattle.interpreter.specs.Running.{RunAnswer, running_of}
use Rattle.quorum.specs.Decision.{Decision, has, table_of, needed_of, count_of, kept, holds_of, added_to}
use Rattle.quorum.specs.Showing.{Turn, Keep, Add, Refuse, Shown, nothing_yet, staff_of, staff_turn, turn_by, turn_of, answer_by, adds, bytes_by, show_of, shown_bytes, Shows, Gives}
use Rattle.quorum.proofs.Reading.{length_values}

-- ---- a notice whose verdict is true, by its Staff

module _ (v : List ℕ) (vs : List (List ℕ)) where
  pub turn_none : length v ≡ 0 → Refuse 19 0 ≡ staff_turn v vs
  turn_none h = rw (eq-eqb (length v) 0 h)

  module _ (h : length v ≡ 0 → ⊥) where
    pub turn_known : has v vs ≡ true → Keep ≡ staff_turn v vs
    turn_known e = rw (ne_eqb (length v) 0 h, e)

    pub turn_new : has v vs ≡ false → length vs < 8 → Add ≡ staff_turn v vs
    turn_new e l = rw (ne_eqb (length v) 0 h, e, lt-ltb (length vs) 8 l)

    pub turn_ninth : has v vs ≡ false → 8 ≤ length vs → Refuse 20 0 ≡ staff_turn v vs
    turn_ninth e l = rw (ne_eqb (length v) 0 h, e, le-ltb (length vs) 8 l)

-- ---- a notice, by what its run answers

module _ (d : Decision) (notice : List ℕ) (r : RunAnswer) (e : r ≡ running_of d.table notice) where
  with_run : turn_by r (λ _. staff_turn (staff_of notice) d.values) ≡ turn_of d notice
  with_run = ap (λ (x : RunAnswer). turn_by x (λ _. staff_turn (staff_of notice) d.values)) e

  pub run_refused : (r.number ≡ 0 → ⊥) → Refuse r.number r.place ≡ turn_of d notice
  run_refused n = sym (rw (ne_eqb r.number 0 n)) ∙ with_run

  module _ (z : r.number ≡ 0) where
    pub short_of_true : is_true r.verdict ≡ false → Keep ≡ turn_of d notice
    short_of_true f = sym (rw (eq-eqb r.number 0 z, f)) ∙ with_run

    pub by_staff : is_true r.verdict ≡ true → staff_turn (staff_of notice) d.values ≡ turn_of d notice
    by_staff f = sym (rw (eq-eqb r.number 0 z, f)) ∙ with_run

-- ---- every notice is one of these

pub record Delivered (d : Decision) (notice : List ℕ) : Type 0 where
  pub accepted : (running_of d.table notice).number ≡ 0
  pub holds_true : is_true (running_of d.table notice).verdict ≡ true

pub data Told (d : Decision) (notice : List ℕ) : Turn → Type 0 where
  refused_run : 1 ≤ (running_of d.table notice).number → Told d notice (Refuse (running_of d.table notice).number (running_of d.table notice).place)
  aside : (running_of d.table notice).number ≡ 0 → is_true (running_of d.table notice).verdict ≡ false → Told d notice Keep
  nameless : Delivered d notice → length (staff_of notice) ≡ 0 → Told d notice (Refuse 19 0)
  known : Delivered d notice → 1 ≤ length (staff_of notice) → has (staff_of notice) d.values ≡ true → Told d notice Keep
  new : Delivered d notice → 1 ≤ length (staff_of notice) → has (staff_of notice) d.values ≡ false → length d.values < 8 → Told d notice Add
  ninth : Delivered d notice → 1 ≤ length (staff_of notice) → has (staff_of notice) d.values ≡ false → 8 ≤ length d.values → Told d notice (Refuse 20 0)

pub told : (d : Decision) (notice : List ℕ) → Told d notice (turn_of d notice)
told d notice =
    go (dec_le 1 (running_of d.table notice).number) (is_true (running_of d.table notice).verdict) (dec_le 1 (length (staff_of notice))) (has (staff_of notice) d.values) (dec_lt (length d.values) 8) refl refl
  where
    by : (t : Turn) → t ≡ staff_turn (staff_of notice) d.values → Delivered d notice → Told d notice t → Told d notice (turn_of d notice)
    by t e p x = subst (λ (u : Turn). Told d notice u) (e ∙ by_staff d notice (running_of d.table notice) refl p.accepted p.holds_true) x

    go : Dec (1 ≤ (running_of d.table notice).number) → (a : Bool) → Dec (1 ≤ length (staff_of notice)) → (b : Bool) → Dec (length d.values < 8) → is_true (running_of d.table notice).verdict ≡ a → has (staff_of notice) d.values ≡ b
        → Told d notice (turn_of d notice)
    go (yes n) a x b y f g = subst (λ (u : Turn). Told d notice u) (run_refused d notice (running_of d.table notice) refl (λ z. omega arith)) (refused_run n)
    go (no n) false x b y f g = subst (λ (u : Turn). Told d notice u) (short_of_true d notice (running_of d.table notice) refl (omega arith) f) (aside (omega arith) f)
    go (no n) true (no x) b y f g = let p : Delivered d notice = record { accepted = omega arith; holds_true = f } in by (Refuse 19 0) (turn_none (staff_of notice) d.values (omega arith)) p (nameless p (omega arith))
    go (no n) true (yes x) true y f g = let p : Delivered d notice = record { accepted = omega arith; holds_true = f } in by Keep (turn_known (staff_of notice) d.values (λ z. omega arith) g) p (known p x g)
    go (no n) true (yes x) false (yes y) f g = let p : Delivered d notice = record { accepted = omega arith; holds_true = f } in by Add (turn_new (staff_of notice) d.values (λ z. omega arith) g y) p (new p x g y)
    go (no n) true (yes x) false (no y) f g = let p : Delivered d notice = record { accepted = omega arith; holds_true = f } in by (Refuse 20 0) (turn_ninth (staff_of notice) d.values (λ z. omega arith) g (omega arith)) p (ninth p x g (omega arith))

-- a Staff is added only by a notice whose run is not refused and true, and while there is a free place
adding : (d : Decision) (notice : List ℕ) (t : Turn) → Told d notice t → adds t ≡ true → Delivered d notice × (length d.values < 8)
adding d notice t (refused_run n) e = true_false (sym e)
adding d notice t (aside n f) e = true_false (sym e)
adding d notice t (nameless p l) e = true_false (sym e)
adding d notice t (known p x g) e = true_false (sym e)
adding d notice t (new p x g y) e = (p, y)
adding d notice t (ninth p x g y) e = true_false (sym e)

-- ---- a notice shown to a buffer

module _ (t : Turn) (s v : List ℕ) where
  pub with_staff : adds t ≡ true → added_to s v ≡ bytes_by t s v
  with_staff a = rw a

  pub without_staff : adds t ≡ false → s ≡ bytes_by t s v
  without_staff a = rw a

  pub length_by : length (bytes_by t s v) ≡ length s
  length_by = go (adds t)
    where
      go : (b : Bool) → length (pick b (λ _. added_to s v) (λ _. s)) ≡ length s
      go true = length-sets (set s 7 (count_of s + 1)) (8 + 65 * count_of s) (length v ∷ v) ∙ length-set s 7 (count_of s + 1)
      go false = refl

-- the first undecided entry of the notice's run, which is passed on
abbrev pub undecided_in : List ℕ → List ℕ → ℕ
undecided_in s notice = (running_of (table_of s) notice).undecided

module _ (s notice : List ℕ) where
  pub not_held : holds_of s ≡ false → Shows s notice s (nothing_yet 12)
  not_held e = record { answer = rw e; bytes = rw e }

  module _ (h : holds_of s ≡ true) where
    -- what is answered, and the bytes afterwards, by what the notice is
    pub answer_by_lem : (t : Turn) → t ≡ turn_of (kept s) notice → show_of s notice ≡ answer_by t (count_of s) (needed_of s) (undecided_in s notice)
    answer_by_lem t e = rw (h, ← e, length_values s 0 (count_of s))

    pub bytes_by_lem : (t : Turn) → t ≡ turn_of (kept s) notice → shown_bytes s notice ≡ bytes_by t s (staff_of notice)
    bytes_by_lem t e = rw (h, ← e)

    module _ (t : Turn) (e : t ≡ turn_of (kept s) notice) where
      added : adds t ≡ true → Delivered (kept s) notice × (length (kept s).values < 8)
      added a = adding (kept s) notice (turn_of (kept s) notice) (told (kept s) notice) (rw e at a)

      pub free-place : adds t ≡ true → count_of s < 8
      free-place a = omega (arith, (added a).1, length_values s 0 (count_of s))

      pub shows-by : (ran : RunAnswer) (after : List ℕ) (r : Shown) → ran ≡ running_of (table_of s) notice → r ≡ answer_by t (count_of s) (needed_of s) ran.undecided → after ≡ bytes_by t s (staff_of notice) → Shows s notice after r
      shows-by ran after r g p q =
          record { answer = p ∙ (ap (λ (x : RunAnswer). answer_by t (count_of s) (needed_of s) x.undecided) g ∙ sym (answer_by_lem t e)); bytes = q ∙ sym (bytes_by_lem t e) }

-- ---- in the interface for C

-- the fields of an answer, one by one
pub gives : (a b : Shown) (flag : ℕ) → a ≡ b → flag ≡ cond a.reached 1 0 → Gives b a.number a.place a.count flag a.undecided
gives a b flag e f = record {
  number_is = ap (λ (x : Shown). x.number) e;
  place_is = ap (λ (x : Shown). x.place) e;
  count_is = ap (λ (x : Shown). x.count) e;
  reached_is = f ∙ ap (λ (x : Shown). cond x.reached 1 0) e;
  undecided_is = ap (λ (x : Shown). x.undecided) e;
}
