-- The first visited entry that left bottom on the stack: with one more visit, and past the end of the run. Assumes nothing.
use mathlib.Core.Path.{◌≡◌, refl, sym, ap, ◌∙◌}
use mathlib.Core.Bool.{Bool, true, false, cond, ◌&&◌, ◌||◌, and-false, or-false}
use mathlib.Core.List.{List, [], ◌∷◌, map}
use Prim.Native.Nat.{ℕ, zero, suc, ◌+◌, ◌-◌, ◌≤◌, ◌<◌}
use native.Mathlib.Decide.{dec_lt}
use native.Mathlib.Nat.{not-suc-le-zero}
use native.Mathlib.Numerals.{add-one}
use native.Mathlib.Omega.{arith}
use borrow.Author.Tests.{ltb-true, eqb-true, eqb-false, ne_eqb}
use lib.Dec.{eqb}
use lib.ListN.{length, drop}
use Rattle.common.proofs.Choice.{true_false}
use Rattle.opcode.specs.Opcode.{op_of, Kind}
use Rattle.opcode.specs.declared.Edition.{Edition}
use Rattle.opcode.specs.declared.Op.{Op}
use Rattle.table.specs.Table.{Program, edition_of, count_of, entry_at, pool_of, decode}
use Rattle.table.specs.declared.Entry.{Entry}
use Rattle.table.specs.Check.{check_of}
use Rattle.table.proofs.Tests.{both_true}
use Rattle.table.proofs.Theorems.{checked_layout}
use Rattle.table.proofs.Laid.{laid}
use Rattle.table.proofs.Reading.{length_entries}
use Rattle.value.specs.Value.{Item, kind_of, is_bottom}
use Rattle.interpreter.specs.Run.{State, slot_at, stack_by, visit, rule, after_from, after}
use Rattle.interpreter.specs.Undecided.{holds_bottom, entry_after, visits, leaves_bottom, no_entry, first_from, undecided_after}
use Rattle.interpreter.proofs.Safe.{rule_more, after_next, after_past}

-- ---- one stack and the next

neither : (a b : Bool) → (a || b) ≡ false → (a ≡ false) × (b ≡ false)
neither true b e = true_false e
neither false b e = (refl, e)

drop_clean : (j : ℕ) (st : List Item) → holds_bottom st ≡ false → holds_bottom (drop j st) ≡ false
drop_clean zero st e = e
drop_clean (suc j) [] e = refl
drop_clean (suc j) (x ∷ st) e = drop_clean j st (neither (is_bottom x) (holds_bottom st) e).1

-- the topmost operand, and the one below it, of a stack without bottom: its kind is told by those of the stack, and it is not bottom
pub top_known : (st : List Item) (k : Kind) (ks : List Kind) → map kind_of st ≡ k ∷ ks → holds_bottom st ≡ false → (kind_of (slot_at st 0) ≡ k) × (is_bottom (slot_at st 0) ≡ false)
top_known [] k ks e c = (cc, cc)
top_known (x ∷ st) k ks e c = (cc, (neither (is_bottom x) (holds_bottom st) c).0)

pub second_known : (st : List Item) (j k : Kind) (ks : List Kind) → map kind_of st ≡ j ∷ k ∷ ks → holds_bottom st ≡ false → (kind_of (slot_at st 1) ≡ k) × (is_bottom (slot_at st 1) ≡ false)
second_known [] j k ks e c = (cc, cc)
second_known (x ∷ st) j k ks e c = top_known st k ks (cc) (neither (is_bottom x) (holds_bottom st) c).1

-- a result on a stack without bottom is all there is to look at
pub put_bottom : (x : Item) (j : ℕ) (st : List Item) → holds_bottom st ≡ false → holds_bottom (x ∷ drop j st) ≡ is_bottom x
put_bottom x j st e = ap (λ (b : Bool). is_bottom x || b) (drop_clean j st e) ∙ or-false (is_bottom x)

-- .. so bottom that an entry leaves stands on top
top_bottom : (edition : Edition) (pool notice : List ℕ) (o : Op) (e : Entry) (st : List Item) → holds_bottom st ≡ false
    → holds_bottom (stack_by edition pool notice o e st) ≡ true → is_bottom (slot_at (stack_by edition pool notice o e st) 0) ≡ true
top_bottom edition pool notice (Op.Load l) e st c h = sym (put_bottom (slot_at (stack_by edition pool notice (Op.Load l) e st) 0) 0 st c) ∙ h
top_bottom edition pool notice (Op.Unary u) e st c h = sym (put_bottom (slot_at (stack_by edition pool notice (Op.Unary u) e st) 0) 1 st c) ∙ h
top_bottom edition pool notice (Op.Binary b) e st c h = sym (put_bottom (slot_at (stack_by edition pool notice (Op.Binary b) e st) 0) 2 st c) ∙ h
top_bottom edition pool notice (Op.Many m) e st c h = sym (put_bottom (slot_at (stack_by edition pool notice (Op.Many m) e st) 0) (suc e.a) st c) ∙ h
top_bottom edition pool notice (Op.Skip k) e st c h = true_false (sym h ∙ c)
top_bottom edition pool notice Op.Unknown e st c h = true_false (sym h ∙ c)

-- ---- one visit more

-- the number so far, and with one more entry, `next`, that left bottom on a stack without it, or did not
abbrev pub with_next : ℕ → ℕ → Bool → ℕ
with_next first next b = cond (eqb first no_entry && b) next first

pub unchanged : (first next : ℕ) {b : Bool} → b ≡ false → first ≡ with_next first next b
unchanged first next e = sym (ap (with_next first next) e ∙ ap (λ (c : Bool). cond c next first) (and-false (eqb first no_entry)))

module _ (p : Program) (notice : List ℕ) where
  after_suc : (k : ℕ) → after p notice (suc k) ≡ rule p notice (after p notice k)
  after_suc k = sym (ap (after p notice) (add-one k)) ∙ after_next p notice k

  no_visit : (k : ℕ) → visits p notice k ≡ false → after p notice (suc k) ≡ after p notice k
  no_visit k e = after_suc k ∙ rw e refl

  start_clean : holds_bottom (after p notice 0).stack ≡ false
  unfolding after_from
  start_clean = refl

  -- the first that there is: none before it
  abbrev pub First : ℕ → Type 0
  First n = (k : ℕ) × (k < n) × (undecided_after p notice n ≡ entry_after p notice k) × (leaves_bottom p notice k ≡ true) × (undecided_after p notice k ≡ no_entry)

  module _ (few : length p.entries ≤ 512) where
    -- the number of an entry is not 65535
    number : (k : ℕ) → leaves_bottom p notice k ≡ true → entry_after p notice k ≡ no_entry → ⊥
    number k e q =
        let h = ltb-true (entry_after p notice k) (length p.entries) (both_true (visits p notice k) (holds_bottom (after p notice (suc k)).stack) e).0 in
        omega arith

    firsts : (n k : ℕ) → first_from (suc n) k p notice ≡ with_next (first_from n k p notice) (entry_after p notice (n + k)) (leaves_bottom p notice (n + k))
    unfolding first_from
    firsts zero k = let e : 0 + k ≡ k = omega arith in ap (λ (i : ℕ). with_next no_entry (entry_after p notice i) (leaves_bottom p notice i)) (sym e)
    firsts (suc n) k = go (leaves_bottom p notice k) refl (firsts n (suc k))
      where
        go : (b : Bool) → leaves_bottom p notice k ≡ b
            → first_from (suc n) (suc k) p notice ≡ with_next (first_from n (suc k) p notice) (entry_after p notice (n + suc k)) (leaves_bottom p notice (n + suc k))
            → cond b (entry_after p notice k) (first_from (suc n) (suc k) p notice)
            ≡ with_next (cond b (entry_after p notice k) (first_from n (suc k) p notice)) (entry_after p notice (suc n + k)) (leaves_bottom p notice (suc n + k))
        go true e ih = rw (ne_eqb (entry_after p notice k) no_entry (number k e)) refl
        go false e ih =
            let i : n + suc k ≡ suc n + k = omega arith in
            ih ∙ ap (λ (j : ℕ). with_next (first_from n (suc k) p notice) (entry_after p notice j) (leaves_bottom p notice j)) i

    first_next : (k : ℕ) → undecided_after p notice (suc k) ≡ with_next (undecided_after p notice k) (entry_after p notice k) (leaves_bottom p notice k)
    first_next k =
        let e : k + 0 ≡ k = omega arith in
        firsts k 0 ∙ ap (λ (j : ℕ). with_next (undecided_after p notice k) (entry_after p notice j) (leaves_bottom p notice j)) e

    -- none of them, if none so far and the next leaves none; and only then
    none_more : (k : ℕ) → undecided_after p notice k ≡ no_entry → leaves_bottom p notice k ≡ false → undecided_after p notice (suc k) ≡ no_entry
    none_more k e l = first_next k ∙ sym (unchanged (undecided_after p notice k) (entry_after p notice k) l) ∙ e

    none_less : (k : ℕ) → undecided_after p notice (suc k) ≡ no_entry → (undecided_after p notice k ≡ no_entry) × (leaves_bottom p notice k ≡ false)
    none_less k e = go (eqb (undecided_after p notice k) no_entry) (leaves_bottom p notice k) refl refl (sym (first_next k) ∙ e)
      where
        go : (a b : Bool) → eqb (undecided_after p notice k) no_entry ≡ a → leaves_bottom p notice k ≡ b
            → cond (a && b) (entry_after p notice k) (undecided_after p notice k) ≡ no_entry → (undecided_after p notice k ≡ no_entry) × (leaves_bottom p notice k ≡ false)
        go true true q l r = absurd (number k l r)
        go true false q l r = (r, l)
        go false b q l r = absurd (eqb-false (undecided_after p notice k) no_entry q r)

    -- where there is none so far, no bottom is on the stack
    pub clean : (k : ℕ) → undecided_after p notice k ≡ no_entry → holds_bottom (after p notice k).stack ≡ false
    clean zero e = start_clean
    clean (suc k) e = let n = none_less k e in go (visits p notice k) refl n.1 (clean k n.0)
      where
        go : (b : Bool) → visits p notice k ≡ b → (b && holds_bottom (after p notice (suc k)).stack) ≡ false
            → holds_bottom (after p notice k).stack ≡ false → holds_bottom (after p notice (suc k)).stack ≡ false
        go true v l c = l
        go false v l c = ap (λ (t : State). holds_bottom t.stack) (no_visit k v) ∙ c

    -- so the next visit is judged on a stack without bottom
    pub first_by : (k : ℕ) (b : Bool) → (holds_bottom (after p notice k).stack ≡ false → leaves_bottom p notice k ≡ b)
        → undecided_after p notice (suc k) ≡ with_next (undecided_after p notice k) (entry_after p notice k) b
    first_by k b f = first_next k ∙ go (eqb (undecided_after p notice k) no_entry) refl
      where
        go : (a : Bool) → eqb (undecided_after p notice k) no_entry ≡ a
            → cond (a && leaves_bottom p notice k) (entry_after p notice k) (undecided_after p notice k) ≡ cond (a && b) (entry_after p notice k) (undecided_after p notice k)
        go true q = ap (λ (c : Bool). cond c (entry_after p notice k) (undecided_after p notice k)) (f (clean k (eqb-true (undecided_after p notice k) no_entry q)))
        go false q = refl

    -- a visit that leaves the stack as it is, or no visit
    first_kept : (k : ℕ) → (after p notice (suc k)).stack ≡ (after p notice k).stack → undecided_after p notice (suc k) ≡ undecided_after p notice k
    first_kept k e =
        first_by k false (λ c. ap (λ (b : Bool). visits p notice k && b) (ap holds_bottom e ∙ c) ∙ and-false (visits p notice k))
        ∙ sym (unchanged (undecided_after p notice k) (entry_after p notice k) refl)

    -- none of so many visits
    pub none_each : (n : ℕ) → undecided_after p notice n ≡ no_entry → (k : ℕ) → k < n → leaves_bottom p notice k ≡ false
    none_each zero e k h = absurd (not-suc-le-zero h)
    none_each (suc n) e k h = let m = none_less n e in go (dec_lt k n) (none_each n m.0 k) m.1
      where
        go : Dec (k < n) → (k < n → leaves_bottom p notice k ≡ false) → leaves_bottom p notice n ≡ false → leaves_bottom p notice k ≡ false
        go (yes l) ih last = ih l
        go (no l) ih last = let q : k ≡ n = omega arith in ap (leaves_bottom p notice) q ∙ last

    pub each_none : (n : ℕ) → ((k : ℕ) → k < n → leaves_bottom p notice k ≡ false) → undecided_after p notice n ≡ no_entry
    unfolding first_from
    each_none zero f = refl
    each_none (suc n) f = none_more n (each_none n (λ k h. f k (omega arith))) (f n (omega arith))

    pub first_is : (n : ℕ) → (undecided_after p notice n ≡ no_entry → ⊥) → First n
    unfolding first_from
    first_is zero f = absurd (f refl)
    first_is (suc n) f = go (eqb (undecided_after p notice n) no_entry) (leaves_bottom p notice n) refl refl (first_next n) (first_is n)
      where
        go : (a b : Bool) → eqb (undecided_after p notice n) no_entry ≡ a → leaves_bottom p notice n ≡ b
            → undecided_after p notice (suc n) ≡ cond (a && b) (entry_after p notice n) (undecided_after p notice n) → ((undecided_after p notice n ≡ no_entry → ⊥) → First n) → First (suc n)
        go true true q l r ih = (n, omega arith, r, l, eqb-true (undecided_after p notice n) no_entry q)
        go true false q l r ih = absurd (f (r ∙ eqb-true (undecided_after p notice n) no_entry q))
        go false b q l r ih =
            let w = ih (eqb-false (undecided_after p notice n) no_entry q) in
            (w.0, omega (arith, w.1), r ∙ w.2, w.3, w.4)

-- ---- of a checked table

pub few_entries : (s : List ℕ) → check_of s ≡ true → length (decode s).entries ≤ 512
few_entries s checked = omega (arith, length_entries s, (laid s (checked_layout s checked)).few)

module _ (s notice : List ℕ) (checked : check_of s ≡ true) where
  -- an entry that leaves bottom on the stack is one of the table's; the first that does leaves it on top
  pub first_inside : (k : ℕ) → leaves_bottom (decode s) notice k ≡ true → entry_after (decode s) notice k < count_of s
  first_inside k l =
      let h = (both_true (visits (decode s) notice k) (holds_bottom (after (decode s) notice (suc k)).stack) l).0 in
      rw (length_entries s) at (ltb-true (entry_after (decode s) notice k) (length (decode s).entries) h)

  pub first_top : (k : ℕ) → leaves_bottom (decode s) notice k ≡ true → undecided_after (decode s) notice k ≡ no_entry → is_bottom (slot_at (after (decode s) notice (suc k)).stack 0) ≡ true
  first_top k l e =
      let t = after (decode s) notice k in
      let n = entry_at s t.next in
      let r : after (decode s) notice (suc k) ≡ visit (edition_of s) (pool_of s) notice n t = after_suc (decode s) notice k ∙ rule_more s notice t (first_inside k l) in
      let h = (both_true (visits (decode s) notice k) (holds_bottom (after (decode s) notice (suc k)).stack) l).1 in
      ap (λ (u : State). is_bottom (slot_at u.stack 0)) r
      ∙ top_bottom (edition_of s) (pool_of s) notice (op_of n.op) n t.stack (clean (decode s) notice (few_entries s checked) k e) (sym (ap (λ (u : State). holds_bottom u.stack) r) ∙ h)

  -- where the run has ended, more visits change nothing
  pub first_past : (j k : ℕ) → j ≤ k → count_of s ≤ (after (decode s) notice j).next → undecided_after (decode s) notice k ≡ undecided_after (decode s) notice j
  first_past j k h e = let split : k ≡ k - j + j = omega arith in ap (undecided_after (decode s) notice) split ∙ go (k - j)
    where
      go : (i : ℕ) → undecided_after (decode s) notice (i + j) ≡ undecided_after (decode s) notice j
      go zero = let z : 0 + j ≡ j = omega arith in ap (undecided_after (decode s) notice) z
      go (suc i) =
          let z : suc i + j ≡ suc (i + j) = omega arith in
          let l : j ≤ suc (i + j) = omega arith in
          let m : j ≤ i + j = omega arith in
          ap (undecided_after (decode s) notice) z
          ∙ first_kept (decode s) notice (few_entries s checked) (i + j) (ap (λ (t : State). t.stack) (after_past s notice j (suc (i + j)) l e ∙ sym (after_past s notice j (i + j) m e)))
          ∙ go i
