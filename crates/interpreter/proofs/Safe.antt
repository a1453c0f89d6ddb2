-- The run of a checked table as the rule says it: the kinds of its stack, where it goes, and that it ends. Assumes nothing.
use mathlib.Core.Path.{◌≡◌, refl, sym, ap, ◌∙◌}
use mathlib.Core.Bool.{Bool, true, false, cond}
use mathlib.Core.List.{List, [], ◌∷◌, ◌++◌, map}
use mathlib.Core.Option.{some}
use Prim.Native.Nat.{ℕ, zero, suc, ◌+◌, ◌-◌, ◌<◌, ◌≤◌}
use native.Mathlib.Decide.{dec_lt}
use native.Mathlib.Omega.{arith}
use borrow.Author.Tests.{lt-ltb, le-ltb}
use lib.ListN.{length, drop, replicate}
use Rattle.common.proofs.Choice.{false_true}
use Rattle.opcode.specs.Opcode.{op_of, Kind, takes_of, gives_of}
use Rattle.opcode.specs.declared.Skip.{Skip}
use Rattle.opcode.specs.declared.Op.{Op}
use Rattle.table.specs.Table.{Program, edition_of, count_of, entry_at, entries_of, pool_of, decode}
use Rattle.table.specs.declared.Entry.{Entry}
use Rattle.table.specs.Check.{skip_op, shape_at, check_of}
use Rattle.table.specs.Theorems.{Known}
use Rattle.table.proofs.Theorems.{checked_entry, checked_skip, checked_ends}
use Rattle.table.proofs.Reading.{length_entries, entry_of}
use Rattle.table.proofs.Reached.{depth}
use Rattle.value.specs.Value.{Item, truth_in, kind_of}
use Rattle.value.proofs.Theorems.{unary_kind, binary_kind, load_kind}
use Rattle.interpreter.specs.Run.{State, start, slot_at, skips, stack_by, stride_by, visit, rule, after_from, after}

-- a state of the run of a checked table: the kinds are those before the next entry
pub record Sound (s : List ℕ) (t : State) : Type 0 where
  pub kinds : shape_at (entries_of s) t.next ≡ some (map kind_of t.stack)
  pub inside : t.next ≤ count_of s
  pub counted : t.steps ≤ t.next

map_drop : (j : ℕ) (st : List Item) → map kind_of (drop j st) ≡ drop j (map kind_of st)
map_drop zero st = refl
map_drop (suc j) [] = refl
map_drop (suc j) (x ∷ st) = map_drop j st

drop_values : (a : ℕ) (ks : List Kind) → drop a (replicate a Kind.value ++ ks) ≡ ks
drop_values zero ks = refl
drop_values (suc a) ks = drop_values a ks

pub some_same : {ks ls : List Kind} → some ks ≡ some ls → ks ≡ ls
some_same e = cc

-- a skip that is taken, and one that is not
stride_cond : (b : Bool) (a : ℕ) → 1 ≤ cond b (a + 1) 1
stride_cond true a = omega arith
stride_cond false a = omega arith

pub stride_some : (o : Op) (e : Entry) (st : List Item) → 1 ≤ stride_by o e st
stride_some (Op.Load l) e st = omega arith
stride_some (Op.Unary u) e st = omega arith
stride_some (Op.Binary b) e st = omega arith
stride_some (Op.Many m) e st = omega arith
stride_some (Op.Skip k) e st = stride_cond (skips k (truth_in (slot_at st 0))) e.a
stride_some Op.Unknown e st = omega arith

module _ {s : List ℕ} (notice : List ℕ) {t : State} (checked : check_of s ≡ true) (sound : Sound s t) (more : t.next < count_of s) where
  pub known : Known s t.next
  known = checked_entry s checked t.next more

  -- the operands are on top of the stack
  pub operands : map kind_of t.stack ≡ takes_of (op_of (entry_at s t.next).op) (entry_at s t.next).a ++ known.rest
  operands = some_same (sym sound.kinds ∙ known.before)

  pub never_unknown : op_of (entry_at s t.next).op ≡ Op.Unknown → ⊥
  never_unknown e =
      let r : false ≡ true = rw e at known.right in
      false_true r

  -- an operator's result in its operands' place
  answered : (o : Op) → op_of (entry_at s t.next).op ≡ o → (x : Item) (j : ℕ) → kind_of x ≡ gives_of o
      → ((ks : List Kind) → drop j (takes_of o (entry_at s t.next).a ++ ks) ≡ ks)
      → Sound s (record { next = t.next + 1; stack = x ∷ drop j t.stack; steps = t.steps + 1 })
  answered o e x j k d =
      let g : gives_of (op_of (entry_at s t.next).op) ≡ kind_of x = rw e (sym k) in
      let r : known.rest ≡ map kind_of (drop j t.stack) = sym (map_drop j t.stack ∙ ap (drop j) (rw e at operands) ∙ d known.rest) in
      record {
        kinds = known.next ∙ ap (λ (y : Kind). some (y ∷ known.rest)) g ∙ ap (λ (ks : List Kind). some (kind_of x ∷ ks)) r;
        inside = omega arith;
        counted = omega (arith, sound.counted);
      }

  -- a skip keeps its operand
  kept : (k : Skip) → op_of (entry_at s t.next).op ≡ Op.Skip k → (b : Bool)
      → Sound s (record { next = t.next + cond b ((entry_at s t.next).a + 1) 1; stack = t.stack; steps = t.steps + 1 })
  kept k e true =
      let l = checked_skip s checked t.next more (ap skip_op e) in
      let i : t.next + (entry_at s t.next).a + 1 ≡ t.next + ((entry_at s t.next).a + 1) = omega arith in
      record { kinds = rw i at l.1 ∙ sound.kinds; inside = omega (arith, l.0); counted = omega (arith, sound.counted) }
  kept k e false =
      let o : map kind_of t.stack ≡ Kind.logic ∷ known.rest = rw e at operands in
      let n : shape_at (entries_of s) (t.next + 1) ≡ some (Kind.logic ∷ known.rest) = rw e at known.next in
      record { kinds = n ∙ ap some (sym o); inside = omega arith; counted = omega (arith, sound.counted) }

  by : (o : Op) → op_of (entry_at s t.next).op ≡ o
      → Sound s
      (record {
        next = t.next + stride_by o (entry_at s t.next) t.stack;
        stack = stack_by (edition_of s) (pool_of s) notice o (entry_at s t.next) t.stack;
        steps = t.steps + 1;
      })
  by (Op.Load l) e = answered (Op.Load l) e _ 0 (load_kind (pool_of s) notice l (entry_at s t.next).a (entry_at s t.next).b) (λ ks. refl)
  by (Op.Unary u) e = answered (Op.Unary u) e _ 1 (unary_kind u (slot_at t.stack 0)) (λ ks. refl)
  by (Op.Binary b) e = answered (Op.Binary b) e _ 2 (binary_kind (edition_of s) b (slot_at t.stack 1) (slot_at t.stack 0)) (λ ks. refl)
  by (Op.Many m) e = answered (Op.Many m) e _ (suc (entry_at s t.next).a) refl (λ ks. drop_values (suc (entry_at s t.next).a) ks)
  by (Op.Skip k) e = kept k e (skips k (truth_in (slot_at t.stack 0)))
  by Op.Unknown e = absurd (never_unknown e)

  pub visit_sound : Sound s (visit (edition_of s) (pool_of s) notice (entry_at s t.next) t)
  visit_sound = by (op_of (entry_at s t.next).op) refl

module _ (p : Program) (notice : List ℕ) where
  -- visits after visits, and one more
  pub more_visits : (j k : ℕ) (t : State) → after_from p notice (j + k) t ≡ after_from p notice k (after_from p notice j t)
  unfolding after_from
  more_visits zero k t = let e : 0 + k ≡ k = omega arith in rw e
  more_visits (suc j) k t = let e : suc j + k ≡ suc (j + k) = omega arith in rw e (more_visits j k (rule p notice t))

  pub after_next : (k : ℕ) → after p notice (k + 1) ≡ rule p notice (after p notice k)
  unfolding after_from
  after_next k = more_visits k 1 start

  -- at the end nothing changes
  pub stays : (k : ℕ) (t : State) → length p.entries ≤ t.next → after_from p notice k t ≡ t
  unfolding after_from
  stays zero t h = refl
  stays (suc k) t h = rw (le-ltb t.next (length p.entries) h) (stays k t h)

module _ (s notice : List ℕ) where
  -- the rule, before the end and at it
  pub rule_more : (t : State) → t.next < count_of s → rule (decode s) notice t ≡ visit (edition_of s) (pool_of s) notice (entry_at s t.next) t
  rule_more t h = rw (length_entries s, lt-ltb t.next (count_of s) h, entry_of s t.next h)

  pub rule_ended : (t : State) → count_of s ≤ t.next → rule (decode s) notice t ≡ t
  rule_ended t h = rw (length_entries s, le-ltb t.next (count_of s) h)

  after_ended : (k : ℕ) (t : State) → count_of s ≤ t.next → after_from (decode s) notice k t ≡ t
  after_ended k t h = stays (decode s) notice k t (omega (arith, length_entries s))

  -- where the run has ended, more visits change nothing
  pub after_past : (j k : ℕ) → j ≤ k → count_of s ≤ (after (decode s) notice j).next → after (decode s) notice k ≡ after (decode s) notice j
  after_past j k h e =
      let split : k ≡ j + (k - j) = omega arith in
      ap (after (decode s) notice) split ∙ more_visits (decode s) notice j (k - j) start ∙ after_ended (k - j) (after (decode s) notice j) e

  module _ (checked : check_of s ≡ true) where
    pub start_sound : Sound s start
    start_sound = record { kinds = (checked_ends s checked).0; inside = omega arith; counted = omega arith }

    rule_sound : (t : State) → Sound s t → Sound s (rule (decode s) notice t)
    rule_sound t sound = go (dec_lt t.next (count_of s))
      where
        go : Dec (t.next < count_of s) → Sound s (rule (decode s) notice t)
        go (yes h) = rw (rule_more t h) (visit_sound notice checked sound h)
        go (no h) = rw (rule_ended t (omega arith)) sound

    after_sound : (k : ℕ) (t : State) → Sound s t → Sound s (after_from (decode s) notice k t)
    unfolding after_from
    after_sound zero t sound = sound
    after_sound (suc k) t sound = after_sound k (rule (decode s) notice t) (rule_sound t sound)

    pub always : (k : ℕ) → Sound s (after (decode s) notice k)
    always k = after_sound k start start_sound

    further : (t : State) → t.next < count_of s → t.next < (rule (decode s) notice t).next
    further t h =
        let p = stride_some (op_of (entry_at s t.next).op) (entry_at s t.next) t.stack in
        rw (rule_more t h) (omega arith)

    -- with as many visits as there are entries left, the run ends
    pub ends : (k : ℕ) (t : State) → Sound s t → count_of s ≤ t.next + k → (after_from (decode s) notice k t).next ≡ count_of s
    unfolding after_from
    ends zero t sound h = omega (arith, sound.inside)
    ends (suc k) t sound h = go (dec_lt t.next (count_of s)) (ends k (rule (decode s) notice t) (rule_sound t sound))
      where
        go : Dec (t.next < count_of s)
            → (count_of s ≤ (rule (decode s) notice t).next + k → (after_from (decode s) notice k (rule (decode s) notice t)).next ≡ count_of s)
            → (after_from (decode s) notice k (rule (decode s) notice t)).next ≡ count_of s
        go (yes l) ih = let f = further t l in ih (omega arith)
        go (no l) ih =
            let e : count_of s ≤ t.next = omega arith in
            ap (λ (u : State). (after_from (decode s) notice k u).next) (rule_ended t e) ∙ ap (λ (u : State). u.next) (after_ended k t e) ∙ omega (arith, sound.inside)

    -- and more visits change nothing
    pub whole : (k l : ℕ) (t : State) → Sound s t → count_of s ≤ t.next + k → count_of s ≤ t.next + l → after_from (decode s) notice k t ≡ after_from (decode s) notice l t
    unfolding after_from
    whole zero l t sound h i = sym (after_ended l t (omega arith))
    whole (suc k) zero t sound h i = after_ended (suc k) t (omega arith)
    whole (suc k) (suc l) t sound h i = go (dec_lt t.next (count_of s)) (whole k l (rule (decode s) notice t) (rule_sound t sound))
      where
        go : Dec (t.next < count_of s)
            → (count_of s ≤ (rule (decode s) notice t).next + k → count_of s ≤ (rule (decode s) notice t).next + l → after_from (decode s) notice k (rule (decode s) notice t) ≡ after_from (decode s) notice l (rule (decode s) notice t))
            → after_from (decode s) notice k (rule (decode s) notice t) ≡ after_from (decode s) notice l (rule (decode s) notice t)
        go (yes p) ih = let f = further t p in ih (omega arith) (omega arith)
        go (no p) ih =
            let e : count_of s ≤ (rule (decode s) notice t).next = rw (rule_ended t (omega arith)) (omega arith) in
            after_ended k (rule (decode s) notice t) e ∙ sym (after_ended l (rule (decode s) notice t) e)

  pub shallow : (t : State) → Sound s t → length (map kind_of t.stack) ≤ 32
  shallow t sound = depth (entries_of s) t.next (map kind_of t.stack) sound.kinds
