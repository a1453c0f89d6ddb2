-- The guarded run's answers: the refusals, and the last machine's slot, steps and undecided entry. Assumes nothing.
use Rattle.std.specs.Prelude.{Ok, Err}
use mathlib.Core.Path.{◌≡◌, refl, sym, ap, ◌∙◌}
use mathlib.Core.Bool.{Bool, true, false}
use mathlib.Core.List.{List}
use Prim.Native.Nat.{ℕ}
use native.Mathlib.Omega.{arith}
use lib.ListN.{length, get_or}
use lib.Seq.{sets}
use Rattle.common.specs.Choice.{pick}
use Rattle.truth.specs.declared.Truth.{Truth}
use Rattle.refusal.specs.declared.Refusal.{Refusal}
use Rattle.refusal.specs.Refusal.{number_of as refusal_number, place_of as refusal_place}
use Rattle.refusal.proofs.Numbers.{refuses}
use Rattle.notice.specs.Layout.{Layout}
use Rattle.notice.specs.Layout.{check_of as noticeCheck, stood_of, Indexed}
use Rattle.notice.proofs.Stood.{stood_indexed}
use Rattle.table.specs.Table.{count_of, pool_of, decode}
use Rattle.table.specs.Check.{check_of as tableCheck, refusal_of}
use Rattle.table.proofs.Reading.{length_entries}
use Rattle.value.specs.Value.{truth_in}
use Rattle.value.specs.Held.{item_of}
use Rattle.interpreter.specs.declared.Machine.{Machine}
use Rattle.interpreter.specs.Run.{State, slot_at, after, run_of, verdict_of}
use Rattle.interpreter.specs.Undecided.{undecided_after, undecided_of}
use Rattle.interpreter.specs.Machine.{blank, stack_of, state_of, Visited}
use Rattle.interpreter.specs.Running.{RunAnswer, refused, answer_of, on_layout, running_of}
use Rattle.interpreter.proofs.Visits.{as_many}
use Rattle.interpreter.proofs.Theorems.{run_ends}

-- the array that an index of the notice leaves, where it was lent as a part that is the whole
pub indexed : {left : List ℕ} (notice part starts : List ℕ) → part ≡ notice → noticeCheck notice ≡ Ok tt → left ≡ sets starts 0 (stood_of part) → length starts ≡ 64
    → Indexed notice left
indexed notice part starts p well e long = rw (e, p) (stood_indexed notice well starts long)

module _ (table notice : List ℕ) where
  pub table_refused : tableCheck table ≡ false → refused (refusal_of false) 0 ≡ running_of table notice
  table_refused e = rw e

  pub notice_refused : (r : Refusal) → tableCheck table ≡ true → noticeCheck notice ≡ Err r → refused (refusal_number r) (refusal_place r) ≡ running_of table notice
  notice_refused r e f = rw (e, f)

  pub neither_refused : tableCheck table ≡ true → noticeCheck notice ≡ Ok tt → answer_of (decode table) notice ≡ running_of table notice
  neither_refused e f = rw (e, f)

  -- a run that is not refused has found the notice well-formed
  pub ran_well : (running_of table notice).number ≡ 0 → noticeCheck notice ≡ Ok tt
  ran_well = go (tableCheck table) (noticeCheck notice)
    where
      go : (b : Bool) (l : Layout) → (pick b (λ _. on_layout l (λ _. answer_of (decode table) notice)) (λ _. refused (refusal_of false) 0)).number ≡ 0 → l ≡ Ok tt
      go true (Ok u) z = refl
      go true (Err r) z = refuses r z
      go false l z = absurd (omega arith)

  -- .. and the table passes its check
  pub ran_checked : (running_of table notice).number ≡ 0 → tableCheck table ≡ true
  ran_checked = go (tableCheck table)
    where
      go : (b : Bool) → (pick b (λ _. on_layout (noticeCheck notice) (λ _. answer_of (decode table) notice)) (λ _. refused (refusal_of false) 0)).number ≡ 0 → b ≡ true
      go true z = refl
      go false z = absurd (omega arith)

  -- the last machine of the whole run
  module _ (m : Machine) (n : ℕ) (checked : tableCheck table ≡ true) (count : n ≡ count_of table) (ran : Visited table notice n m) where
    all : n ≡ length (decode table).entries
    all = count ∙ sym (length_entries table)

    last : state_of (pool_of table) notice m ≡ run_of (decode table) notice
    last = ran.state ∙ ap (after (decode table) notice) all

    one : m.depth ≡ 1
    one = as_many table notice (length (decode table).entries) m last ∙ ap length (run_ends table notice checked).1

    verdict_is : truth_in (item_of (pool_of table) notice (get_or m.stack 0 blank).held) ≡ verdict_of (run_of (decode table) notice)
    verdict_is =
        sym (ap (λ (d : ℕ). truth_in (slot_at (stack_of (item_of (pool_of table) notice) m.stack d) 0)) one)
        ∙ ap verdict_of last

    pub answer_is : (v : Truth) → v ≡ truth_in (item_of (pool_of table) notice (get_or m.stack 0 blank).held)
        → ◌≡◌ {A = RunAnswer} (record { number = 0; place = 0; verdict = v; steps = m.steps; undecided = m.undecided }) (answer_of (decode table) notice)
    answer_is v e =
        let p : v ≡ verdict_of (run_of (decode table) notice) = e ∙ verdict_is in
        let q : m.steps ≡ (run_of (decode table) notice).steps = ap (λ (s : State). s.steps) last in
        let r : m.undecided ≡ undecided_of (decode table) notice = ran.undecided ∙ ap (undecided_after (decode table) notice) all in
        rw (p, q, r)
