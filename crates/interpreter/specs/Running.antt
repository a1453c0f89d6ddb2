-- The guarded run. Document 01, "Refusals by number": "Running: 12 before 11."; "Running answers number, place, verdict (bottom if refused) and steps (0 if refused)." Document 02, request 7: "A refused run .. give[s] 65535."
use Rattle.std.specs.Prelude.{ℕ, false, List, Result, Ok, Err}
use Rattle.common.specs.Choice.{pick}
use Rattle.truth.specs.declared.Truth.{Truth}
use Rattle.truth.specs.declared.Truth.TheVariants.{Bottom}
use Rattle.refusal.specs.declared.Refusal.{Refusal}
use Rattle.refusal.specs.Refusal.{number_of as refusal_number, place_of as refusal_place}
use Rattle.notice.specs.Layout.{check_of as noticeCheck, number_of, place_of}
use Rattle.notice.specs.Layout.{Layout}
use Rattle.table.specs.Table.{Program, decode}
use Rattle.table.specs.Check.{check_of as tableCheck, refusal_of}
use Rattle.interpreter.specs.declared.Ran.{Ran}
use Rattle.interpreter.specs.Run.{run_of, verdict_of}
use Rattle.interpreter.specs.Undecided.{no_entry, undecided_of}

-- what running answers: "number, place, verdict (bottom if refused) and steps (0 if refused)", and the first undecided entry
pub record RunAnswer : Type 0 where
  pub number : ℕ
  pub place : ℕ
  pub verdict : Truth
  pub steps : ℕ
  pub undecided : ℕ

abbrev pub refused : ℕ → ℕ → RunAnswer
refused number place = record { number = number; place = place; verdict = Bottom; steps = 0; undecided = no_entry }

-- verdict and steps of the whole run, and its first undecided entry
abbrev pub answer_of : Program → List ℕ → RunAnswer
answer_of p notice = record { number = 0; place = 0; verdict = verdict_of (run_of p notice); steps = (run_of p notice).steps; undecided = undecided_of p notice }

-- a notice that fails its layout is refused by `number_of`'s 11, with its place
abbrev pub on_layout : Layout → (Unit {0} → RunAnswer) → RunAnswer
on_layout (Ok u) answer = answer tt
on_layout (Err r) answer = refused (number_of (Err r)) (place_of (Err r))

-- a table that fails its check is refused by `refusal_of`'s 12; then the notice is judged; then the whole run is answered
abbrev pub running_of : List ℕ → List ℕ → RunAnswer
running_of table notice =
    pick (tableCheck table) (λ _. on_layout (noticeCheck notice) (λ _. answer_of (decode table) notice)) (λ _. refused (refusal_of false) 0)

-- the answer that the code's result stands for
abbrev pub answered : Result Ran Refusal → RunAnswer
answered (Ok a) = record { number = 0; place = 0; verdict = a.verdict; steps = a.steps; undecided = a.undecided }
answered (Err r) = refused (refusal_number r) (refusal_place r)
