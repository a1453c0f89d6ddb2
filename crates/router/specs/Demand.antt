-- Demand 3 of the customer's letter, in one piece:
--
-- Take either edition (document 02, request 9: "demands 2 and 3 read that edition") and any accepted text, one to which no refusal of translation applies but perhaps that for a short buffer; any lent buffer with room for its table; and any well-formed notice. The table that
-- translation in that edition writes, of the length that it answers, passes the table check. Running it on that notice is not refused. The verdict answered equals the meaning of the text in that edition on that notice when every
-- part of the expression is worked out and nothing is skipped. The verdict and the steps answered are exactly those of document 01's run of that table on that notice. Neither that run nor the
-- runner ever holds more than 32 values on its stack.
--
-- `DemandThree` says it of the answers of `translate`, `check`, `run` and `run_checked`, by their promises; `Matches` is the promise of `match_text`, which calls all four and carries it as well. The proofs are in proofs/Demand.antt.
use Rattle.std.specs.Prelude.{ℕ, ◌≤◌, ◌≡◌, Bool, true, false, List, ◌↔◌, eqb, length, take, Ok, Err}
use Rattle.std.proofs.Math.Option.{some}
use Rattle.std.proofs.lemmas.List.Edits.{sets}
use Rattle.common.specs.Choice.{pick}
use Rattle.word.specs.Word.{Bytes}
use Rattle.truth.specs.declared.Truth.{Truth}
use Rattle.truth.specs.declared.Truth.TheVariants.{Bottom}
use Rattle.notice.specs.Layout.{check_of as noticeCheck, number_of, place_of}
use Rattle.notice.specs.Layout.{Layout}
use Rattle.notice.specs.Field.{Field}
use Rattle.notice.specs.Write.{written_of, written_bytes}
use Rattle.opcode.specs.declared.Edition.{Edition}
use Rattle.grammar.specs.Tree.{Tree}
use Rattle.table.specs.Table.{encode, decode}
use Rattle.table.specs.Check.{check_of as tableCheck, refusal_of}
use Rattle.interpreter.specs.Run.{after, run_of, verdict_of}
use Rattle.interpreter.specs.Undecided.{no_entry}
use Rattle.interpreter.specs.Machine.{fresh, Visited}
use Rattle.interpreter.specs.Running.{RunAnswer, running_of}
use Rattle.interpreter.specs.declared.Machine.{Machine}
use Rattle.meaning.specs.Meaning.{text_meaning}
use Rattle.translator.specs.Compile.{compile}
use Rattle.translator.specs.Translation.{Outcome, refusal, edition_number, translation_of, Answers}
use Rattle.translator.specs.Theorems.{Accepted}
use Rattle.translator.specs.Translation.{Translated}
use Rattle.router.specs.declared.matching.Matched.{Matched}

-- What the demand asks of a table, of the number, verdict and steps answered for it on a notice, and of the runner's machine after so many visits.
pub record Met (edition : Edition) (text notice table : List ℕ) (number : ℕ) (verdict : Truth) (steps visits : ℕ) (machine : Machine) : Type 0 where
  -- "The table .. passes the table check."
  pub passes : tableCheck table ≡ true
  -- "Running it on that notice is not refused."
  pub answered : number ≡ 0
  -- "The verdict answered equals the one that the meaning gives for the text on that notice when every part of the expression is worked out and nothing is skipped."
  pub means : text_meaning edition text notice ≡ some verdict
  -- "The verdict and the steps answered are also exactly those of document 01's run of that table on that notice, with its skips", which ends at N
  pub verdict_run : verdict ≡ verdict_of (run_of (decode table) notice)
  pub steps_run : steps ≡ (run_of (decode table) notice).steps
  pub ends : (run_of (decode table) notice).next ≡ length (decode table).entries
  -- "Neither that run .. ever holds more than 32 values on its stack", after any number of visits ..
  pub run_small : (visits : ℕ) → length (after (decode table) notice visits).stack ≤ 32
  -- .. "nor the runner", which holds just as many after as many visits
  pub runner_holds : machine.depth ≡ length (after (decode table) notice visits).stack
  pub runner_small : machine.depth ≤ 32

-- The calls of the code for an edition, a text, a buffer, a notice and a number of visits: what each answers, and its promise.
pub record Calls (edition : Edition) (text buffer notice : List ℕ) (visits : ℕ) : Type 0 where
  -- `translate(edition, text, buffer)`, and the buffer after it
  pub translated : Translated
  pub written : List ℕ
  pub translates : Answers (translation_of (edition_number edition) text (length buffer)) buffer written translated
  -- `check(table)`, of "the table that translation writes, of the length that it answers"
  pub passed : Bool
  pub checks : passed ≡ tableCheck (take translated.length written)
  -- `run(table, notice)`
  pub ran : RunAnswer
  pub runs : ran ≡ running_of (take translated.length written) notice
  -- `run_checked(table, notice, visits)`, by which `run` makes its visits: the runner's machine after that many; it asks for a table that passes the check and a notice found well-formed
  pub machine : Machine
  pub runner : tableCheck (take translated.length written) ≡ true → noticeCheck notice ≡ Ok tt → Visited (take translated.length written) notice visits machine

-- Demand 3, for every number of visits: a run has at most 512, and a larger number makes as many as there are, so that a `usize` names them all.
abbrev pub DemandThree : Type 0
DemandThree =
    (edition : Edition) (text buffer notice : List ℕ) (visits : ℕ) (tree : Tree) (c : Calls edition text buffer notice visits)
    → Bytes text → Accepted text tree → length (encode (compile edition tree)) ≤ length buffer → noticeCheck notice ≡ Ok tt
    → (c.translated.number ≡ 0) × (c.passed ≡ true)
    × Met edition text notice (take c.translated.length c.written) c.ran.number c.ran.verdict c.ran.steps visits c.machine

-- "one to which no refusal of translation applies but perhaps that for a short buffer": those texts, and no others, to which with some buffer none applies
abbrev pub AcceptedText : Type 0
AcceptedText = (edition : Edition) (text : List ℕ) → ((tree : Tree) × Accepted text tree) ↔ ((room : ℕ) × ((translation_of (edition_number edition) text room).number ≡ 0))

-- Demand 1: "A refusal changes no byte that we lent." Of document 01's functions translation and writing are the two that are lent bytes to change; for the quorum counter see `RefusedStays` and `RefusedMakesNone` of crate quorum, for the store `AddRefused` and `RemoveRefused` of crate store.
abbrev pub RefusalKeeps : Type 0
RefusalKeeps =
    ((edition : ℕ) (text buffer written : List ℕ) (r : Translated) → Answers (translation_of edition text (length buffer)) buffer written r → (r.number ≡ 0 → ⊥) → written ≡ buffer)
    × ((buffer : List ℕ) (len : ℕ) (f : Field) → ((written_of buffer len f).number ≡ 0 → ⊥) → written_bytes buffer len f ≡ buffer)

-- ---- one function that translates, checks and runs

-- the refusal of the notice, or translation's answer
abbrev pub outcome_by : Layout → Outcome → Outcome
outcome_by (Ok u) o = o
outcome_by (Err r) o = refusal (number_of (Err r)) (place_of (Err r))

abbrev pub outcome_of : ℕ → List ℕ → ℕ → List ℕ → Outcome
outcome_of edition text room notice = outcome_by (noticeCheck notice) (translation_of edition text room)

-- a refusal: no table, bottom, no steps, and a machine that has made no visit
abbrev pub refused : ℕ → ℕ → Matched
refused number place = record { number = number; place = place; length = 0; verdict = Bottom; steps = 0; undecided = no_entry; machine = fresh }

-- the table's length with what its run answers, and the runner's machine
abbrev pub ran_of : List ℕ → List ℕ → Machine → Matched
ran_of table notice m =
    let r = running_of table notice in
    record { number = r.number; place = r.place; length = length table; verdict = r.verdict; steps = r.steps; undecided = r.undecided; machine = m }

-- .. where the table passes the check, and the check's refusal where it does not
abbrev pub checked_of : Bool → List ℕ → List ℕ → Machine → Matched
checked_of true table notice m = ran_of table notice m
checked_of false table notice m = refused (refusal_of false) 0

-- .. where translation answers a table, and translation's refusal where it does not
abbrev pub match_by : Outcome → List ℕ → Machine → Matched
match_by o notice m = pick (eqb o.number 0) (λ _. ran_of o.table notice m) (λ _. refused o.number o.place)

-- What is answered of any table: the check's refusal, or what the run on the notice answers, with the runner's machine after so many visits.
pub record RunsChecked (table notice : List ℕ) (visits : ℕ) (r : Matched) : Type 0 where
  pub answer : r ≡ checked_of (tableCheck table) table notice r.machine
  pub runner : tableCheck table ≡ true → Visited table notice visits r.machine

-- What is answered and left in the buffer: the refusal and no byte changed, or the table and what its run on the notice answers, with the runner's machine after so many visits.
pub record RunsTable (o : Outcome) (buffer notice written : List ℕ) (visits : ℕ) (r : Matched) : Type 0 where
  pub answer : r ≡ match_by o notice r.machine
  pub bytes : written ≡ sets buffer 0 o.table
  pub runner : o.number ≡ 0 → Visited o.table notice visits r.machine

-- The promise of `match_text`, for the number of an edition: its answer and every byte of the buffer for all inputs, and demand 3.
pub record Matches (number : ℕ) (text buffer notice written : List ℕ) (visits : ℕ) (r : Matched) : Type 0 where
  pub determined : RunsTable (outcome_of number text (length buffer) notice) buffer notice written visits r
  pub demand : (edition : Edition) (tree : Tree) → number ≡ edition_number edition → Accepted text tree → length (encode (compile edition tree)) ≤ length buffer → noticeCheck notice ≡ Ok tt
      → Met edition text notice (take r.length written) r.number r.verdict r.steps visits r.machine
