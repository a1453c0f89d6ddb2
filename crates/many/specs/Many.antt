-- One notice, many subscriptions. Document 02, request 8: "A single call shall take up to 64 tables laid end to end and one notice, and write per table one byte: 0 false, 1 true, 2 bottom, 3 table refused.
-- The result must be the same as calling one by one, and the number of verdict bytes is returned, 0 if refused."
use Rattle.std.specs.Prelude.{ℕ, zero, suc, ◌+◌, ◌≡◌, cond, ◌&&◌, List, [], ◌∷◌, map, eqb, leb, length, take, drop, Result, Ok, Err}
use Rattle.std.proofs.lemmas.List.Edits.{sets}
use Rattle.common.specs.Choice.{pick}
use Rattle.word.specs.Word.{word_at}
use Rattle.truth.specs.Truth.{number_of as verdictNumber}
use Rattle.refusal.specs.declared.Refusal.{Refusal}
use Rattle.refusal.specs.Refusal.{number_of as refusal_number, place_of as refusal_place}
use Rattle.notice.specs.Layout.{Layout, check_of as noticeCheck, number_of, place_of}
use Rattle.interpreter.specs.Running.{RunAnswer, running_of}

-- ---- the tables

-- "A table's extent is taken from its length word; if that passes the end, or 1 to 3 bytes are left, the remainder counts as one refused table."
abbrev pub extent_of : List ℕ → ℕ
extent_of s = cond (leb 4 (length s) && leb (4 + word_at 4 s 0) (length s)) (4 + word_at 4 s 0) (length s)

-- the stretches of at most n tables, one after the other
unfoldable pub stretches_from : ℕ → List ℕ → List (List ℕ)
stretches_from zero s = []
stretches_from (suc n) s = pick (eqb (length s) 0) (λ _. []) (λ _. take (extent_of s) s ∷ stretches_from n (drop (extent_of s) s))

-- each has at least one byte
abbrev pub stretches_of : List ℕ → List (List ℕ)
stretches_of s = stretches_from (length s) s

-- ---- the verdicts

-- "0 false, 1 true, 2 bottom, 3 table refused"
abbrev pub verdict_byte : RunAnswer → ℕ
verdict_byte r = cond (eqb r.number 0) (verdictNumber r.verdict) 3

-- "the same as calling one by one": the guarded run of each
abbrev pub verdicts_of : List ℕ → List ℕ → List ℕ
verdicts_of tables notice = map (λ t. verdict_byte (running_of t notice)) (stretches_of tables)

-- ---- what is answered

-- "Refusals: 11, then 24 for over 64 tables, then 9 if the verdict buffer is short."; 0 for none
abbrev pub refusal_of : Layout → ℕ → ℕ → ℕ
refusal_of (Err r) count room = number_of (Err r)
refusal_of (Ok u) count room = cond (leb count 64) (cond (leb count room) 0 9) 24

abbrev pub many_refusal : List ℕ → List ℕ → ℕ → ℕ
many_refusal tables notice room = refusal_of (noticeCheck notice) (length (stretches_of tables)) room

-- the number of the refusal, 0 for none, its place, and how many verdicts were written
pub record Delivered : Type 0 where
  pub number : ℕ
  pub place : ℕ
  pub count : ℕ

abbrev pub delivered : Result ℕ Refusal → Delivered
delivered (Ok count) = record { number = 0; place = 0; count = count }
delivered (Err r) = record { number = refusal_number r; place = refusal_place r; count = 0 }

-- "the number of verdict bytes is returned, 0 if refused"; 11 with its place
abbrev pub many_of : List ℕ → List ℕ → ℕ → Delivered
many_of tables notice room = record {
  number = many_refusal tables notice room;
  place = place_of (noticeCheck notice);
  count = cond (eqb (many_refusal tables notice room) 0) (length (stretches_of tables)) 0;
}

-- the verdict buffer afterwards: "Bytes past the last verdict stay."; a refusal changes no byte
abbrev pub many_bytes : List ℕ → List ℕ → List ℕ → List ℕ
many_bytes tables notice verdicts = pick (eqb (many_refusal tables notice (length verdicts)) 0) (λ _. sets verdicts 0 (verdicts_of tables notice)) (λ _. verdicts)

-- the promise of `run_many`: the answer, and every byte afterwards
pub record Delivers (tables notice verdicts after : List ℕ) (r : Delivered) : Type 0 where
  pub answer : r ≡ many_of tables notice (length verdicts)
  pub bytes : after ≡ many_bytes tables notice verdicts
