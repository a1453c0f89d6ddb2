-- One notice, the tables that a store holds: one call that runs each of them and writes 64 bytes, by number. Document 02, requests 8 and 12.
use Rattle.std.specs.Prelude.{ℕ, ◌≡◌, cond, List, map, eqb, leb, length, Result, Ok, Err}
use Rattle.std.proofs.Math.Option.{Option, none, some}
use Rattle.std.proofs.lemmas.List.Edits.{sets}
use Rattle.common.specs.Choice.{pick}
use Rattle.refusal.specs.declared.Refusal.{Refusal}
use Rattle.refusal.specs.Refusal.{number_of as refusal_number, place_of as refusal_place}
use Rattle.notice.specs.Layout.{Layout, check_of as noticeCheck, number_of, place_of}
use Rattle.interpreter.specs.Running.{running_of}
use Rattle.store.specs.Layout.{Place, places_in, places_of}
use Rattle.many.specs.Many.{verdict_byte}

-- the byte of a place: "0 false, 1 true, 2 bottom, 3 table refused", and 4 for a free one
abbrev pub place_byte : List ℕ → Place → ℕ
place_byte notice none = 4
place_byte notice (some t) = verdict_byte (running_of t notice)

-- one for each of the 64 places
abbrev pub held_verdicts : List ℕ → List ℕ → List ℕ
held_verdicts store notice = map (place_byte notice) (places_in store)

-- 26 for bytes that are no store, then 11, then 9 if the verdict buffer has under 64 bytes; 0 for none
abbrev pub refused_by : Option (List Place) → Layout → ℕ → ℕ
refused_by none layout room = 26
refused_by (some ps) (Err r) room = number_of (Err r)
refused_by (some ps) (Ok u) room = cond (leb 64 room) 0 9

abbrev pub match_refusal : List ℕ → List ℕ → ℕ → ℕ
match_refusal store notice room = refused_by (places_of store) (noticeCheck notice) room

-- 11 with its place
abbrev pub fault_place : Option (List Place) → Layout → ℕ
fault_place none layout = 0
fault_place (some ps) layout = place_of layout

-- the number of the refusal, 0 for none, and its place
pub record Matched : Type 0 where
  pub number : ℕ
  pub place : ℕ

abbrev pub answered : ℕ → ℕ → Matched
answered number place = record { number = number; place = place }

abbrev pub matched : Result (Unit {0}) Refusal → Matched
matched (Ok done) = answered 0 0
matched (Err r) = answered (refusal_number r) (refusal_place r)

abbrev pub match_of : List ℕ → List ℕ → ℕ → Matched
match_of store notice room = answered (match_refusal store notice room) (fault_place (places_of store) (noticeCheck notice))

-- the verdict buffer afterwards: bytes past the 64 stay; a refusal changes no byte
abbrev pub matched_bytes : List ℕ → List ℕ → List ℕ → List ℕ
matched_bytes store notice verdicts = pick (eqb (match_refusal store notice (length verdicts)) 0) (λ _. sets verdicts 0 (held_verdicts store notice)) (λ _. verdicts)

-- the promise of `match_store`: the answer, and every byte afterwards
pub record Matches (store notice verdicts after : List ℕ) (r : Matched) : Type 0 where
  pub answer : r ≡ match_of store notice (length verdicts)
  pub bytes : after ≡ matched_bytes store notice verdicts
