-- What holds of many tables. The proofs are in proofs/Theorems.antt, under the same names.
use Rattle.std.specs.Prelude.{ℕ, ◌≤◌, ◌<◌, ◌≡◌, List, [], ◌∷◌, ◌++◌, length, get_or, drop}
use Rattle.interpreter.specs.Running.{RunAnswer, running_of}
use Rattle.store.specs.Calls.{Part, part_of, fetched_of}
use Rattle.many.specs.Many.{Delivered, stretches_of, verdict_byte, Delivers}
use Rattle.many.specs.Held.{Matched, Matches}

-- "tables laid end to end": the stretches, one after the other, are the bytes.
abbrev pub joined : List (List ℕ) → List ℕ
joined [] = []
joined (t ∷ ts) = t ++ joined ts

abbrev pub EndToEnd : Type 0
EndToEnd = (tables : List ℕ) → joined (stretches_of tables) ≡ tables

-- "The result must be the same as calling one by one": where `run_many` is not refused, byte i is what `run` answers for stretch i, by the promises of both; and the count is that of the stretches.
abbrev pub OneByOne : Type 0
OneByOne =
    (tables notice verdicts after : List ℕ) (r : Delivered) → Delivers tables notice verdicts after r → r.number ≡ 0 →
    (r.count ≡ length (stretches_of tables)) × (r.count ≤ 64)
    × ((i : ℕ) (ran : RunAnswer) → i < r.count → ran ≡ running_of (get_or (stretches_of tables) i []) notice → get_or after i 0 ≡ verdict_byte ran)

-- "Bytes past the last verdict stay."
abbrev pub PastStays : Type 0
PastStays = (tables notice verdicts after : List ℕ) (r : Delivered) → Delivers tables notice verdicts after r → drop r.count after ≡ drop r.count verdicts

-- ---- the tables that a store holds

-- One call is the same as fetching and running one by one: where `match_store` is not refused, byte n is 4 if `find` refuses the number n,
-- and else what `run` answers for the table that `fetch` answers, by the promises of all four.
abbrev pub StoreOneByOne : Type 0
StoreOneByOne =
    (store notice verdicts after : List ℕ) (r : Matched) → Matches store notice verdicts after r → r.number ≡ 0 →
    (n : ℕ) (p : Part) → n < 64 → p ≡ part_of store n →
    ((p.refusal ≡ 0 → ⊥) → get_or after n 0 ≡ 4)
    × (p.refusal ≡ 0 → (table : List ℕ) (ran : RunAnswer) → table ≡ fetched_of store n → ran ≡ running_of table notice → get_or after n 0 ≡ verdict_byte ran)

-- Bytes past the 64 stay.
abbrev pub StorePastStays : Type 0
StorePastStays = (store notice verdicts after : List ℕ) (r : Matched) → Matches store notice verdicts after r → drop 64 after ≡ drop 64 verdicts
