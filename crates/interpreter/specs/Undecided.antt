-- Why a run was undecided. Document 02, request 7: "The answer of a run is to carry the number of the first visited entry that left bottom on the stack, counted from 0, or 65535 if none did."
-- Said over document 01's run, which stays as it is.
use Rattle.std.specs.Prelude.{ℕ, zero, suc, Bool, false, cond, ◌&&◌, ◌||◌, List, [], ◌∷◌, ltb, length}
use Rattle.table.specs.Table.{Program}
use Rattle.value.specs.Value.{Item, is_bottom}
use Rattle.interpreter.specs.Run.{after}

-- whether bottom stands on a stack
abbrev pub holds_bottom : List Item → Bool
holds_bottom [] = false
holds_bottom (x ∷ st) = is_bottom x || holds_bottom st

-- the entry that is visited after k visits, and whether there is one
abbrev pub entry_after : Program → List ℕ → ℕ → ℕ
entry_after p notice k = (after p notice k).next

abbrev pub visits : Program → List ℕ → ℕ → Bool
visits p notice k = ltb (entry_after p notice k) (length p.entries)

-- whether it is visited and leaves bottom on the stack
abbrev pub leaves_bottom : Program → List ℕ → ℕ → Bool
leaves_bottom p notice k = visits p notice k && holds_bottom (after p notice (suc k)).stack

-- no entry: "or 65535 if none did"
abbrev pub no_entry : ℕ
no_entry = 65535

-- the first of n visits, from the one after k visits on, that leaves bottom on the stack: its entry's number
unfoldable pub first_from : ℕ → ℕ → Program → List ℕ → ℕ
first_from zero k p notice = no_entry
first_from (suc n) k p notice = cond (leaves_bottom p notice k) (entry_after p notice k) (first_from n (suc k) p notice)

-- of the first n visits
abbrev pub undecided_after : Program → List ℕ → ℕ → ℕ
undecided_after p notice n = first_from n 0 p notice

-- of the whole run
abbrev pub undecided_of : Program → List ℕ → ℕ
undecided_of p notice = undecided_after p notice (length p.entries)
