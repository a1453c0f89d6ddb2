-- What the machine of the code stands for. Document 01, "Table": "After each visit the runner's own next entry and whole stack are those of this rule, slot by slot, a string by its bytes,
-- folded where marked."
use Rattle.std.specs.Prelude.{ℕ, zero, suc, ◌+◌, ◌-◌, ◌≤◌, cond, leb, ◌≡◌, List, [], ◌∷◌, get_or, replicate}
use Rattle.truth.specs.declared.Truth.TheVariants.{False}
use Rattle.table.specs.Table.{pool_of, decode}
use Rattle.value.specs.Value.{Item}
use Rattle.value.specs.Held.{item_of}
use Rattle.value.specs.declared.Held.{Held}
use Rattle.value.specs.declared.Slot.{Slot}
use Rattle.interpreter.specs.declared.Machine.{Machine}
use Rattle.interpreter.specs.Run.{State, after}
use Rattle.interpreter.specs.Undecided.{no_entry, undecided_after}

-- what an unused slot holds
abbrev pub blank : Slot
blank = record { held = Held.Logic False }

-- the first d slots of the array, the last of them first, as items
abbrev pub stack_of : (Held → Item) → List Slot → ℕ → List Item
stack_of f slots zero = []
stack_of f slots (suc d) = f (get_or slots d blank).held ∷ stack_of f slots d

-- the machine's next entry, its whole stack and its steps, over the pool and the notice that its strings stand in
abbrev pub state_of : List ℕ → List ℕ → Machine → State
state_of pool notice m = record { next = m.next; stack = stack_of (item_of pool notice) m.stack m.depth; steps = m.steps }

-- "The run starts at entry 0 with an empty stack."
abbrev pub fresh : Machine
fresh = record { stack = replicate 32 blank; depth = 0; next = 0; steps = 0; undecided = no_entry }

-- How far a run of so many visits goes where skips have passed over some entries: to entry N, or to as many entries as it visits and those.
abbrev pub limit_of : ℕ → ℕ → ℕ → ℕ
limit_of n budget passed = cond (leb (n - passed) budget) n (budget + passed)

-- A machine after so many visits, or after as many as there are: its next entry, whole stack and steps are those of the rule, its first undecided entry is that of these visits, and its slots are slots of the array.
-- What the slots above the depth hold, and which of the stretches of pool and notice that give a string's bytes its slot names, is no part of the state.
pub record Visited (table notice : List ℕ) (visits : ℕ) (m : Machine) : Type 0 where
  pub state : state_of (pool_of table) notice m ≡ after (decode table) notice visits
  pub undecided : m.undecided ≡ undecided_after (decode table) notice visits
  pub inside : m.depth ≤ 32

-- "After each visit the runner's own next entry and whole stack are those of this rule": a machine is the rule's after as many visits as it has counted.
abbrev pub Follows : List ℕ → List ℕ → Machine → Type 0
Follows table notice m = Visited table notice m.steps m
