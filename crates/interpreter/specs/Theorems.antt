-- What holds of the run of every checked table, compiled or not, on every notice. The proofs are in proofs/Theorems.antt, under the same names.
use Rattle.std.specs.Prelude.{ℕ, suc, ◌≤◌, ◌<◌, ◌≡◌, ◌↔◌, true, false, List, [], ◌∷◌, ◌++◌, map, length}
use Rattle.std.proofs.Math.Option.{some}
use Rattle.opcode.specs.Opcode.{op_of, Kind, takes_of}
use Rattle.table.specs.Table.{count_of, entry_at, entries_of, decode}
use Rattle.table.specs.Check.{shape_at, check_of}
use Rattle.truth.specs.declared.Truth.TheVariants.{Bottom}
use Rattle.value.specs.Value.{logic, kind_of, is_bottom}
use Rattle.interpreter.specs.Run.{slot_at, after, run_of, verdict_of}
use Rattle.interpreter.specs.Undecided.{entry_after, leaves_bottom, no_entry, undecided_after, undecided_of}

-- After any number of visits the stack's kinds are those that the check found before the next entry, which is at most N.
abbrev pub StackKinds : Type 0
StackKinds =
    (s notice : List ℕ) → check_of s ≡ true → (k : ℕ)
    → ((after (decode s) notice k).next ≤ count_of s) × (shape_at (entries_of s) (after (decode s) notice k).next ≡ some (map kind_of (after (decode s) notice k).stack))

-- The stack never holds more than 32 values.
abbrev pub StackSmall : Type 0
StackSmall = (s notice : List ℕ) → check_of s ≡ true → (k : ℕ) → length (after (decode s) notice k).stack ≤ 32

-- An entry that is visited finds its operands on top of the stack, each of the kind that it takes: the run never meets a wrong kind.
abbrev pub OperandKinds : Type 0
OperandKinds =
    (s notice : List ℕ) → check_of s ≡ true → (k : ℕ) → (after (decode s) notice k).next < count_of s
    → (rest : List Kind)
    × (map kind_of (after (decode s) notice k).stack
    ≡ takes_of (op_of (entry_at s (after (decode s) notice k).next).op) (entry_at s (after (decode s) notice k).next).a ++ rest)

-- "At N it ends and the one slot is the verdict."
abbrev pub RunEnds : Type 0
RunEnds =
    (s notice : List ℕ) → check_of s ≡ true
    → ((run_of (decode s) notice).next ≡ count_of s) × ((run_of (decode s) notice).stack ≡ logic (verdict_of (run_of (decode s) notice)) ∷ [])

-- It visits at most N entries ..
abbrev pub RunSteps : Type 0
RunSteps = (s notice : List ℕ) → check_of s ≡ true → (run_of (decode s) notice).steps ≤ count_of s

-- .. and after N visits nothing is left to visit.
abbrev pub RunWhole : Type 0
RunWhole = (s notice : List ℕ) → check_of s ≡ true → (k : ℕ) → count_of s ≤ k → after (decode s) notice k ≡ run_of (decode s) notice

-- ---- document 02, request 7: "the number of the first visited entry that left bottom on the stack, counted from 0, or 65535 if none did"

-- Of n visits none left bottom on the stack exactly if 65535 is answered.
abbrev pub UndecidedNone : Type 0
UndecidedNone = (s notice : List ℕ) → check_of s ≡ true → (n : ℕ) → (undecided_after (decode s) notice n ≡ no_entry) ↔ ((k : ℕ) → k < n → leaves_bottom (decode s) notice k ≡ false)

-- Else it is the entry of the first that did: one of the table's, visited; it left bottom on the stack, on top, and no visit before it left any.
abbrev pub UndecidedFirst : Type 0
UndecidedFirst =
    (s notice : List ℕ) → check_of s ≡ true → (n : ℕ) → (undecided_after (decode s) notice n ≡ no_entry → ⊥)
    → (k : ℕ) × (k < n) × (undecided_after (decode s) notice n ≡ entry_after (decode s) notice k) × (entry_after (decode s) notice k < count_of s)
    × (is_bottom (slot_at (after (decode s) notice (suc k)).stack 0) ≡ true) × ((j : ℕ) → j < k → leaves_bottom (decode s) notice j ≡ false)

-- With verdict bottom there is one.
abbrev pub UndecidedBottom : Type 0
UndecidedBottom = (s notice : List ℕ) → check_of s ≡ true → verdict_of (run_of (decode s) notice) ≡ Bottom → undecided_of (decode s) notice ≡ no_entry → ⊥
