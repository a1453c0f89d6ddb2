-- The stack along the entries of a table. Document 01, "Refusals by number": "8 | stack over 32", of the table's own stack, in the order of its entries.
use Rattle.std.specs.Prelude.{ℕ, ◌+◌, ◌-◌, max, List, [], ◌∷◌, length}
use Rattle.opcode.specs.Opcode.{op_of, takes_of}
use Rattle.table.specs.declared.Entry.{Entry}

-- an entry's operands off, its result on
abbrev pub slots_after : Entry → ℕ → ℕ
slots_after e n = n - length (takes_of (op_of e.op) e.a) + 1

-- the most slots that are held at once, with n of them before the first entry
unfoldable pub most_slots : List Entry → ℕ → ℕ
most_slots [] n = n
most_slots (e ∷ es) n = max n (most_slots es (slots_after e n))
