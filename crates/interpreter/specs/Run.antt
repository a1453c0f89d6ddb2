-- The run of a table on a notice. Document 01, "Table": "The run starts at entry 0 with an empty stack. An entry reached is visited: one step. Ops 1..4 push their value, 5 the field's or
-- bottom. 44 on a false top and 45 on a true one go a + 1 entries on, all else one. The other ops replace their operands, the first deepest, by their result, as in Meaning and above. At N it ends
-- and the one slot is the verdict." Defined for all programs and notices: a slot that is not there counts as bottom.
use Rattle.std.specs.Prelude.{ℕ, zero, suc, ◌+◌, Bool, cond, List, [], ◌∷◌, reverse, ltb, length, take, drop, get_or}
use Rattle.common.specs.Choice.{pick}
use Rattle.truth.specs.declared.Truth.{Truth}
use Rattle.truth.specs.declared.Truth.TheVariants.{Bottom}
use Rattle.truth.specs.Truth.{is_true, is_false}
use Rattle.opcode.specs.Opcode.{op_of}
use Rattle.opcode.specs.declared.Edition.{Edition}
use Rattle.opcode.specs.declared.Skip.{Skip}
use Rattle.opcode.specs.declared.Op.{Op}
use Rattle.table.specs.Table.{blank, Program}
use Rattle.table.specs.declared.Entry.{Entry}
use Rattle.value.specs.Value.{Item, logic, truth_in, unary_of, binary_of, many_items, load_of}

-- the next entry, the stack with the topmost slot first, and the entries visited so far
pub record State : Type 0 where
  pub next : ℕ
  pub stack : List Item
  pub steps : ℕ

abbrev pub start : State
start = record { next = 0; stack = []; steps = 0 }

-- the slot i below the topmost
abbrev pub slot_at : List Item → ℕ → Item
slot_at st i = get_or st i (logic Bottom)

-- the stack after an entry of a table of an edition: a skip keeps its operand
abbrev pub stack_by : Edition → List ℕ → List ℕ → Op → Entry → List Item → List Item
stack_by edition pool notice (Op.Load l) e st = load_of pool notice l e.a e.b ∷ st
stack_by edition pool notice (Op.Unary u) e st = unary_of u (slot_at st 0) ∷ drop 1 st
stack_by edition pool notice (Op.Binary b) e st = binary_of edition b (slot_at st 1) (slot_at st 0) ∷ drop 2 st
stack_by edition pool notice (Op.Many m) e st = many_items m (slot_at st e.a) (reverse (take e.a st)) ∷ drop (suc e.a) st
stack_by edition pool notice (Op.Skip s) e st = st
stack_by edition pool notice Op.Unknown e st = st

-- "44 on a false top and 45 on a true one"
abbrev pub skips : Skip → Truth → Bool
skips Skip.IfFalse t = is_false t
skips Skip.IfTrue t = is_true t

-- how many entries on
abbrev pub stride_by : Op → Entry → List Item → ℕ
stride_by (Op.Load l) e st = 1
stride_by (Op.Unary u) e st = 1
stride_by (Op.Binary b) e st = 1
stride_by (Op.Many m) e st = 1
stride_by (Op.Skip s) e st = cond (skips s (truth_in (slot_at st 0))) (e.a + 1) 1
stride_by Op.Unknown e st = 1

-- the visit of an entry
abbrev pub visit : Edition → List ℕ → List ℕ → Entry → State → State
visit edition pool notice e s =
    record {
      next = s.next + stride_by (op_of e.op) e s.stack;
      stack = stack_by edition pool notice (op_of e.op) e s.stack;
      steps = s.steps + 1;
    }

-- one step of the run; "At N it ends"
abbrev pub rule : Program → List ℕ → State → State
rule p notice s =
    pick (ltb s.next (length p.entries)) (λ _. visit p.edition p.pool notice (get_or p.entries s.next blank) s) (λ _. s)

-- k visits from a state, or as many as there are
unfoldable pub after_from : Program → List ℕ → ℕ → State → State
after_from p notice zero s = s
after_from p notice (suc k) s = after_from p notice k (rule p notice s)

abbrev pub after : Program → List ℕ → ℕ → State
after p notice k = after_from p notice k start

-- the whole run: each visit goes on by at least one entry
abbrev pub run_of : Program → List ℕ → State
run_of p notice = after p notice (length p.entries)

-- "the one slot is the verdict"
abbrev pub verdict_of : State → Truth
verdict_of s = truth_in (slot_at s.stack 0)
