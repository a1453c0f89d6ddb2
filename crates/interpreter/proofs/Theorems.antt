-- The theorems on the run that specs/Theorems.antt states. Assumes nothing.
use mathlib.Core.Path.{◌≡◌, refl, sym, ap, ◌∙◌}
use mathlib.Core.Bool.{true}
use mathlib.Core.List.{List, [], ◌∷◌, map}
use Prim.Native.Nat.{ℕ}
use native.Mathlib.Omega.{arith}
use lib.ListN.{length, length-map}
use Rattle.common.proofs.Choice.{true_false}
use Rattle.truth.specs.declared.Truth.{Truth}
use Rattle.opcode.specs.Opcode.{Kind}
use Rattle.table.specs.Table.{count_of, entries_of, decode}
use Rattle.table.specs.Check.{shape_at, check_of}
use Rattle.table.proofs.Theorems.{checked_ends}
use Rattle.table.proofs.Reading.{length_entries}
use Rattle.value.specs.Value.{Item, logic, value, truth_in, kind_of}
use Rattle.interpreter.specs.Run.{start, slot_at, after, run_of}
use Rattle.interpreter.specs.Theorems.{StackKinds, StackSmall, OperandKinds, RunEnds, RunSteps, RunWhole, UndecidedNone, UndecidedFirst, UndecidedBottom}
use Rattle.interpreter.specs.Undecided.{holds_bottom}
use Rattle.interpreter.proofs.Safe.{some_same, known, operands, start_sound, always, ends, whole, shallow}
use Rattle.interpreter.proofs.Firsts.{none_each, each_none, first_is, clean, few_entries, first_inside, first_top}

pub stack_kinds : StackKinds
stack_kinds s notice c k = let a = always s notice c k in (a.inside, a.kinds)

pub stack_small : StackSmall
stack_small s notice c k =
    let st = (after (decode s) notice k).stack in
    rw (← length-map st kind_of) (shallow s notice (after (decode s) notice k) (always s notice c k))

pub operand_kinds_lem : OperandKinds
operand_kinds_lem s notice c k h = let a = always s notice c k in ((known notice c a h).rest, operands notice c a h)

-- the run's last state
run_next : (s notice : List ℕ) → check_of s ≡ true → (run_of (decode s) notice).next ≡ count_of s
run_next s notice c = ends s notice c (length (entries_of s)) start (start_sound s notice c) (omega (arith, length_entries s))

one_logic : (st : List Item) → map kind_of st ≡ Kind.logic ∷ [] → st ≡ logic (truth_in (slot_at st 0)) ∷ []
one_logic [] e = cc
one_logic (logic t ∷ []) e = refl
one_logic (logic t ∷ (y ∷ st)) e = cc
one_logic (value v ∷ st) e = cc

pub run_ends : RunEnds
run_ends s notice c =
    let n = run_next s notice c in
    let a = always s notice c (length (entries_of s)) in
    (n, one_logic (run_of (decode s) notice).stack (some_same (sym a.kinds ∙ ap (shape_at (entries_of s)) n ∙ (checked_ends s c).1)))

pub run_steps : RunSteps
run_steps s notice c = let a = always s notice c (length (entries_of s)) in omega arith

pub run_whole : RunWhole
run_whole s notice c k h =
    whole s notice c k (length (entries_of s)) start (start_sound s notice c) (omega arith) (omega (arith, length_entries s))

-- ---- document 02, request 7

pub undecided_none : UndecidedNone
undecided_none s notice c n = let few = few_entries s c in (none_each (decode s) notice few n, each_none (decode s) notice few n)

pub undecided_first : UndecidedFirst
undecided_first s notice c n f =
    let few = few_entries s c in
    let w = first_is (decode s) notice few n f in
    (w.0, w.1, w.2, first_inside s notice c w.0 w.3, first_top s notice c w.0 w.3 w.4, none_each (decode s) notice few w.0 w.4)

pub undecided_bottom : UndecidedBottom
undecided_bottom s notice c v e =
    let h : holds_bottom (run_of (decode s) notice).stack ≡ true = ap holds_bottom (run_ends s notice c).1 ∙ ap (λ (t : Truth). holds_bottom (logic t ∷ [])) v in
    true_false (sym h ∙ clean (decode s) notice (few_entries s c) (length (entries_of s)) e)
