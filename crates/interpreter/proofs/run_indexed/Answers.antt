-- `interpreter::run_indexed` meets its contract. The loop's invariant, `Placed`, is document 01's sentence, `Follows`, of the machine of the loop's variables, whose entries it has by their places in the table (`Going` has them by
-- number): at each turn, so after each visit, the entry that starts at `next` and the whole stack are those of the rule after as many visits as there are entries below the next that were not passed over, and the entry that ends at
-- `first`, none if it is 0, is the first undecided one of these visits (document 02, request 7). At the limit, this is the promise.
-- The inner loop's invariant, `Tallied`: what is known with the later operands below j, and with those that are left, is the whole. Assumes nothing.
use Prim.Native.Nat.{ℕ, ◌+◌, ◌*◌, ◌<◌}
use mathlib.Core.Path.{◌≡◌, refl, sym, ap, ◌∙◌}
use mathlib.Core.List.{List}
use native.Mathlib.Omega.{arith}
use Rattle.opcode.specs.Opcode.{op_of}
use Rattle.opcode.specs.Groups.{group_of, test_in, many_in}
use Rattle.opcode.specs.declared.Edition.{Edition}
use Rattle.opcode.specs.declared.Connective.{Connective}
use Rattle.opcode.specs.declared.Many.{Many}
use Rattle.opcode.specs.declared.Skip.{Skip}
use Rattle.opcode.specs.declared.Op.{Op}
use Rattle.opcode.specs.declared.groups.Group.{Group}
use Rattle.opcode.proofs.Grouped.{op_by, grouped}
use Rattle.table.specs.Table.{entry_at}
use Rattle.table.proofs.Theorems.{checked_layout}
use Rattle.table.proofs.Laid.{laid}
use Rattle.value.proofs.FieldValues.{found_right}
use Rattle.value.proofs.Theorems.{known_not, known_test, known_connect}
use Rattle.interpreter.specs.Run.{skips}
use Rattle.interpreter.specs.Machine.{limit_of}
use Rattle.value.specs.declared.Slot.{Slot}
use Rattle.interpreter.proofs.Visits.{Visiting, below, name_fits_lem, name_found, name_missing, load_fits, load_known, unary_fits_lem, unary_law, unary_known_lem, binary_fits_lem, binary_law, binary_known_lem, combine_law, many_fits_lem, many_law, skip_fits, skip_room, skip_taken, skip_kept, no_unknown, tally_start, tally_more}
use Rattle.interpreter.proofs.Places.{Placed, placed, behind, more_at, early_at, inside_at, noting, onward, skipping, counted, answer}
use borrow.Author.Rules.{rules}
use Rattle.interpreter.proofs.run_indexed.Goals as goal

-- the visit of a turn, once the operator's number and group are read
visit : {s pool notice : List ℕ} {n budget : ℕ} {stack : List Slot} {next depth passed end first number : ℕ} (p : Placed s pool notice n budget stack next depth passed end first) → next < end
    → ((i : ℕ) → next ≡ 10 + 12 * i → number ≡ (entry_at s i).op) → {told g : Group} → told ≡ group_of (op_of number) → told ≡ g
    → Visiting s pool notice n budget stack p.entry depth passed (limit_of n budget passed) p.undecided (op_by g (op_of number))
visit {number = number} p h r t e =
    let o = op_of number in
    record {
      going = p.going;
      more = (more_at p h).0;
      spare = (more_at p h).1;
      op = ap op_of (sym (r _ p.starts)) ∙ grouped o ∙ ap (λ (g : Group). op_by g o) (sym t ∙ e);
    }

-- .. of an operator of many operands, once it is read too
visit_many : {s pool notice : List ℕ} {n budget : ℕ} {stack : List Slot} {next depth passed end first number : ℕ} (p : Placed s pool notice n budget stack next depth passed end first) → next < end
    → ((i : ℕ) → next ≡ 10 + 12 * i → number ≡ (entry_at s i).op) → {told : Group} → told ≡ group_of (op_of number) → told ≡ Group.Many → {k : Many} → k ≡ many_in (op_of number)
    → Visiting s pool notice n budget stack p.entry depth passed (limit_of n budget passed) p.undecided (Op.Many k)
visit_many p h r t e m = rw m (visit p h r t e)

pub count-n-requires : goal.count-n-requires
count-n-requires c = (laid c.args.table.now (checked_layout _ c.requires.0)).head

pub edition-edition-requires : goal.edition-edition-requires
edition-edition-requires c = (laid c.args.table.now (checked_layout _ c.requires.0)).head

pub pool-pool-requires : goal.pool-pool-requires
pool-pool-requires c = let l = laid c.args.table.now (checked_layout _ c.requires.0) in (l.head, omega (arith, l.whole))

pub limit-end-requires : goal.limit-end-requires
limit-end-requires c = omega (arith, (laid c.args.table.now (checked_layout _ c.requires.0)).few, c.count-n.ensures)

pub loop-next-init : goal.loop-next-init
loop-next-init c = placed _ _ _ c.requires.0 c.count-n.ensures.0 c.pool-pool.ensures c.limit-end.ensures

pub op_from-number-requires : goal.op_from-number-requires
op_from-number-requires c = inside_at c.loop-next.invariant c.loop-next-test.true

pub overflow_add-next : goal.overflow_add-next
overflow_add-next c = omega (arith, early_at c.loop-next.invariant c.loop-next-test.true)

pub group_of-group-requires : goal.group_of-group-requires
group_of-group-requires c = tt

pub b_to-requires : goal.b_to-requires
b_to-requires c = (omega arith, inside_at c.loop-next.invariant c.loop-next-test.true)

pub load_int32-requires : goal.load_int32-requires
load_int32-requires c = tt

pub offset_bounds-stack-depth : goal.offset_bounds-stack-depth
offset_bounds-stack-depth c = omega (arith, load_fits (visit c.loop-next.invariant c.loop-next-test.true c.op_from-number.ensures c.group_of-group.ensures c.in-Int32.is))

pub bounds-stack-depth : goal.bounds-stack-depth
bounds-stack-depth c = omega (arith, load_fits (visit c.loop-next.invariant c.loop-next-test.true c.op_from-number.ensures c.group_of-group.ensures c.in-Int32.is))

pub overflow_add-depth : goal.overflow_add-depth
overflow_add-depth c = omega (arith, load_fits (visit c.loop-next.invariant c.loop-next-test.true c.op_from-number.ensures c.group_of-group.ensures c.in-Int32.is))

pub loop-next-smaller-in-Int32 : goal.loop-next-smaller-in-Int32
loop-next-smaller-in-Int32 c = omega (arith, early_at c.loop-next.invariant c.loop-next-test.true)

pub loop-next-preserved-in-Int32 : goal.loop-next-preserved-in-Int32
loop-next-preserved-in-Int32 c =
    onward c.loop-next.invariant (load_known (visit c.loop-next.invariant c.loop-next-test.true c.op_from-number.ensures c.group_of-group.ensures c.in-Int32.is) c.load_int32.result refl (c.b_to.ensures _ (behind c.loop-next.invariant)) (c.load_int32.ensures _ _ 0) refl)

pub b_to-requires-in-Int64 : goal.b_to-requires-in-Int64
b_to-requires-in-Int64 c = (omega arith, inside_at c.loop-next.invariant c.loop-next-test.true)

pub load_int64-requires : goal.load_int64-requires
load_int64-requires c = tt

pub offset_bounds-stack-depth-in-Int64 : goal.offset_bounds-stack-depth-in-Int64
offset_bounds-stack-depth-in-Int64 c = omega (arith, load_fits (visit c.loop-next.invariant c.loop-next-test.true c.op_from-number.ensures c.group_of-group.ensures c.in-Int64.is))

pub bounds-stack-depth-in-Int64 : goal.bounds-stack-depth-in-Int64
bounds-stack-depth-in-Int64 c = omega (arith, load_fits (visit c.loop-next.invariant c.loop-next-test.true c.op_from-number.ensures c.group_of-group.ensures c.in-Int64.is))

pub overflow_add-depth-in-Int64 : goal.overflow_add-depth-in-Int64
overflow_add-depth-in-Int64 c = omega (arith, load_fits (visit c.loop-next.invariant c.loop-next-test.true c.op_from-number.ensures c.group_of-group.ensures c.in-Int64.is))

pub loop-next-smaller-in-Int64 : goal.loop-next-smaller-in-Int64
loop-next-smaller-in-Int64 c = omega (arith, early_at c.loop-next.invariant c.loop-next-test.true)

pub loop-next-preserved-in-Int64 : goal.loop-next-preserved-in-Int64
loop-next-preserved-in-Int64 c =
    onward c.loop-next.invariant (load_known (visit c.loop-next.invariant c.loop-next-test.true c.op_from-number.ensures c.group_of-group.ensures c.in-Int64.is) c.load_int64.result refl (c.b_to-in-Int64.ensures _ (behind c.loop-next.invariant)) (c.load_int64.ensures _ _ 0) refl)

pub b_to-requires-in-Real64 : goal.b_to-requires-in-Real64
b_to-requires-in-Real64 c = (omega arith, inside_at c.loop-next.invariant c.loop-next-test.true)

pub load_real64-requires : goal.load_real64-requires
load_real64-requires c = tt

pub offset_bounds-stack-depth-in-Real64 : goal.offset_bounds-stack-depth-in-Real64
offset_bounds-stack-depth-in-Real64 c = omega (arith, load_fits (visit c.loop-next.invariant c.loop-next-test.true c.op_from-number.ensures c.group_of-group.ensures c.in-Real64.is))

pub bounds-stack-depth-in-Real64 : goal.bounds-stack-depth-in-Real64
bounds-stack-depth-in-Real64 c = omega (arith, load_fits (visit c.loop-next.invariant c.loop-next-test.true c.op_from-number.ensures c.group_of-group.ensures c.in-Real64.is))

pub overflow_add-depth-in-Real64 : goal.overflow_add-depth-in-Real64
overflow_add-depth-in-Real64 c = omega (arith, load_fits (visit c.loop-next.invariant c.loop-next-test.true c.op_from-number.ensures c.group_of-group.ensures c.in-Real64.is))

pub loop-next-smaller-in-Real64 : goal.loop-next-smaller-in-Real64
loop-next-smaller-in-Real64 c = omega (arith, early_at c.loop-next.invariant c.loop-next-test.true)

pub loop-next-preserved-in-Real64 : goal.loop-next-preserved-in-Real64
loop-next-preserved-in-Real64 c =
    onward c.loop-next.invariant (load_known (visit c.loop-next.invariant c.loop-next-test.true c.op_from-number.ensures c.group_of-group.ensures c.in-Real64.is) c.load_real64.result refl (c.b_to-in-Real64.ensures _ (behind c.loop-next.invariant)) (c.load_real64.ensures _ _ 0) refl)

pub a_to-requires : goal.a_to-requires
a_to-requires c = (omega arith, inside_at c.loop-next.invariant c.loop-next-test.true)

pub b_to-requires-in-Text : goal.b_to-requires-in-Text
b_to-requires-in-Text c = (omega arith, inside_at c.loop-next.invariant c.loop-next-test.true)

pub load_text-requires : goal.load_text-requires
load_text-requires c = tt

pub offset_bounds-stack-depth-in-Text : goal.offset_bounds-stack-depth-in-Text
offset_bounds-stack-depth-in-Text c = omega (arith, load_fits (visit c.loop-next.invariant c.loop-next-test.true c.op_from-number.ensures c.group_of-group.ensures c.in-Text.is))

pub bounds-stack-depth-in-Text : goal.bounds-stack-depth-in-Text
bounds-stack-depth-in-Text c = omega (arith, load_fits (visit c.loop-next.invariant c.loop-next-test.true c.op_from-number.ensures c.group_of-group.ensures c.in-Text.is))

pub overflow_add-depth-in-Text : goal.overflow_add-depth-in-Text
overflow_add-depth-in-Text c = omega (arith, load_fits (visit c.loop-next.invariant c.loop-next-test.true c.op_from-number.ensures c.group_of-group.ensures c.in-Text.is))

pub loop-next-smaller-in-Text : goal.loop-next-smaller-in-Text
loop-next-smaller-in-Text c = omega (arith, early_at c.loop-next.invariant c.loop-next-test.true)

pub loop-next-preserved-in-Text : goal.loop-next-preserved-in-Text
loop-next-preserved-in-Text c =
    onward c.loop-next.invariant (load_known (visit c.loop-next.invariant c.loop-next-test.true c.op_from-number.ensures c.group_of-group.ensures c.in-Text.is) c.load_text.result (c.a_to.ensures _ (behind c.loop-next.invariant)) (c.b_to-in-Text.ensures _ (behind c.loop-next.invariant)) (c.load_text.ensures _ _) refl)

pub a_to-requires-in-Name : goal.a_to-requires-in-Name
a_to-requires-in-Name c = (omega arith, inside_at c.loop-next.invariant c.loop-next-test.true)

pub b_to-requires-in-Name : goal.b_to-requires-in-Name
b_to-requires-in-Name c = (omega arith, inside_at c.loop-next.invariant c.loop-next-test.true)

pub find_name-found-requires : goal.find_name-found-requires
find_name-found-requires c =
    (c.requires.1, c.requires.2, name_fits_lem (visit c.loop-next.invariant c.loop-next-test.true c.op_from-number.ensures c.group_of-group.ensures c.in-Name.is) (c.a_to-in-Name.ensures _ (behind c.loop-next.invariant)) (c.b_to-in-Name.ensures _ (behind c.loop-next.invariant)))

pub overflow_add-depth-in-Name : goal.overflow_add-depth-in-Name
overflow_add-depth-in-Name c = omega (arith, load_fits (visit c.loop-next.invariant c.loop-next-test.true c.op_from-number.ensures c.group_of-group.ensures c.in-Name.is))

pub field-requires : goal.field-requires
field-requires c = found_right c.args.notice.now _ _ _ _ (λ i. search rules) c.requires.1 (sym c.find_name-found.ensures ∙ c.in-Some.is)

pub offset_bounds-stack-i : goal.offset_bounds-stack-i
offset_bounds-stack-i c = omega (arith, load_fits (visit c.loop-next.invariant c.loop-next-test.true c.op_from-number.ensures c.group_of-group.ensures c.in-Name.is))

pub bounds-stack-i : goal.bounds-stack-i
bounds-stack-i c = omega (arith, load_fits (visit c.loop-next.invariant c.loop-next-test.true c.op_from-number.ensures c.group_of-group.ensures c.in-Name.is))

pub loop-next-smaller-in-Some : goal.loop-next-smaller-in-Some
loop-next-smaller-in-Some c = omega (arith, early_at c.loop-next.invariant c.loop-next-test.true)

pub loop-next-preserved-in-Some : goal.loop-next-preserved-in-Some
loop-next-preserved-in-Some c =
    onward c.loop-next.invariant (name_found (visit c.loop-next.invariant c.loop-next-test.true c.op_from-number.ensures c.group_of-group.ensures c.in-Name.is) (c.a_to-in-Name.ensures _ (behind c.loop-next.invariant)) (c.b_to-in-Name.ensures _ (behind c.loop-next.invariant)) c.find_name-found.ensures c.field.result c.in-Some.is (found_right c.args.notice.now _ _ _ _ (λ i. search rules) c.requires.1 (sym c.find_name-found.ensures ∙ c.in-Some.is)).0 (c.field.ensures _))

pub missing-r-requires : goal.missing-r-requires
missing-r-requires c = tt

pub offset_bounds-stack-i-in-None : goal.offset_bounds-stack-i-in-None
offset_bounds-stack-i-in-None c = omega (arith, load_fits (visit c.loop-next.invariant c.loop-next-test.true c.op_from-number.ensures c.group_of-group.ensures c.in-Name.is))

pub bounds-stack-i-in-None : goal.bounds-stack-i-in-None
bounds-stack-i-in-None c = omega (arith, load_fits (visit c.loop-next.invariant c.loop-next-test.true c.op_from-number.ensures c.group_of-group.ensures c.in-Name.is))

pub noted-first-requires : goal.noted-first-requires
noted-first-requires c = omega (arith, early_at c.loop-next.invariant c.loop-next-test.true)

pub loop-next-smaller-in-None : goal.loop-next-smaller-in-None
loop-next-smaller-in-None c = omega (arith, early_at c.loop-next.invariant c.loop-next-test.true)

pub loop-next-preserved-in-None : goal.loop-next-preserved-in-None
loop-next-preserved-in-None c =
    noting c.loop-next.invariant c.loop-next-test.true _ (c.noted-first.ensures _ _) (name_missing (visit c.loop-next.invariant c.loop-next-test.true c.op_from-number.ensures c.group_of-group.ensures c.in-Name.is) (c.a_to-in-Name.ensures _ (behind c.loop-next.invariant)) (c.b_to-in-Name.ensures _ (behind c.loop-next.invariant)) c.find_name-found.ensures c.missing-r.result c.in-None.is (c.missing-r.ensures _ _) refl)

pub overflow_sub-i : goal.overflow_sub-i
overflow_sub-i c = omega (arith, unary_fits_lem (visit c.loop-next.invariant c.loop-next-test.true c.op_from-number.ensures c.group_of-group.ensures c.in-Change.is))

pub offset_bounds-stack-i-in-Change : goal.offset_bounds-stack-i-in-Change
offset_bounds-stack-i-in-Change c = omega (arith, unary_fits_lem (visit c.loop-next.invariant c.loop-next-test.true c.op_from-number.ensures c.group_of-group.ensures c.in-Change.is))

pub bounds-stack-i-in-Change : goal.bounds-stack-i-in-Change
bounds-stack-i-in-Change c = omega (arith, unary_fits_lem (visit c.loop-next.invariant c.loop-next-test.true c.op_from-number.ensures c.group_of-group.ensures c.in-Change.is))

pub change_of-requires : goal.change_of-requires
change_of-requires c = tt

pub change-r-requires : goal.change-r-requires
change-r-requires c = tt

pub offset_bounds-stack-i-in-Change-2 : goal.offset_bounds-stack-i-in-Change-2
offset_bounds-stack-i-in-Change-2 c = omega (arith, unary_fits_lem (visit c.loop-next.invariant c.loop-next-test.true c.op_from-number.ensures c.group_of-group.ensures c.in-Change.is))

pub bounds-stack-i-in-Change-2 : goal.bounds-stack-i-in-Change-2
bounds-stack-i-in-Change-2 c = omega (arith, unary_fits_lem (visit c.loop-next.invariant c.loop-next-test.true c.op_from-number.ensures c.group_of-group.ensures c.in-Change.is))

pub noted-first-requires-in-Change : goal.noted-first-requires-in-Change
noted-first-requires-in-Change c = omega (arith, early_at c.loop-next.invariant c.loop-next-test.true)

pub loop-next-smaller-in-Change : goal.loop-next-smaller-in-Change
loop-next-smaller-in-Change c = omega (arith, early_at c.loop-next.invariant c.loop-next-test.true)

pub loop-next-preserved-in-Change : goal.loop-next-preserved-in-Change
loop-next-preserved-in-Change c =
    noting c.loop-next.invariant c.loop-next-test.true _ (c.noted-first-in-Change.ensures _ _) (unary_law (visit c.loop-next.invariant c.loop-next-test.true c.op_from-number.ensures c.group_of-group.ensures c.in-Change.is) c.change-r.result (rw c.change_of.ensures at c.change-r.ensures) refl)

pub overflow_sub-i-in-Combine : goal.overflow_sub-i-in-Combine
overflow_sub-i-in-Combine c = omega (arith, binary_fits_lem (visit c.loop-next.invariant c.loop-next-test.true c.op_from-number.ensures c.group_of-group.ensures c.in-Combine.is))

pub overflow_sub-depth : goal.overflow_sub-depth
overflow_sub-depth c = omega (arith, binary_fits_lem (visit c.loop-next.invariant c.loop-next-test.true c.op_from-number.ensures c.group_of-group.ensures c.in-Combine.is))

pub offset_bounds-stack-depth-in-Combine : goal.offset_bounds-stack-depth-in-Combine
offset_bounds-stack-depth-in-Combine c = omega (arith, binary_fits_lem (visit c.loop-next.invariant c.loop-next-test.true c.op_from-number.ensures c.group_of-group.ensures c.in-Combine.is))

pub bounds-stack-depth-in-Combine : goal.bounds-stack-depth-in-Combine
bounds-stack-depth-in-Combine c = omega (arith, binary_fits_lem (visit c.loop-next.invariant c.loop-next-test.true c.op_from-number.ensures c.group_of-group.ensures c.in-Combine.is))

pub offset_bounds-stack-i-in-Combine : goal.offset_bounds-stack-i-in-Combine
offset_bounds-stack-i-in-Combine c = omega (arith, binary_fits_lem (visit c.loop-next.invariant c.loop-next-test.true c.op_from-number.ensures c.group_of-group.ensures c.in-Combine.is))

pub bounds-stack-i-in-Combine : goal.bounds-stack-i-in-Combine
bounds-stack-i-in-Combine c = omega (arith, binary_fits_lem (visit c.loop-next.invariant c.loop-next-test.true c.op_from-number.ensures c.group_of-group.ensures c.in-Combine.is))

pub combine_of-requires : goal.combine_of-requires
combine_of-requires c = tt

pub combine-r-requires : goal.combine-r-requires
combine-r-requires c = tt

pub offset_bounds-stack-i-in-Combine-2 : goal.offset_bounds-stack-i-in-Combine-2
offset_bounds-stack-i-in-Combine-2 c = omega (arith, binary_fits_lem (visit c.loop-next.invariant c.loop-next-test.true c.op_from-number.ensures c.group_of-group.ensures c.in-Combine.is))

pub bounds-stack-i-in-Combine-2 : goal.bounds-stack-i-in-Combine-2
bounds-stack-i-in-Combine-2 c = omega (arith, binary_fits_lem (visit c.loop-next.invariant c.loop-next-test.true c.op_from-number.ensures c.group_of-group.ensures c.in-Combine.is))

pub noted-first-requires-in-Combine : goal.noted-first-requires-in-Combine
noted-first-requires-in-Combine c = omega (arith, early_at c.loop-next.invariant c.loop-next-test.true)

pub loop-next-smaller-in-Combine : goal.loop-next-smaller-in-Combine
loop-next-smaller-in-Combine c = omega (arith, early_at c.loop-next.invariant c.loop-next-test.true)

pub loop-next-preserved-in-Combine : goal.loop-next-preserved-in-Combine
loop-next-preserved-in-Combine c =
    noting c.loop-next.invariant c.loop-next-test.true _ (c.noted-first-in-Combine.ensures _ _) (combine_law (visit c.loop-next.invariant c.loop-next-test.true c.op_from-number.ensures c.group_of-group.ensures c.in-Combine.is) c.combine-r.result c.edition-edition.ensures (rw c.combine_of.ensures at (c.combine-r.ensures c.pool-pool.result.now c.args.notice.now)) refl)

pub overflow_sub-i-in-Equality : goal.overflow_sub-i-in-Equality
overflow_sub-i-in-Equality c = omega (arith, binary_fits_lem (visit c.loop-next.invariant c.loop-next-test.true c.op_from-number.ensures c.group_of-group.ensures c.in-Equality.is))

pub overflow_sub-depth-in-Equality : goal.overflow_sub-depth-in-Equality
overflow_sub-depth-in-Equality c = omega (arith, binary_fits_lem (visit c.loop-next.invariant c.loop-next-test.true c.op_from-number.ensures c.group_of-group.ensures c.in-Equality.is))

pub offset_bounds-stack-depth-in-Equality : goal.offset_bounds-stack-depth-in-Equality
offset_bounds-stack-depth-in-Equality c = omega (arith, binary_fits_lem (visit c.loop-next.invariant c.loop-next-test.true c.op_from-number.ensures c.group_of-group.ensures c.in-Equality.is))

pub bounds-stack-depth-in-Equality : goal.bounds-stack-depth-in-Equality
bounds-stack-depth-in-Equality c = omega (arith, binary_fits_lem (visit c.loop-next.invariant c.loop-next-test.true c.op_from-number.ensures c.group_of-group.ensures c.in-Equality.is))

pub offset_bounds-stack-i-in-Equality : goal.offset_bounds-stack-i-in-Equality
offset_bounds-stack-i-in-Equality c = omega (arith, binary_fits_lem (visit c.loop-next.invariant c.loop-next-test.true c.op_from-number.ensures c.group_of-group.ensures c.in-Equality.is))

pub bounds-stack-i-in-Equality : goal.bounds-stack-i-in-Equality
bounds-stack-i-in-Equality c = omega (arith, binary_fits_lem (visit c.loop-next.invariant c.loop-next-test.true c.op_from-number.ensures c.group_of-group.ensures c.in-Equality.is))

pub is_not_equal-requires : goal.is_not_equal-requires
is_not_equal-requires c = tt

pub equality-r-requires : goal.equality-r-requires
equality-r-requires c = tt

pub offset_bounds-stack-i-in-Equality-2 : goal.offset_bounds-stack-i-in-Equality-2
offset_bounds-stack-i-in-Equality-2 c = omega (arith, binary_fits_lem (visit c.loop-next.invariant c.loop-next-test.true c.op_from-number.ensures c.group_of-group.ensures c.in-Equality.is))

pub bounds-stack-i-in-Equality-2 : goal.bounds-stack-i-in-Equality-2
bounds-stack-i-in-Equality-2 c = omega (arith, binary_fits_lem (visit c.loop-next.invariant c.loop-next-test.true c.op_from-number.ensures c.group_of-group.ensures c.in-Equality.is))

pub noted-first-requires-in-Equality : goal.noted-first-requires-in-Equality
noted-first-requires-in-Equality c = omega (arith, early_at c.loop-next.invariant c.loop-next-test.true)

pub loop-next-smaller-in-Equality : goal.loop-next-smaller-in-Equality
loop-next-smaller-in-Equality c = omega (arith, early_at c.loop-next.invariant c.loop-next-test.true)

pub loop-next-preserved-in-Equality : goal.loop-next-preserved-in-Equality
loop-next-preserved-in-Equality c =
    noting c.loop-next.invariant c.loop-next-test.true _ (c.noted-first-in-Equality.ensures _ _) (binary_law (visit c.loop-next.invariant c.loop-next-test.true c.op_from-number.ensures c.group_of-group.ensures c.in-Equality.is) c.equality-r.result (rw c.is_not_equal.ensures at (c.equality-r.ensures Edition.First)) refl)

pub overflow_sub-i-in-Order : goal.overflow_sub-i-in-Order
overflow_sub-i-in-Order c = omega (arith, binary_fits_lem (visit c.loop-next.invariant c.loop-next-test.true c.op_from-number.ensures c.group_of-group.ensures c.in-Order.is))

pub overflow_sub-depth-in-Order : goal.overflow_sub-depth-in-Order
overflow_sub-depth-in-Order c = omega (arith, binary_fits_lem (visit c.loop-next.invariant c.loop-next-test.true c.op_from-number.ensures c.group_of-group.ensures c.in-Order.is))

pub offset_bounds-stack-depth-in-Order : goal.offset_bounds-stack-depth-in-Order
offset_bounds-stack-depth-in-Order c = omega (arith, binary_fits_lem (visit c.loop-next.invariant c.loop-next-test.true c.op_from-number.ensures c.group_of-group.ensures c.in-Order.is))

pub bounds-stack-depth-in-Order : goal.bounds-stack-depth-in-Order
bounds-stack-depth-in-Order c = omega (arith, binary_fits_lem (visit c.loop-next.invariant c.loop-next-test.true c.op_from-number.ensures c.group_of-group.ensures c.in-Order.is))

pub offset_bounds-stack-i-in-Order : goal.offset_bounds-stack-i-in-Order
offset_bounds-stack-i-in-Order c = omega (arith, binary_fits_lem (visit c.loop-next.invariant c.loop-next-test.true c.op_from-number.ensures c.group_of-group.ensures c.in-Order.is))

pub bounds-stack-i-in-Order : goal.bounds-stack-i-in-Order
bounds-stack-i-in-Order c = omega (arith, binary_fits_lem (visit c.loop-next.invariant c.loop-next-test.true c.op_from-number.ensures c.group_of-group.ensures c.in-Order.is))

pub order_of-requires : goal.order_of-requires
order_of-requires c = tt

pub ordered-r-requires : goal.ordered-r-requires
ordered-r-requires c = tt

pub offset_bounds-stack-i-in-Order-2 : goal.offset_bounds-stack-i-in-Order-2
offset_bounds-stack-i-in-Order-2 c = omega (arith, binary_fits_lem (visit c.loop-next.invariant c.loop-next-test.true c.op_from-number.ensures c.group_of-group.ensures c.in-Order.is))

pub bounds-stack-i-in-Order-2 : goal.bounds-stack-i-in-Order-2
bounds-stack-i-in-Order-2 c = omega (arith, binary_fits_lem (visit c.loop-next.invariant c.loop-next-test.true c.op_from-number.ensures c.group_of-group.ensures c.in-Order.is))

pub noted-first-requires-in-Order : goal.noted-first-requires-in-Order
noted-first-requires-in-Order c = omega (arith, early_at c.loop-next.invariant c.loop-next-test.true)

pub loop-next-smaller-in-Order : goal.loop-next-smaller-in-Order
loop-next-smaller-in-Order c = omega (arith, early_at c.loop-next.invariant c.loop-next-test.true)

pub loop-next-preserved-in-Order : goal.loop-next-preserved-in-Order
loop-next-preserved-in-Order c =
    noting c.loop-next.invariant c.loop-next-test.true _ (c.noted-first-in-Order.ensures _ _) (binary_law (visit c.loop-next.invariant c.loop-next-test.true c.op_from-number.ensures c.group_of-group.ensures c.in-Order.is) c.ordered-r.result (rw c.order_of.ensures at (c.ordered-r.ensures Edition.First c.pool-pool.result.now c.args.notice.now)) refl)

pub overflow_sub-i-in-Not : goal.overflow_sub-i-in-Not
overflow_sub-i-in-Not c = omega (arith, unary_fits_lem (visit c.loop-next.invariant c.loop-next-test.true c.op_from-number.ensures c.group_of-group.ensures c.in-Not.is))

pub offset_bounds-stack-i-in-Not : goal.offset_bounds-stack-i-in-Not
offset_bounds-stack-i-in-Not c = omega (arith, unary_fits_lem (visit c.loop-next.invariant c.loop-next-test.true c.op_from-number.ensures c.group_of-group.ensures c.in-Not.is))

pub bounds-stack-i-in-Not : goal.bounds-stack-i-in-Not
bounds-stack-i-in-Not c = omega (arith, unary_fits_lem (visit c.loop-next.invariant c.loop-next-test.true c.op_from-number.ensures c.group_of-group.ensures c.in-Not.is))

pub not-requires : goal.not-requires
not-requires c = tt

pub offset_bounds-stack-i-in-Not-2 : goal.offset_bounds-stack-i-in-Not-2
offset_bounds-stack-i-in-Not-2 c = omega (arith, unary_fits_lem (visit c.loop-next.invariant c.loop-next-test.true c.op_from-number.ensures c.group_of-group.ensures c.in-Not.is))

pub bounds-stack-i-in-Not-2 : goal.bounds-stack-i-in-Not-2
bounds-stack-i-in-Not-2 c = omega (arith, unary_fits_lem (visit c.loop-next.invariant c.loop-next-test.true c.op_from-number.ensures c.group_of-group.ensures c.in-Not.is))

pub loop-next-smaller-in-Not : goal.loop-next-smaller-in-Not
loop-next-smaller-in-Not c = omega (arith, early_at c.loop-next.invariant c.loop-next-test.true)

pub loop-next-preserved-in-Not : goal.loop-next-preserved-in-Not
loop-next-preserved-in-Not c = onward c.loop-next.invariant (unary_known_lem (visit c.loop-next.invariant c.loop-next-test.true c.op_from-number.ensures c.group_of-group.ensures c.in-Not.is) c.not.result (c.not.ensures _ _) known_not)

pub overflow_sub-i-in-And : goal.overflow_sub-i-in-And
overflow_sub-i-in-And c = omega (arith, binary_fits_lem (visit c.loop-next.invariant c.loop-next-test.true c.op_from-number.ensures c.group_of-group.ensures c.in-And.is))

pub overflow_sub-depth-in-And : goal.overflow_sub-depth-in-And
overflow_sub-depth-in-And c = omega (arith, binary_fits_lem (visit c.loop-next.invariant c.loop-next-test.true c.op_from-number.ensures c.group_of-group.ensures c.in-And.is))

pub offset_bounds-stack-depth-in-And : goal.offset_bounds-stack-depth-in-And
offset_bounds-stack-depth-in-And c = omega (arith, binary_fits_lem (visit c.loop-next.invariant c.loop-next-test.true c.op_from-number.ensures c.group_of-group.ensures c.in-And.is))

pub bounds-stack-depth-in-And : goal.bounds-stack-depth-in-And
bounds-stack-depth-in-And c = omega (arith, binary_fits_lem (visit c.loop-next.invariant c.loop-next-test.true c.op_from-number.ensures c.group_of-group.ensures c.in-And.is))

pub offset_bounds-stack-i-in-And : goal.offset_bounds-stack-i-in-And
offset_bounds-stack-i-in-And c = omega (arith, binary_fits_lem (visit c.loop-next.invariant c.loop-next-test.true c.op_from-number.ensures c.group_of-group.ensures c.in-And.is))

pub bounds-stack-i-in-And : goal.bounds-stack-i-in-And
bounds-stack-i-in-And c = omega (arith, binary_fits_lem (visit c.loop-next.invariant c.loop-next-test.true c.op_from-number.ensures c.group_of-group.ensures c.in-And.is))

pub and-requires : goal.and-requires
and-requires c = tt

pub offset_bounds-stack-i-in-And-2 : goal.offset_bounds-stack-i-in-And-2
offset_bounds-stack-i-in-And-2 c = omega (arith, binary_fits_lem (visit c.loop-next.invariant c.loop-next-test.true c.op_from-number.ensures c.group_of-group.ensures c.in-And.is))

pub bounds-stack-i-in-And-2 : goal.bounds-stack-i-in-And-2
bounds-stack-i-in-And-2 c = omega (arith, binary_fits_lem (visit c.loop-next.invariant c.loop-next-test.true c.op_from-number.ensures c.group_of-group.ensures c.in-And.is))

pub loop-next-smaller-in-And : goal.loop-next-smaller-in-And
loop-next-smaller-in-And c = omega (arith, early_at c.loop-next.invariant c.loop-next-test.true)

pub loop-next-preserved-in-And : goal.loop-next-preserved-in-And
loop-next-preserved-in-And c =
    onward c.loop-next.invariant (binary_known_lem (visit c.loop-next.invariant c.loop-next-test.true c.op_from-number.ensures c.group_of-group.ensures c.in-And.is) c.and.result (c.and.ensures Edition.First _ _) (known_connect Edition.First Connective.And))

pub overflow_sub-i-in-Xor : goal.overflow_sub-i-in-Xor
overflow_sub-i-in-Xor c = omega (arith, binary_fits_lem (visit c.loop-next.invariant c.loop-next-test.true c.op_from-number.ensures c.group_of-group.ensures c.in-Xor.is))

pub overflow_sub-depth-in-Xor : goal.overflow_sub-depth-in-Xor
overflow_sub-depth-in-Xor c = omega (arith, binary_fits_lem (visit c.loop-next.invariant c.loop-next-test.true c.op_from-number.ensures c.group_of-group.ensures c.in-Xor.is))

pub offset_bounds-stack-depth-in-Xor : goal.offset_bounds-stack-depth-in-Xor
offset_bounds-stack-depth-in-Xor c = omega (arith, binary_fits_lem (visit c.loop-next.invariant c.loop-next-test.true c.op_from-number.ensures c.group_of-group.ensures c.in-Xor.is))

pub bounds-stack-depth-in-Xor : goal.bounds-stack-depth-in-Xor
bounds-stack-depth-in-Xor c = omega (arith, binary_fits_lem (visit c.loop-next.invariant c.loop-next-test.true c.op_from-number.ensures c.group_of-group.ensures c.in-Xor.is))

pub offset_bounds-stack-i-in-Xor : goal.offset_bounds-stack-i-in-Xor
offset_bounds-stack-i-in-Xor c = omega (arith, binary_fits_lem (visit c.loop-next.invariant c.loop-next-test.true c.op_from-number.ensures c.group_of-group.ensures c.in-Xor.is))

pub bounds-stack-i-in-Xor : goal.bounds-stack-i-in-Xor
bounds-stack-i-in-Xor c = omega (arith, binary_fits_lem (visit c.loop-next.invariant c.loop-next-test.true c.op_from-number.ensures c.group_of-group.ensures c.in-Xor.is))

pub xor-requires : goal.xor-requires
xor-requires c = tt

pub offset_bounds-stack-i-in-Xor-2 : goal.offset_bounds-stack-i-in-Xor-2
offset_bounds-stack-i-in-Xor-2 c = omega (arith, binary_fits_lem (visit c.loop-next.invariant c.loop-next-test.true c.op_from-number.ensures c.group_of-group.ensures c.in-Xor.is))

pub bounds-stack-i-in-Xor-2 : goal.bounds-stack-i-in-Xor-2
bounds-stack-i-in-Xor-2 c = omega (arith, binary_fits_lem (visit c.loop-next.invariant c.loop-next-test.true c.op_from-number.ensures c.group_of-group.ensures c.in-Xor.is))

pub loop-next-smaller-in-Xor : goal.loop-next-smaller-in-Xor
loop-next-smaller-in-Xor c = omega (arith, early_at c.loop-next.invariant c.loop-next-test.true)

pub loop-next-preserved-in-Xor : goal.loop-next-preserved-in-Xor
loop-next-preserved-in-Xor c =
    onward c.loop-next.invariant (binary_known_lem (visit c.loop-next.invariant c.loop-next-test.true c.op_from-number.ensures c.group_of-group.ensures c.in-Xor.is) c.xor.result (c.xor.ensures Edition.First _ _) (known_connect Edition.First Connective.Xor))

pub overflow_sub-i-in-Or : goal.overflow_sub-i-in-Or
overflow_sub-i-in-Or c = omega (arith, binary_fits_lem (visit c.loop-next.invariant c.loop-next-test.true c.op_from-number.ensures c.group_of-group.ensures c.in-Or.is))

pub overflow_sub-depth-in-Or : goal.overflow_sub-depth-in-Or
overflow_sub-depth-in-Or c = omega (arith, binary_fits_lem (visit c.loop-next.invariant c.loop-next-test.true c.op_from-number.ensures c.group_of-group.ensures c.in-Or.is))

pub offset_bounds-stack-depth-in-Or : goal.offset_bounds-stack-depth-in-Or
offset_bounds-stack-depth-in-Or c = omega (arith, binary_fits_lem (visit c.loop-next.invariant c.loop-next-test.true c.op_from-number.ensures c.group_of-group.ensures c.in-Or.is))

pub bounds-stack-depth-in-Or : goal.bounds-stack-depth-in-Or
bounds-stack-depth-in-Or c = omega (arith, binary_fits_lem (visit c.loop-next.invariant c.loop-next-test.true c.op_from-number.ensures c.group_of-group.ensures c.in-Or.is))

pub offset_bounds-stack-i-in-Or : goal.offset_bounds-stack-i-in-Or
offset_bounds-stack-i-in-Or c = omega (arith, binary_fits_lem (visit c.loop-next.invariant c.loop-next-test.true c.op_from-number.ensures c.group_of-group.ensures c.in-Or.is))

pub bounds-stack-i-in-Or : goal.bounds-stack-i-in-Or
bounds-stack-i-in-Or c = omega (arith, binary_fits_lem (visit c.loop-next.invariant c.loop-next-test.true c.op_from-number.ensures c.group_of-group.ensures c.in-Or.is))

pub or-requires : goal.or-requires
or-requires c = tt

pub offset_bounds-stack-i-in-Or-2 : goal.offset_bounds-stack-i-in-Or-2
offset_bounds-stack-i-in-Or-2 c = omega (arith, binary_fits_lem (visit c.loop-next.invariant c.loop-next-test.true c.op_from-number.ensures c.group_of-group.ensures c.in-Or.is))

pub bounds-stack-i-in-Or-2 : goal.bounds-stack-i-in-Or-2
bounds-stack-i-in-Or-2 c = omega (arith, binary_fits_lem (visit c.loop-next.invariant c.loop-next-test.true c.op_from-number.ensures c.group_of-group.ensures c.in-Or.is))

pub loop-next-smaller-in-Or : goal.loop-next-smaller-in-Or
loop-next-smaller-in-Or c = omega (arith, early_at c.loop-next.invariant c.loop-next-test.true)

pub loop-next-preserved-in-Or : goal.loop-next-preserved-in-Or
loop-next-preserved-in-Or c =
    onward c.loop-next.invariant (binary_known_lem (visit c.loop-next.invariant c.loop-next-test.true c.op_from-number.ensures c.group_of-group.ensures c.in-Or.is) c.or.result (c.or.ensures Edition.First _ _) (known_connect Edition.First Connective.Or))

pub overflow_sub-i-in-SkipIfFalse : goal.overflow_sub-i-in-SkipIfFalse
overflow_sub-i-in-SkipIfFalse c = omega (arith, skip_fits (visit c.loop-next.invariant c.loop-next-test.true c.op_from-number.ensures c.group_of-group.ensures c.in-SkipIfFalse.is))

pub offset_bounds-stack-i-in-SkipIfFalse : goal.offset_bounds-stack-i-in-SkipIfFalse
offset_bounds-stack-i-in-SkipIfFalse c = omega (arith, skip_fits (visit c.loop-next.invariant c.loop-next-test.true c.op_from-number.ensures c.group_of-group.ensures c.in-SkipIfFalse.is))

pub bounds-stack-i-in-SkipIfFalse : goal.bounds-stack-i-in-SkipIfFalse
bounds-stack-i-in-SkipIfFalse c = omega (arith, skip_fits (visit c.loop-next.invariant c.loop-next-test.true c.op_from-number.ensures c.group_of-group.ensures c.in-SkipIfFalse.is))

pub truth_in-requires : goal.truth_in-requires
truth_in-requires c = tt

pub skips_on-requires : goal.skips_on-requires
skips_on-requires c = tt

pub a_to-a-requires : goal.a_to-a-requires
a_to-a-requires c = (omega arith, inside_at c.loop-next.invariant c.loop-next-test.true)

pub overflow_mul-next : goal.overflow_mul-next
overflow_mul-next c = omega (arith, skip_room (visit c.loop-next.invariant c.loop-next-test.true c.op_from-number.ensures c.group_of-group.ensures c.in-SkipIfFalse.is) (c.a_to-a.ensures _ (behind c.loop-next.invariant)))

pub overflow_add-next-then-skips_on : goal.overflow_add-next-then-skips_on
overflow_add-next-then-skips_on c =
    omega (arith, early_at c.loop-next.invariant c.loop-next-test.true, skip_room (visit c.loop-next.invariant c.loop-next-test.true c.op_from-number.ensures c.group_of-group.ensures c.in-SkipIfFalse.is) (c.a_to-a.ensures _ (behind c.loop-next.invariant)))

pub overflow_add-passed : goal.overflow_add-passed
overflow_add-passed c = omega (arith, skip_room (visit c.loop-next.invariant c.loop-next-test.true c.op_from-number.ensures c.group_of-group.ensures c.in-SkipIfFalse.is) (c.a_to-a.ensures _ (behind c.loop-next.invariant)))

pub limit-end-requires-then-skips_on : goal.limit-end-requires-then-skips_on
limit-end-requires-then-skips_on c = omega (arith, skip_room (visit c.loop-next.invariant c.loop-next-test.true c.op_from-number.ensures c.group_of-group.ensures c.in-SkipIfFalse.is) (c.a_to-a.ensures _ (behind c.loop-next.invariant)))

pub loop-next-smaller-then-skips_on : goal.loop-next-smaller-then-skips_on
loop-next-smaller-then-skips_on c = omega (arith, early_at c.loop-next.invariant c.loop-next-test.true)

pub loop-next-preserved-then-skips_on : goal.loop-next-preserved-then-skips_on
loop-next-preserved-then-skips_on c =
    skipping c.loop-next.invariant _ c.limit-end-then-skips_on.ensures (skip_taken (visit c.loop-next.invariant c.loop-next-test.true c.op_from-number.ensures c.group_of-group.ensures c.in-SkipIfFalse.is) (c.a_to-a.ensures _ (behind c.loop-next.invariant)) (ap (skips Skip.IfFalse) (sym (c.truth_in.ensures _ _)) ∙ sym c.skips_on.ensures ∙ c.if-skips_on.true) refl)

pub loop-next-smaller-else-skips_on : goal.loop-next-smaller-else-skips_on
loop-next-smaller-else-skips_on c = omega (arith, early_at c.loop-next.invariant c.loop-next-test.true)

pub loop-next-preserved-else-skips_on : goal.loop-next-preserved-else-skips_on
loop-next-preserved-else-skips_on c =
    onward c.loop-next.invariant (skip_kept (visit c.loop-next.invariant c.loop-next-test.true c.op_from-number.ensures c.group_of-group.ensures c.in-SkipIfFalse.is) (ap (skips Skip.IfFalse) (sym (c.truth_in.ensures _ _)) ∙ sym c.skips_on.ensures ∙ c.if-skips_on.false))

pub overflow_sub-i-in-SkipIfTrue : goal.overflow_sub-i-in-SkipIfTrue
overflow_sub-i-in-SkipIfTrue c = omega (arith, skip_fits (visit c.loop-next.invariant c.loop-next-test.true c.op_from-number.ensures c.group_of-group.ensures c.in-SkipIfTrue.is))

pub offset_bounds-stack-i-in-SkipIfTrue : goal.offset_bounds-stack-i-in-SkipIfTrue
offset_bounds-stack-i-in-SkipIfTrue c = omega (arith, skip_fits (visit c.loop-next.invariant c.loop-next-test.true c.op_from-number.ensures c.group_of-group.ensures c.in-SkipIfTrue.is))

pub bounds-stack-i-in-SkipIfTrue : goal.bounds-stack-i-in-SkipIfTrue
bounds-stack-i-in-SkipIfTrue c = omega (arith, skip_fits (visit c.loop-next.invariant c.loop-next-test.true c.op_from-number.ensures c.group_of-group.ensures c.in-SkipIfTrue.is))

pub truth_in-requires-in-SkipIfTrue : goal.truth_in-requires-in-SkipIfTrue
truth_in-requires-in-SkipIfTrue c = tt

pub skips_on-requires-in-SkipIfTrue : goal.skips_on-requires-in-SkipIfTrue
skips_on-requires-in-SkipIfTrue c = tt

pub a_to-a-requires-then-skips_on-2 : goal.a_to-a-requires-then-skips_on-2
a_to-a-requires-then-skips_on-2 c = (omega arith, inside_at c.loop-next.invariant c.loop-next-test.true)

pub overflow_mul-next-then-skips_on-2 : goal.overflow_mul-next-then-skips_on-2
overflow_mul-next-then-skips_on-2 c =
    omega (arith, skip_room (visit c.loop-next.invariant c.loop-next-test.true c.op_from-number.ensures c.group_of-group.ensures c.in-SkipIfTrue.is) (c.a_to-a-then-skips_on-2.ensures _ (behind c.loop-next.invariant)))

pub overflow_add-next-then-skips_on-2 : goal.overflow_add-next-then-skips_on-2
overflow_add-next-then-skips_on-2 c =
    omega (arith, early_at c.loop-next.invariant c.loop-next-test.true, skip_room (visit c.loop-next.invariant c.loop-next-test.true c.op_from-number.ensures c.group_of-group.ensures c.in-SkipIfTrue.is) (c.a_to-a-then-skips_on-2.ensures _ (behind c.loop-next.invariant)))

pub overflow_add-passed-then-skips_on-2 : goal.overflow_add-passed-then-skips_on-2
overflow_add-passed-then-skips_on-2 c =
    omega (arith, skip_room (visit c.loop-next.invariant c.loop-next-test.true c.op_from-number.ensures c.group_of-group.ensures c.in-SkipIfTrue.is) (c.a_to-a-then-skips_on-2.ensures _ (behind c.loop-next.invariant)))

pub limit-end-requires-then-skips_on-2 : goal.limit-end-requires-then-skips_on-2
limit-end-requires-then-skips_on-2 c =
    omega (arith, skip_room (visit c.loop-next.invariant c.loop-next-test.true c.op_from-number.ensures c.group_of-group.ensures c.in-SkipIfTrue.is) (c.a_to-a-then-skips_on-2.ensures _ (behind c.loop-next.invariant)))

pub loop-next-smaller-then-skips_on-2 : goal.loop-next-smaller-then-skips_on-2
loop-next-smaller-then-skips_on-2 c = omega (arith, early_at c.loop-next.invariant c.loop-next-test.true)

pub loop-next-preserved-then-skips_on-2 : goal.loop-next-preserved-then-skips_on-2
loop-next-preserved-then-skips_on-2 c =
    skipping c.loop-next.invariant _ c.limit-end-then-skips_on-2.ensures (skip_taken (visit c.loop-next.invariant c.loop-next-test.true c.op_from-number.ensures c.group_of-group.ensures c.in-SkipIfTrue.is) (c.a_to-a-then-skips_on-2.ensures _ (behind c.loop-next.invariant)) (ap (skips Skip.IfTrue) (sym (c.truth_in-in-SkipIfTrue.ensures _ _)) ∙ sym c.skips_on-in-SkipIfTrue.ensures ∙ c.if-skips_on-2.true) refl)

pub loop-next-smaller-else-skips_on-2 : goal.loop-next-smaller-else-skips_on-2
loop-next-smaller-else-skips_on-2 c = omega (arith, early_at c.loop-next.invariant c.loop-next-test.true)

pub loop-next-preserved-else-skips_on-2 : goal.loop-next-preserved-else-skips_on-2
loop-next-preserved-else-skips_on-2 c =
    onward c.loop-next.invariant (skip_kept (visit c.loop-next.invariant c.loop-next-test.true c.op_from-number.ensures c.group_of-group.ensures c.in-SkipIfTrue.is) (ap (skips Skip.IfTrue) (sym (c.truth_in-in-SkipIfTrue.ensures _ _)) ∙ sym c.skips_on-in-SkipIfTrue.ensures ∙ c.if-skips_on-2.false))

pub overflow_sub-i-in-Test : goal.overflow_sub-i-in-Test
overflow_sub-i-in-Test c = omega (arith, unary_fits_lem (visit c.loop-next.invariant c.loop-next-test.true c.op_from-number.ensures c.group_of-group.ensures c.in-Test.is))

pub offset_bounds-stack-i-in-Test : goal.offset_bounds-stack-i-in-Test
offset_bounds-stack-i-in-Test c = omega (arith, unary_fits_lem (visit c.loop-next.invariant c.loop-next-test.true c.op_from-number.ensures c.group_of-group.ensures c.in-Test.is))

pub bounds-stack-i-in-Test : goal.bounds-stack-i-in-Test
bounds-stack-i-in-Test c = omega (arith, unary_fits_lem (visit c.loop-next.invariant c.loop-next-test.true c.op_from-number.ensures c.group_of-group.ensures c.in-Test.is))

pub test_of-requires : goal.test_of-requires
test_of-requires c = tt

pub test-requires : goal.test-requires
test-requires c = tt

pub offset_bounds-stack-i-in-Test-2 : goal.offset_bounds-stack-i-in-Test-2
offset_bounds-stack-i-in-Test-2 c = omega (arith, unary_fits_lem (visit c.loop-next.invariant c.loop-next-test.true c.op_from-number.ensures c.group_of-group.ensures c.in-Test.is))

pub bounds-stack-i-in-Test-2 : goal.bounds-stack-i-in-Test-2
bounds-stack-i-in-Test-2 c = omega (arith, unary_fits_lem (visit c.loop-next.invariant c.loop-next-test.true c.op_from-number.ensures c.group_of-group.ensures c.in-Test.is))

pub loop-next-smaller-in-Test : goal.loop-next-smaller-in-Test
loop-next-smaller-in-Test c = omega (arith, early_at c.loop-next.invariant c.loop-next-test.true)

pub loop-next-preserved-in-Test : goal.loop-next-preserved-in-Test
loop-next-preserved-in-Test c =
    onward c.loop-next.invariant (unary_known_lem (visit c.loop-next.invariant c.loop-next-test.true c.op_from-number.ensures c.group_of-group.ensures c.in-Test.is) c.test.result (rw c.test_of.ensures at (c.test.ensures c.pool-pool.result.now c.args.notice.now)) (known_test (test_in (op_of c.op_from-number.result))))

pub many_of-k-requires : goal.many_of-k-requires
many_of-k-requires c = tt

pub a_to-requires-in-Many : goal.a_to-requires-in-Many
a_to-requires-in-Many c = (omega arith, inside_at c.loop-next.invariant c.loop-next-test.true)

pub overflow_add-i : goal.overflow_add-i
overflow_add-i c = omega (arith, many_fits_lem (visit_many c.loop-next.invariant c.loop-next-test.true c.op_from-number.ensures c.group_of-group.ensures c.in-Many.is c.many_of-k.ensures) (c.a_to-in-Many.ensures _ (behind c.loop-next.invariant)))

pub overflow_sub-i-in-Many : goal.overflow_sub-i-in-Many
overflow_sub-i-in-Many c = omega (arith, many_fits_lem (visit_many c.loop-next.invariant c.loop-next-test.true c.op_from-number.ensures c.group_of-group.ensures c.in-Many.is c.many_of-k.ensures) (c.a_to-in-Many.ensures _ (behind c.loop-next.invariant)))

pub offset_bounds-stack-i-in-Many : goal.offset_bounds-stack-i-in-Many
offset_bounds-stack-i-in-Many c = omega (arith, many_fits_lem (visit_many c.loop-next.invariant c.loop-next-test.true c.op_from-number.ensures c.group_of-group.ensures c.in-Many.is c.many_of-k.ensures) (c.a_to-in-Many.ensures _ (behind c.loop-next.invariant)))

pub bounds-stack-i-in-Many : goal.bounds-stack-i-in-Many
bounds-stack-i-in-Many c = omega (arith, many_fits_lem (visit_many c.loop-next.invariant c.loop-next-test.true c.op_from-number.ensures c.group_of-group.ensures c.in-Many.is c.many_of-k.ensures) (c.a_to-in-Many.ensures _ (behind c.loop-next.invariant)))

pub start-known-requires : goal.start-known-requires
start-known-requires c = tt

pub overflow_add-j : goal.overflow_add-j
overflow_add-j c = omega (arith, many_fits_lem (visit_many c.loop-next.invariant c.loop-next-test.true c.op_from-number.ensures c.group_of-group.ensures c.in-Many.is c.many_of-k.ensures) (c.a_to-in-Many.ensures _ (behind c.loop-next.invariant)))

pub loop-j-init : goal.loop-j-init
loop-j-init c = tally_start (c.start-known.ensures _ _) (omega (arith, many_fits_lem (visit_many c.loop-next.invariant c.loop-next-test.true c.op_from-number.ensures c.group_of-group.ensures c.in-Many.is c.many_of-k.ensures) (c.a_to-in-Many.ensures _ (behind c.loop-next.invariant))))

pub is_open-requires : goal.is_open-requires
is_open-requires c = tt

pub offset_bounds-stack-j : goal.offset_bounds-stack-j
offset_bounds-stack-j c =
    omega (arith, many_fits_lem (visit_many c.loop-next.invariant c.loop-next-test.true c.op_from-number.ensures c.group_of-group.ensures c.in-Many.is c.many_of-k.ensures) (c.a_to-in-Many.ensures _ (behind c.loop-next.invariant)), below c.loop-j.j c.loop-next.depth c.is_open.result c.loop-j-test.true)

pub bounds-stack-j : goal.bounds-stack-j
bounds-stack-j c =
    omega (arith, many_fits_lem (visit_many c.loop-next.invariant c.loop-next-test.true c.op_from-number.ensures c.group_of-group.ensures c.in-Many.is c.many_of-k.ensures) (c.a_to-in-Many.ensures _ (behind c.loop-next.invariant)), below c.loop-j.j c.loop-next.depth c.is_open.result c.loop-j-test.true)

pub more-known-requires : goal.more-known-requires
more-known-requires c = tt

pub overflow_add-j-in-loop-j : goal.overflow_add-j-in-loop-j
overflow_add-j-in-loop-j c =
    omega (arith, many_fits_lem (visit_many c.loop-next.invariant c.loop-next-test.true c.op_from-number.ensures c.group_of-group.ensures c.in-Many.is c.many_of-k.ensures) (c.a_to-in-Many.ensures _ (behind c.loop-next.invariant)), below c.loop-j.j c.loop-next.depth c.is_open.result c.loop-j-test.true)

pub loop-j-smaller : goal.loop-j-smaller
loop-j-smaller c =
    omega (arith, below c.loop-j.j c.loop-next.depth c.is_open.result c.loop-j-test.true)

pub loop-j-preserved : goal.loop-j-preserved
loop-j-preserved c =
    tally_more c.loop-j.invariant (below c.loop-j.j c.loop-next.depth c.is_open.result c.loop-j-test.true) c.more-known.ensures

pub decided-r-requires : goal.decided-r-requires
decided-r-requires c = tt

pub offset_bounds-stack-i-in-Many-2 : goal.offset_bounds-stack-i-in-Many-2
offset_bounds-stack-i-in-Many-2 c = omega (arith, many_fits_lem (visit_many c.loop-next.invariant c.loop-next-test.true c.op_from-number.ensures c.group_of-group.ensures c.in-Many.is c.many_of-k.ensures) (c.a_to-in-Many.ensures _ (behind c.loop-next.invariant)))

pub bounds-stack-i-in-Many-2 : goal.bounds-stack-i-in-Many-2
bounds-stack-i-in-Many-2 c = omega (arith, many_fits_lem (visit_many c.loop-next.invariant c.loop-next-test.true c.op_from-number.ensures c.group_of-group.ensures c.in-Many.is c.many_of-k.ensures) (c.a_to-in-Many.ensures _ (behind c.loop-next.invariant)))

pub noted-first-requires-in-Many : goal.noted-first-requires-in-Many
noted-first-requires-in-Many c = omega (arith, early_at c.loop-next.invariant c.loop-next-test.true)

pub overflow_add-depth-in-Many : goal.overflow_add-depth-in-Many
overflow_add-depth-in-Many c = omega (arith, many_fits_lem (visit_many c.loop-next.invariant c.loop-next-test.true c.op_from-number.ensures c.group_of-group.ensures c.in-Many.is c.many_of-k.ensures) (c.a_to-in-Many.ensures _ (behind c.loop-next.invariant)))

pub loop-next-smaller-in-Many : goal.loop-next-smaller-in-Many
loop-next-smaller-in-Many c = omega (arith, early_at c.loop-next.invariant c.loop-next-test.true)

pub loop-next-preserved-in-Many : goal.loop-next-preserved-in-Many
loop-next-preserved-in-Many c =
    noting c.loop-next.invariant c.loop-next-test.true _ (c.noted-first-in-Many.ensures _ _) (many_law (visit_many c.loop-next.invariant c.loop-next-test.true c.op_from-number.ensures c.group_of-group.ensures c.in-Many.is c.many_of-k.ensures) (c.a_to-in-Many.ensures _ (behind c.loop-next.invariant)) c.decided-r.result c.loop-j.invariant c.is_open.ensures c.loop-j-test.false (c.decided-r.ensures _ _) refl)

pub loop-next-smaller : goal.loop-next-smaller
loop-next-smaller c = omega (arith, early_at c.loop-next.invariant c.loop-next-test.true)

pub loop-next-preserved : goal.loop-next-preserved
loop-next-preserved c = absurd (no_unknown (visit c.loop-next.invariant c.loop-next-test.true c.op_from-number.ensures c.group_of-group.ensures c.in-Unknown.is))

pub overflow_sub-at : goal.overflow_sub-at
overflow_sub-at c = omega (arith, counted c.loop-next.invariant)

pub overflow_sub-result : goal.overflow_sub-result
overflow_sub-result c = omega (arith, counted c.loop-next.invariant)

pub ending_at-requires : goal.ending_at-requires
ending_at-requires c = tt

pub returns : goal.returns
returns c = answer c.loop-next.invariant c.loop-next-test.false c.ending_at.ensures
