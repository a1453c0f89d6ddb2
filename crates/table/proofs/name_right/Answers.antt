use mathlib.Core.Path.{◌≡◌, sym, ◌∙◌}
use mathlib.Core.Bool.{true}
use Prim.Native.Nat.{◌+◌, ◌-◌, ◌≤◌}
use native.Mathlib.Omega.{arith}
use borrow.Author.Tests.{leb-true}
use lib.ListN.{length}
use Rattle.table.specs.Check.{part_right}
use borrow.Author.Rules.{rules}
use Rattle.table.proofs.name_right.Goals as goal

pub returns-then-not-part_right : goal.returns-then-not-part_right
returns-then-not-part_right c = rw (sym c.part_right.ensures ∙ c.if-not-part_right.true)

pub overflow_add-end : goal.overflow_add-end
overflow_add-end c =
    let h : c.args.e.a + c.args.e.b ≤ length c.args.pool.now = leb-true _ _ (sym c.part_right.ensures ∙ c.if-not-part_right.false) in
    search rules

pub slice_bounds-name_right-end : goal.slice_bounds-name_right-end
slice_bounds-name_right-end c =
    let h : c.args.e.a + c.args.e.b ≤ length c.args.pool.now = leb-true _ _ (sym c.part_right.ensures ∙ c.if-not-part_right.false) in
    search rules

pub returns : goal.returns
returns c =
    let p : part_right c.args.pool.now c.args.e ≡ true = sym c.part_right.ensures ∙ c.if-not-part_right.false in
    let n : c.args.e.b + c.args.e.a - c.args.e.b ≡ c.args.e.a = omega arith in
    c.name_right.ensures ∙ rw (p, n)
