use mathlib.Core.Path.{◌≡◌, ◌∙◌}
use Prim.Native.Nat.{◌+◌, ◌-◌, ◌≤◌}
use native.Mathlib.Omega.{arith}
use borrow.Author.Tests.{leb-true, eq-eqb, ne_eqb}
use lib.ListN.{length}
use borrow.Author.Rules.{rules}
use Rattle.table.proofs.operand_right.Goals as goal

pub returns-then-e-ne-TEXT : goal.returns-then-e-ne-TEXT
returns-then-e-ne-TEXT c = λ test t. rw (ne_eqb c.args.e.op 4 c.if-e-ne-TEXT.true)

pub overflow_add-past : goal.overflow_add-past
overflow_add-past c =
    let h : c.args.e.a + c.args.e.b ≤ length c.args.pool.now = leb-true _ _ (c.requires c.if-e-ne-TEXT.false) in
    search rules

pub slice_bounds-is_pattern-end : goal.slice_bounds-is_pattern-end
slice_bounds-is_pattern-end c =
    let h : c.args.e.a + c.args.e.b ≤ length c.args.pool.now = leb-true _ _ (c.requires c.if-e-ne-TEXT.false) in
    search rules

pub returns : goal.returns
returns c =
    λ test t.
    let e = c.args.e in
    let n : e.b + e.a - e.b ≡ e.a = omega arith in
    c.is_pattern.ensures test t ∙ rw (eq-eqb e.op 4 c.if-e-ne-TEXT.false, n)
