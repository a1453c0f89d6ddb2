use borrow.Author.Tests.{eq-eqb, ne_eqb}
use Rattle.postfix.proofs.part.leave_skip.Goals as goal

pub returns-then-k-eq-AND : goal.returns-then-k-eq-AND
returns-then-k-eq-AND c = rw (eq-eqb _ _ c.if-k-eq-AND.true, ← c.code_of.ensures) c.leave.ensures

pub returns-then-k-eq-OR : goal.returns-then-k-eq-OR
returns-then-k-eq-OR c =
    rw (ne_eqb _ _ c.if-k-eq-AND.false, eq-eqb _ _ c.if-k-eq-OR.true, ← c.code_of-then-k-eq-OR.ensures) c.leave-then-k-eq-OR.ensures

pub returns-else-k-eq-OR : goal.returns-else-k-eq-OR
returns-else-k-eq-OR c = rw (ne_eqb _ _ c.if-k-eq-AND.false, ne_eqb _ _ c.if-k-eq-OR.false)
