use borrow.Author.Tests.{eq-eqb, ne_eqb}
use Rattle.postfix.proofs.part.call_form.Goals as goal

pub returns-then-function-eq-FOLD_CASE : goal.returns-then-function-eq-FOLD_CASE
returns-then-function-eq-FOLD_CASE c = rw (eq-eqb _ _ c.if-function-eq-FOLD_CASE.true)

pub returns-else-function-eq-FOLD_CASE : goal.returns-else-function-eq-FOLD_CASE
returns-else-function-eq-FOLD_CASE c = rw (ne_eqb _ _ c.if-function-eq-FOLD_CASE.false)
