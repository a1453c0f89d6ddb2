use borrow.Author.Tests.{eq-eqb, ne_eqb}
use Rattle.postfix.proofs.part.call_right.Goals as goal

pub returns-then-function-eq-FOLD_CASE : goal.returns-then-function-eq-FOLD_CASE
returns-then-function-eq-FOLD_CASE c =
    rw (eq-eqb _ _ c.if-function-eq-FOLD_CASE.true, c.is_name.ensures, c.is_text.ensures, c.is_folding.ensures)

pub returns-then-function-eq-EQUALS : goal.returns-then-function-eq-EQUALS
returns-then-function-eq-EQUALS c =
    rw (ne_eqb _ _ c.if-function-eq-FOLD_CASE.false, eq-eqb _ _ c.if-function-eq-EQUALS.true, c.is_name-then-function-eq-EQUALS.ensures)

pub returns-then-function : goal.returns-then-function
returns-then-function c =
    rw (ne_eqb _ _ c.if-function-eq-FOLD_CASE.false, ne_eqb _ _ c.if-function-eq-EQUALS.false, c.if-function.true, c.is_name-then-function.ensures, c.is_folding-then-function.ensures)

pub returns-then-function-2 : goal.returns-then-function-2
returns-then-function-2 c =
    rw (ne_eqb _ _ c.if-function-eq-FOLD_CASE.false, ne_eqb _ _ c.if-function-eq-EQUALS.false, c.if-function.false, c.if-function-2.true, c.is_name-then-function-2.ensures)

pub returns : goal.returns
returns c =
    rw (ne_eqb _ _ c.if-function-eq-FOLD_CASE.false, ne_eqb _ _ c.if-function-eq-EQUALS.false, c.if-function.false, c.if-function-2.false)
