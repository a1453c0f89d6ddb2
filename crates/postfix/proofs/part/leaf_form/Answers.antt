use borrow.Author.Tests.{eq-eqb, ne_eqb}
use Rattle.postfix.proofs.part.leaf_form.Goals as goal

pub returns-then-k-eq-NAME : goal.returns-then-k-eq-NAME
returns-then-k-eq-NAME c = rw (eq-eqb _ _ c.if-k-eq-NAME.true)

pub returns-then-k-eq-TEXT : goal.returns-then-k-eq-TEXT
returns-then-k-eq-TEXT c = rw (ne_eqb _ _ c.if-k-eq-NAME.false, eq-eqb _ _ c.if-k-eq-TEXT.true)

pub returns : goal.returns
returns c = rw (ne_eqb _ _ c.if-k-eq-NAME.false, ne_eqb _ _ c.if-k-eq-TEXT.false)
