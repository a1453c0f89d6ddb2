use borrow.Author.Tests.{le-leb, lt-leb}
use Rattle.postfix.proofs.part.operand_right.Goals as goal

pub returns-then-k-ge-NOT : goal.returns-then-k-ge-NOT
returns-then-k-ge-NOT c = rw (le-leb _ _ c.if-k-ge-NOT.true)

pub returns-else-k-ge-NOT : goal.returns-else-k-ge-NOT
returns-else-k-ge-NOT c = rw (lt-leb _ _ c.if-k-ge-NOT.false)
