-- `interpreter::limit` meets its contract. Assumes nothing.
use borrow.Author.Tests.{le-leb, lt-leb}
use Rattle.interpreter.proofs.limit.Goals as goal

pub returns-then-n-passed : goal.returns-then-n-passed
returns-then-n-passed c = rw (le-leb _ _ c.if-n-passed.true)

pub returns-else-n-passed : goal.returns-else-n-passed
returns-else-n-passed c = rw (lt-leb _ _ c.if-n-passed.false)
