-- `interpreter::ending_at` meets its contract. Assumes nothing.
use borrow.Author.Tests.{lt-ltb, le-ltb}
use Rattle.interpreter.proofs.ending_at.Goals as goal

pub returns-then-place-lt22 : goal.returns-then-place-lt22
returns-then-place-lt22 c = rw (lt-ltb _ _ c.if-place-lt22.true)

pub returns : goal.returns
returns c = rw (le-ltb _ _ c.if-place-lt22.false)
