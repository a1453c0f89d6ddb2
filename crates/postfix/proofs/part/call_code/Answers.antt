use borrow.Author.Tests.{le-leb, lt-leb}
use Rattle.postfix.proofs.part.call_code.Goals as goal

pub returns-then-function-ge-BEGINS_WITH : goal.returns-then-function-ge-BEGINS_WITH
returns-then-function-ge-BEGINS_WITH c =
    rw (le-leb _ _ c.if-function-ge-BEGINS_WITH.true, ← c.count.ensures.0, ← c.saturating_sub.ensures) c.code_of.ensures

pub returns : goal.returns
returns c = rw (lt-leb _ _ c.if-function-ge-BEGINS_WITH.false) c.code_of-2.ensures
