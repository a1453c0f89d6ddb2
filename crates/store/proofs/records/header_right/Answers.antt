-- `header_right` meets its contract: the size, then the length and the kind. Assumes nothing.
use borrow.Author.Tests.{lt-leb, le-leb}
use Rattle.store.specs.Layout.{header_right}
use Rattle.store.proofs.records.header_right.Goals as goal

pub returns-then-n-lt8 : goal.returns-then-n-lt8
unfolding header_right
returns-then-n-lt8 c = rw (lt-leb 8 _ c.if-n-lt8.true)

pub returns : goal.returns
unfolding header_right
returns c = rw (le-leb 8 _ c.if-n-lt8.false, c.read_u32.ensures, c.read_u16.ensures)
