use borrow.Author.Tests.{lt-leb, le-leb}
use Rattle.table.specs.Table.{layout_of}
use Rattle.table.proofs.layout_right.Goals as goal

pub returns-then-len-lt10 : goal.returns-then-len-lt10
unfolding layout_of
returns-then-len-lt10 c = rw (lt-leb 10 _ c.if-len-lt10.true)

pub returns : goal.returns
unfolding layout_of
returns c =
    rw (le-leb 10 _ c.if-len-lt10.false, c.read_u32-size.ensures, c.read_u16-kind.ensures, c.count-n.ensures.0, c.read_u16-p.ensures)
