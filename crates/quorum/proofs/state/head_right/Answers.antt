-- `state::head_right` meets its contract. Assumes nothing.
use borrow.Author.Tests.{le-leb, lt-leb}
use Rattle.quorum.specs.Decision.{head_right}
use Rattle.quorum.proofs.state.head_right.Goals as goal

pub returns-then-n-lt528 : goal.returns-then-n-lt528
unfolding head_right
returns-then-n-lt528 c = rw (lt-leb 528 _ c.if-n-lt528.true)

pub returns : goal.returns
unfolding head_right
returns c = rw (le-leb 528 _ c.if-n-lt528.false, c.size_of-size.ensures, c.read_u16-kind.ensures)
