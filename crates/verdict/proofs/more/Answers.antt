-- `verdict::more` meets its contract: the history goes on by a move and a read. Assumes nothing.
use Rattle.verdict.proofs.Laws.{reads_on}
use Rattle.verdict.proofs.more.Goals as goal

pub returns : goal.returns
returns g c table read written h = reads_on h c.requires.1 c.make_room-ready.ensures c.read_on-came.ensures c.received.ensures
