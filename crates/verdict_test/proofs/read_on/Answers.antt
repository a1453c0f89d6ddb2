-- `verdict_test::read_on` meets its contract. Assumes nothing.
use Rattle.verdict_test.proofs.Laws.{fed_ready}
use Rattle.verdict_test.proofs.read_on.Goals as goal

pub returns : goal.returns
returns c =
    let f = c.feed-n.ensures in
    (fed_ready c.requires.0 c.make_room-ready.ensures f c.received.ensures, f.there)
