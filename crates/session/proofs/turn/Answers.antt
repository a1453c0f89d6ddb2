-- `session::turn` meets its contract: the bytes that are not answered yet are served, and the state says how far. Assumes nothing.
use Rattle.session.proofs.Steps.{turned}
use Rattle.session.proofs.turn.Goals as goal

pub returns : goal.returns
returns c =
    turned c.next_of.result c.requires c.serve-served.ensures c.serve-served.auto.table c.next_of.ensures
