-- `session::lines` meets its contract. Assumes nothing.
use Rattle.session.proofs.Laws.{from_start}
use Rattle.session.proofs.lines.Goals as goal

pub returns : goal.returns
returns c = from_start c.args.out.now c.args.s.written
