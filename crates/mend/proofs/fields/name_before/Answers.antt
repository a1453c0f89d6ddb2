-- `name_before` meets its contract: a name has a first byte. Assumes nothing.
use Rattle.mend.proofs.Orders.{by_first}
use Rattle.mend.proofs.fields.name_before.Goals as goal

pub returns : goal.returns
returns c = by_first c.args.bytes.now c.args.at c.args.k c.requires.0 c.requires.1 c.if-a-b.false
