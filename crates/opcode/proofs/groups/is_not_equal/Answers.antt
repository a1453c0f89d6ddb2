-- `opcode::groups::is_not_equal` meets its contract. Assumes nothing.
use Rattle.opcode.proofs.Grouped.{not_equal}
use Rattle.opcode.proofs.groups.is_not_equal.Goals as goal

pub returns : goal.returns
returns c = not_equal c.args.number
