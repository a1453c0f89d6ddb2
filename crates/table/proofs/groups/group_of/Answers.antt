-- `table::groups::group_of` meets its contract: each arm by computing, the last by `others`. Assumes nothing.
use Rattle.opcode.proofs.Unknown.{others}
use borrow.Author.Rules.{rules}
use Rattle.table.proofs.groups.group_of.Goals as goal

pub returns-in_default : goal.returns-in_default
returns-in_default c = rw (others c.args.number (search rules))
