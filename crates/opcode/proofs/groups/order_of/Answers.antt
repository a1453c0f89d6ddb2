-- `opcode::groups::order_of` meets its contract: each arm by computing, the last by `other_order`. Assumes nothing.
use borrow.Author.Rules.{rules}
use mathlib.Core.Path.{sym}
use Rattle.opcode.proofs.Grouped.{other_order}
use Rattle.opcode.proofs.groups.order_of.Goals as goal

pub returns-in_default : goal.returns-in_default
returns-in_default c = sym (other_order c.args.number (search rules))
