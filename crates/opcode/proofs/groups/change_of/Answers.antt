-- `opcode::groups::change_of` meets its contract: each arm by computing, the last by `other_change`. Assumes nothing.
use borrow.Author.Rules.{rules}
use mathlib.Core.Path.{sym}
use Rattle.opcode.proofs.Grouped.{other_change}
use Rattle.opcode.proofs.groups.change_of.Goals as goal

pub returns-in_default : goal.returns-in_default
returns-in_default c = sym (other_change c.args.number (search rules))
