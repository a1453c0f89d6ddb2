-- `opcode::groups::many_of` meets its contract: each arm by computing, the last by `other_many`. Assumes nothing.
use borrow.Author.Rules.{rules}
use mathlib.Core.Path.{sym}
use Rattle.opcode.proofs.Grouped.{other_many}
use Rattle.opcode.proofs.groups.many_of.Goals as goal

pub returns-in_default : goal.returns-in_default
returns-in_default c = sym (other_many c.args.number (search rules))
