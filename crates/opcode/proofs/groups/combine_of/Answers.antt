-- `opcode::groups::combine_of` meets its contract: each arm by computing, the last by `other_combine`. Assumes nothing.
use borrow.Author.Rules.{rules}
use mathlib.Core.Path.{sym}
use Rattle.opcode.proofs.Grouped.{other_combine}
use Rattle.opcode.proofs.groups.combine_of.Goals as goal

pub returns-in_default : goal.returns-in_default
returns-in_default c = sym (other_combine c.args.number (search rules))
