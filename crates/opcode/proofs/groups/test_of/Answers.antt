-- `opcode::groups::test_of` meets its contract: each arm by computing, the last by `other_test`. Assumes nothing.
use borrow.Author.Rules.{rules}
use mathlib.Core.Path.{sym}
use Rattle.opcode.proofs.Grouped.{other_test}
use Rattle.opcode.proofs.groups.test_of.Goals as goal

pub returns-in_default : goal.returns-in_default
returns-in_default c = sym (other_test c.args.number (search rules))
