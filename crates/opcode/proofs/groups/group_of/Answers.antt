-- `opcode::groups::group_of` meets its contract: each arm by computing, the last by `others`. Assumes nothing.
use borrow.Author.Rules.{rules}
use mathlib.Core.Path.{sym, ap}
use Rattle.opcode.specs.Groups.{group_of}
use Rattle.opcode.proofs.Unknown.{others}
use Rattle.opcode.proofs.groups.group_of.Goals as goal

pub returns-in_default : goal.returns-in_default
returns-in_default c = ap group_of (sym (others c.args.number (search rules)))
