use native.Mathlib.Omega.{arith}
use mathlib.Core.Path.{sym, ◌∙◌}
use Rattle.translator.proofs.Writing.{operands_one, operands_none}
use Rattle.translator.proofs.write.operands.Goals as goal

pub returns-then-pushes : goal.returns-then-pushes
returns-then-pushes c = (operands_one c.args.c (sym c.pushes.ensures ∙ c.if-pushes.true), omega arith)

pub returns-else-pushes : goal.returns-else-pushes
returns-else-pushes c = (operands_none c.args.c (sym c.pushes.ensures ∙ c.if-pushes.false), omega arith)
