use Rattle.pattern.proofs.Ranges.{escaped_here, escaped_past}
use native.Mathlib.Omega.{arith}
use Rattle.pattern.proofs.sets.escaped_at.Goals as goal

pub returns-then-i-p : goal.returns-then-i-p
returns-then-i-p c = let a = c.args in rw c.fold-b.ensures (escaped_here a.mark a.p.now a.i (omega arith))

pub returns : goal.returns
returns c = let a = c.args in escaped_past a.mark a.p.now a.i (omega arith)
