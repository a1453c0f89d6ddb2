use Rattle.pattern.proofs.Ranges.{member_close, member-escaped, member-plain}
use native.Mathlib.Omega.{arith}
use mathlib.Core.Path.{◌∙◌}
use Rattle.pattern.proofs.sets.member_at.Goals as goal

pub returns-in-93 : goal.returns-in-93
returns-in-93 c = let a = c.args in member_close a.mark a.p.now a.i (omega arith) c.in-93.is

pub returns-in-92 : goal.returns-in-92
returns-in-92 c = let a = c.args in c.escaped_at.ensures ∙ member-escaped a.mark a.p.now a.i (omega arith) (omega (arith, c.in-92.is)) c.in-92.is

pub returns-in_default : goal.returns-in_default
returns-in_default c = let a = c.args in rw c.fold-b.ensures (member-plain a.mark a.p.now a.i (omega arith) (omega arith) (omega arith))
