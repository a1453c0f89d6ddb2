use native.Mathlib.Omega.{arith}
use Rattle.ubf.proofs.Laws.{signed_low, signed_high}
use Rattle.ubf.proofs.put.signed4.Goals as goal

pub returns-then-u-lt2147483648 : goal.returns-then-u-lt2147483648
returns-then-u-lt2147483648 c = signed_low 4 c.args.u c.if-u-lt2147483648.true

pub returns : goal.returns
returns c = signed_high 4 c.args.u _ (omega arith) (omega arith)
