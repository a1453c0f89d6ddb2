use native.Mathlib.Omega.{arith}
use Rattle.ubf.proofs.Laws.{signed_low, signed_high}
use Rattle.ubf.proofs.put.signed8.Goals as goal

pub returns-then-u-lt9223372036854775808 : goal.returns-then-u-lt9223372036854775808
returns-then-u-lt9223372036854775808 c = signed_low 8 c.args.u c.if-u-lt9223372036854775808.true

pub returns : goal.returns
returns c = signed_high 8 c.args.u _ (omega arith) (omega arith)
