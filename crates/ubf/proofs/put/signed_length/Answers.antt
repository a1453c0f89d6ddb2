use lib.ListN.{length}
use mathlib.Core.Path.{ap}
use native.Mathlib.Omega.{arith}
use lib.ListN.{length}
use Rattle.ubf.proofs.Laws.{sign_true, sign_false}
use Rattle.ubf.proofs.put.signed_length.Goals as goal

pub returns-then-s : goal.returns-then-s
returns-then-s c = let e = ap length (sign_true c.args.s c.if-s.true) in (omega arith, omega arith)

pub returns : goal.returns
returns c = let e = ap length (sign_false c.args.s c.if-s.false) in (omega arith, omega arith)
