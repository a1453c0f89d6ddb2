use native.Mathlib.Omega.{arith}
use Rattle.ubf.proofs.Laws.{rest_escapes, no_escapes}
use Rattle.ubf.proofs.put.escaped_length.Goals as goal

pub loop-b-init : goal.loop-b-init
loop-b-init c = (omega arith, omega arith, omega arith)

pub loop-b-preserved : goal.loop-b-preserved
loop-b-preserved c =
    let l = c.loop-b in let e = rest_escapes c.args.s.now l.b-index c.loop-b-test.true in (omega arith, omega arith, omega arith)

pub returns : goal.returns
returns c =
    let l = c.loop-b in let e = no_escapes c.args.s.now l.b-index c.loop-b-test.false in (omega arith, omega arith)
