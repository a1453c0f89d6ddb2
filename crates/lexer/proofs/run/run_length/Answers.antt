use native.Mathlib.Omega.{arith}
use Rattle.lexer.proofs.Runs.{run_stop, run_more, run_end}
use Rattle.lexer.proofs.run.run_length.Goals as goal

pub loop-i-init : goal.loop-i-init
loop-i-init c = (omega arith, omega arith)

pub returns-then-taken-ends : goal.returns-then-taken-ends
returns-then-taken-ends c =
    let z = run_stop c.args.s.now c.loop-i.i (omega arith) c.args.quote c.loop-i.taken (rw c.ends.ensures at c.if-taken-ends.true) in
    omega (arith, z, c.loop-i.invariant.1)

pub loop-i-preserved : goal.loop-i-preserved
loop-i-preserved c =
    let m = run_more c.args.s.now c.loop-i.i (omega arith) c.args.quote c.loop-i.taken (rw c.ends.ensures at c.if-taken-ends.false) in
    (omega arith, rw c.takes-taken.ensures (omega (arith, m, c.loop-i.invariant.1)))

pub returns : goal.returns
returns c =
    let z = run_end c.args.s.now c.loop-i.i (omega arith) c.args.quote c.loop-i.taken in
    omega (arith, z, c.loop-i.invariant.1)
