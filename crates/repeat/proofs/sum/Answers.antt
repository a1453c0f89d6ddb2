-- `repeat::sum` meets its contract. The loop's invariant: the sum is i times what one run adds, and at most 268433410 for each. Assumes nothing.
use native.Mathlib.Omega.{arith}
use Rattle.repeat.proofs.Small.{one_more}
use Rattle.repeat.proofs.sum.Goals as goal

pub overflow_add-total : goal.overflow_add-total
overflow_add-total c = omega (arith, c.weight-total.ensures.1)

pub loop-i-preserved : goal.loop-i-preserved
loop-i-preserved c =
    let l = c.loop-i in
    (one_more l.i l.total c.weight-total.result _ l.invariant.0 c.weight-total.ensures.0, omega (arith, c.weight-total.ensures.1))
