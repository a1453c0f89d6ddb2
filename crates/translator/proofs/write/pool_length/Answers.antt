use Prim.Native.Nat.{ℕ, ◌+◌}
use native.Mathlib.Omega.{arith}
use mathlib.Core.Path.{ap}
use Rattle.translator.proofs.Writing.{sum_start, sum_on, sum_end}
use Rattle.translator.proofs.write.pool_length.Goals as goal

pub loop-i-init : goal.loop-i-init
loop-i-init c = sum_start _ _

pub overflow_add-sum : goal.overflow_add-sum
overflow_add-sum c =
    omega (arith, c.loop-i.invariant.low, c.loop-i.invariant.within, c.start-sum.ensures, c.shared_slice_known-1.given c.loop-i.i, c.requires, c.loop-i-test.true)

pub loop-i-preserved : goal.loop-i-preserved
loop-i-preserved c =
    sum_on c.loop-i.invariant c.loop-i-test.true (ap (λ (m : ℕ). c.loop-i.sum + m) c.start-sum.ensures) (omega (arith, c.shared_slice_known-1.given c.loop-i.i))

pub returns : goal.returns
returns c = sum_end c.loop-i.invariant c.loop-i-test.false
