use native.Mathlib.Omega.{arith}
use Rattle.operands.proofs.Marks.{marking_starts, marking_on, marking_past, marking_ends, asking_ends}
use Rattle.operands.proofs.mark.Goals as goal

pub loop-i-init : goal.loop-i-init
loop-i-init c = marking_starts _ _ _

pub loop-i-preserved-then-m-lt-CALLING : goal.loop-i-preserved-then-m-lt-CALLING
loop-i-preserved-then-m-lt-CALLING c = marking_past c.loop-i.invariant (omega (arith, c.loop-i.invariant.long, c.loop-i-test.true)) c.mark_at-m.ensures c.if-m-lt-CALLING.true

pub loop-i-preserved : goal.loop-i-preserved
loop-i-preserved c =
    marking_on c.loop-i.invariant (omega (arith, c.loop-i.invariant.long, c.loop-i-test.true)) c.mark_at-m.ensures c.called.ensures c.takes_patterns-asks.ensures

pub shape_of-kinds : goal.shape_of-kinds
shape_of-kinds c = c.loop-i.invariant.long

pub returns : goal.returns
returns c =
    record { value = asking_ends c.loop-i.invariant (omega (arith, c.loop-i.invariant.long, c.loop-i-test.false)); kinds_after = marking_ends c.loop-i.invariant (omega (arith, c.loop-i.invariant.long, c.loop-i-test.false)) }
