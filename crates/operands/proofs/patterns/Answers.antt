use Rattle.operands.proofs.Passes.{judging_starts, judging_small, judging_wrong, judging_on, judging_ends}
use Rattle.operands.proofs.patterns.Goals as goal

pub loop-i-init : goal.loop-i-init
loop-i-init c = judging_starts _ _ _ c.requires.1

pub right_at-requires : goal.right_at-requires
right_at-requires c = (c.requires.0, c.loop-i-test.true)

pub returns-then-not-right_at : goal.returns-then-not-right_at
returns-then-not-right_at c =
    judging_wrong c.loop-i.invariant c.loop-i-test.true c.right_at.ensures (c.if-not-right_at.true)

pub opens_after-opens-requires : goal.opens_after-opens-requires
opens_after-opens-requires c = judging_small c.loop-i.invariant

pub loop-i-preserved : goal.loop-i-preserved
loop-i-preserved c =
    judging_on c.loop-i.invariant c.loop-i-test.true c.right_at.ensures (c.if-not-right_at.false) c.mark_before.ensures c.opens_after-opens.ensures

pub returns : goal.returns
returns c = judging_ends c.loop-i.invariant c.loop-i-test.false
