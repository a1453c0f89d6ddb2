use Rattle.octets.proofs.Folds.{folds_to}
use Rattle.octets.proofs.searching.case_bit.Goals as goal

pub returns-then-mark-low : goal.returns-then-mark-low
returns-then-mark-low c = let a = c.args in λ x h. rw c.if-mark-low.true at (folds_to a.mark a.b x h)

pub returns-else-mark-low : goal.returns-else-mark-low
returns-else-mark-low c = let a = c.args in λ x h. rw c.if-mark-low.false at (folds_to a.mark a.b x h)
