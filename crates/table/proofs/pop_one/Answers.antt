use native.Mathlib.Omega.{arith}
use Rattle.table.proofs.Numbers.{pop_low, pop_other, pop_right}
use Rattle.table.proofs.pop_one.Goals as goal

pub returns-then-c-le1 : goal.returns-then-c-le1
returns-then-c-le1 c = λ t s e f. pop_low t s (omega arith)

pub returns-then-c-bit : goal.returns-then-c-bit
returns-then-c-bit c = λ t s e f. pop_other t s (λ h. c.if-c-bit.true (omega arith))

pub returns : goal.returns
returns c = λ t s e f. rw f (pop_right t s (omega arith) (omega arith))
