use native.Mathlib.Omega.{arith}
use Rattle.table.proofs.Numbers.{pop_two_low, pop_two_other, pop_two_right}
use Rattle.table.proofs.pop_two.Goals as goal

pub returns-then-c-lt4 : goal.returns-then-c-lt4
returns-then-c-lt4 c = λ t s e f. pop_two_low t s (omega arith)

pub returns-then-c-bit : goal.returns-then-c-bit
returns-then-c-bit c = λ t s e f. pop_two_other t s (omega arith) (λ h. c.if-c-bit.true (omega arith))

pub returns : goal.returns
returns c = λ t s e f. rw f (pop_two_right t s (omega arith) (omega arith))
