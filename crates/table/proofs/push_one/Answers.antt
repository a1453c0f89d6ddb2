use mathlib.Core.Path.{◌∙◌}
use native.Mathlib.Omega.{arith}
use Rattle.table.proofs.Numbers.{push_none, push_full, push_right}
use Rattle.table.proofs.push_one.Goals as goal

pub returns-then-c-eq0 : goal.returns-then-c-eq0
returns-then-c-eq0 c = λ g s e f. push_none g s (omega arith)

pub returns-then-c-gt4294967295 : goal.returns-then-c-gt4294967295
returns-then-c-gt4294967295 c = λ g s e f. push_full g s (omega arith)

pub returns : goal.returns
returns c = λ g s e f. rw (e, f) (push_right g s (λ z. c.if-c-eq0.false (f ∙ z)) (omega arith))
