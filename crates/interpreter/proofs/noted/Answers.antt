-- `interpreter::noted` meets its contract. Assumes nothing.
use mathlib.Core.Path.{sym}
use Rattle.interpreter.proofs.noted.Goals as goal

pub returns-then-first-is_bottom : goal.returns-then-first-is_bottom
returns-then-first-is_bottom c = λ p q. rw (sym (c.is_bottom.ensures p q), c.if-first-is_bottom.true)

pub returns : goal.returns
returns c = λ p q. rw (sym (c.is_bottom.ensures p q), c.if-first-is_bottom.false)
