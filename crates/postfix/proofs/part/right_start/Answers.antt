use mathlib.Core.Path.{sym, ◌∙◌}
use native.Mathlib.Omega.{arith}
use Rattle.postfix.proofs.part.right_start.Goals as goal

pub returns-then-is_skipping : goal.returns-then-is_skipping
returns-then-is_skipping c = rw (sym c.is_skipping.ensures ∙ c.if-is_skipping.true, c.end.ensures.0)

pub returns-else-is_skipping : goal.returns-else-is_skipping
returns-else-is_skipping c =
    rw (sym c.is_skipping.ensures ∙ c.if-is_skipping.false, c.end-else-is_skipping.ensures.0) (omega arith)
