-- `router::virentolex_check` meets its contract. Assumes nothing.
use mathlib.Core.Path.{sym, ap, ◌∙◌}
use Rattle.table.specs.Check.{refusal_of}
use Rattle.router.proofs.virentolex_check.Goals as goal

pub returns-then-check : goal.returns-then-check
returns-then-check c = ap refusal_of (sym c.if-check.true ∙ c.check.ensures)

pub returns-else-check : goal.returns-else-check
returns-else-check c = ap refusal_of (sym c.if-check.false ∙ c.check.ensures)
