use mathlib.Core.Path.{sym, ◌∙◌}
use Rattle.postfix.proofs.mark.before.Goals as goal

pub returns-then-broken : goal.returns-then-broken
returns-then-broken c = rw (sym c.broken.ensures ∙ c.if-broken.true)

pub returns : goal.returns
returns c = rw (sym c.broken.ensures ∙ c.if-broken.false, ← c.next.ensures.0, ← c.saturating_sub.ensures) c.kind.ensures
