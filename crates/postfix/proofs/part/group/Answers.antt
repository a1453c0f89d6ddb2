use mathlib.Core.Path.{sym, ◌∙◌}
use borrow.Author.Tests.{eq-eqb, ne_eqb}
use Rattle.postfix.proofs.part.group.Goals as goal

pub returns-then-broken : goal.returns-then-broken
returns-then-broken c = rw (sym c.broken.ensures ∙ c.if-broken.true)

pub returns-then-kind-eq-CLOSE : goal.returns-then-kind-eq-CLOSE
returns-then-kind-eq-CLOSE c =
    rw (sym c.broken.ensures ∙ c.if-broken.false, ← c.next-n.ensures.0, ← c.kind.ensures, eq-eqb _ _ c.if-kind-eq-CLOSE.true, ← c.end.ensures.0, ← c.known.ensures, ← c.group_known.ensures.0) c.new.ensures

pub returns : goal.returns
returns c =
    rw (sym c.broken.ensures ∙ c.if-broken.false, ← c.next-n.ensures.0, ← c.kind.ensures, ne_eqb _ _ c.if-kind-eq-CLOSE.false) c.broken_at.ensures
