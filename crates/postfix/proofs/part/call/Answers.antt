use mathlib.Core.Path.{refl, sym, ◌∙◌}
use borrow.Author.Tests.{eq-eqb, ne_eqb}
use Rattle.postfix.proofs.part.call.Goals as goal

pub returns-then-broken : goal.returns-then-broken
returns-then-broken c = rw (sym c.broken.ensures ∙ c.if-broken.true) (refl, refl)

pub returns-then-before-ne-CLOSE : goal.returns-then-before-ne-CLOSE
returns-then-before-ne-CLOSE c =
    rw (← c.before-2.ensures, sym c.broken.ensures ∙ c.if-broken.false, ← c.next-next.ensures.0, ne_eqb _ _ c.if-before-ne-CLOSE.true, ← c.saturating_sub.ensures) (c.broken_at.ensures, refl)

pub returns : goal.returns
returns c =
    rw (← c.before-2.ensures, sym c.broken.ensures ∙ c.if-broken.false, ← c.next-next.ensures.0, eq-eqb _ _ c.if-before-ne-CLOSE.false, ← c.end-end.ensures.0, ← c.known-a.ensures, ← c.call_known.ensures.0, ← c.call_code.ensures) (c.new.ensures, c.leave.ensures)
