use mathlib.Core.Path.{refl, sym, ◌∙◌}
use Rattle.postfix.proofs.part.binary.Goals as goal

pub returns-then-broken : goal.returns-then-broken
returns-then-broken c = rw (sym c.broken.ensures ∙ c.if-broken.true) (refl, refl)

pub returns : goal.returns
returns c =
    rw (sym c.broken.ensures ∙ c.if-broken.false, ← c.next.ensures.0, ← c.end-end.ensures.0, ← c.end-last.ensures.0, ← c.known.ensures, ← c.known-2.ensures, ← c.binary_known.ensures.0, ← c.code_of.ensures, ← c.saturating_sub.ensures, ← c.leave_skip.ensures) (c.new.ensures, c.leave.ensures)
