use mathlib.Core.Path.{sym, ◌∙◌}
use Rattle.postfix.proofs.part.more_args.Goals as goal

pub returns-then-broken : goal.returns-then-broken
returns-then-broken c = rw (sym c.broken.ensures ∙ c.if-broken.true)

pub returns : goal.returns
returns c =
    rw (sym c.broken.ensures ∙ c.if-broken.false, ← c.next.ensures.0, ← c.end.ensures.0, ← c.known.ensures, ← c.known-2.ensures, ← c.more_known-known.ensures.0) c.new.ensures
