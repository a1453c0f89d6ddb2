use Rattle.postfix.proofs.answer.Goals as goal

pub returns-then-broken-next : goal.returns-then-broken-next
returns-then-broken-next c = rw (← c.broken.ensures, ← c.next-next.ensures.0, c.if-broken-next.true)

pub returns : goal.returns
returns c =
    rw (← c.broken.ensures, ← c.next-next.ensures.0, c.if-broken-next.false, c.end.ensures.0, c.logic.ensures, c.forms.ensures, c.kinds.ensures, c.depth.ensures.0, c.known-known.ensures)
