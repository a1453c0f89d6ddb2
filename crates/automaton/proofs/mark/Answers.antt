use Rattle.automaton.proofs.mark.Goals as goal

pub returns-then-ends : goal.returns-then-ends
returns-then-ends c = rw (c.if-starts.false, c.if-bars.false, c.if-ends.true)
