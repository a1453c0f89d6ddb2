use Rattle.automaton.proofs.next_level.Goals as goal

pub returns-then-starts : goal.returns-then-starts
returns-then-starts c = rw c.if-starts.true c.started.ensures

pub returns-then-bars : goal.returns-then-bars
returns-then-bars c = rw (c.if-starts.false, c.if-bars.true) c.barred.ensures

pub returns-then-ends : goal.returns-then-ends
returns-then-ends c = rw (c.if-starts.false, c.if-bars.false, c.if-ends.true) c.closed.ensures

pub returns : goal.returns
returns c = rw (c.if-starts.false, c.if-bars.false, c.if-ends.false) c.past_one.ensures
