use native.Mathlib.Omega.{arith}
use borrow.Author.Tests.{lt-ltb, le-ltb}
use Rattle.automaton.proofs.depth_after.Goals as goal

pub returns-then-d-lt8 : goal.returns-then-d-lt8
returns-then-d-lt8 c = (rw (c.if-starts.true, lt-ltb _ _ c.if-d-lt8.true), omega arith)

pub returns-then-starts : goal.returns-then-starts
returns-then-starts c = (rw (c.if-starts.true, le-ltb _ _ c.if-d-lt8.false), omega arith)

pub returns-then-ends : goal.returns-then-ends
returns-then-ends c =
    (rw (c.if-starts.false, c.if-bars.false, c.if-ends.true) c.saturating_sub.ensures, omega (arith, c.saturating_sub.ensures))
