use Rattle.octets.proofs.Theorems.{and_parts}
use Rattle.automaton.proofs.start_if.Goals as goal

pub returns-then-single-sf : goal.returns-then-single-sf
returns-then-single-sf c =
    let a = c.args in (c.start.ensures.0, λ ef. rw (and_parts a.single a.sf c.if-single-sf.true).1 (c.start.ensures.1 ef))
