use Rattle.automaton.proofs.Step.{up_suc}
use Rattle.automaton.proofs.up.Goals as goal

pub returns-then-d-eq0 : goal.returns-then-d-eq0
returns-then-d-eq0 c = rw c.if-d-eq0.true c.started.ensures

pub returns : goal.returns
returns c = up_suc c.args.d c.args.x c.if-d-eq0.false
