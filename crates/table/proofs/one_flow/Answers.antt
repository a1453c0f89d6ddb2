use Rattle.table.specs.Check.{pop_one}
use Rattle.table.proofs.one_flow.Goals as goal

pub returns : goal.returns
returns c = λ t g s et eg e. c.push_one.ensures g (pop_one t s) eg (c.pop_one.ensures t s et e)
