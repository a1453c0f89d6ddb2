use borrow.Author.Rules.{rules}
use Rattle.automaton.specs.Table.{outside}
use Rattle.automaton.proofs.outside.Goals as goal

pub returns : goal.returns
unfolding outside
returns c = search rules
