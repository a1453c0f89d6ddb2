use borrow.Author.Rules.{rules}
use Rattle.automaton.specs.Table.{sort}
use Rattle.automaton.proofs.sort.Goals as goal

pub returns : goal.returns
unfolding sort
returns c = search rules
