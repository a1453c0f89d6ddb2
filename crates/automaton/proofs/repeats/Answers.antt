use borrow.Author.Rules.{rules}
use Rattle.automaton.specs.Table.{repeats}
use Rattle.automaton.proofs.repeats.Goals as goal

pub returns : goal.returns
unfolding repeats
returns c = search rules
