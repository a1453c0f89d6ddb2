use borrow.Author.Rules.{rules}
use Rattle.automaton.specs.Table.{absent}
use Rattle.automaton.proofs.absent.Goals as goal

pub returns : goal.returns
unfolding absent
returns c = search rules
