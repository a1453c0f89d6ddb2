use Rattle.automaton.specs.Table.{hits}
use mathlib.Core.Path.{sym, ◌∙◌}
use mathlib.Core.Bool.{and-false}
use Rattle.automaton.proofs.Pass.{and_t}
use Rattle.automaton.proofs.hit_if.Goals as goal

pub returns-then-enter : goal.returns-then-enter
returns-then-enter c = rw c.if-enter.true (c.hits.ensures ∙ sym (and_t _))

pub returns : goal.returns
returns c = rw c.if-enter.false (sym (and-false (hits c.args.text.now c.args.kind c.args.at c.args.c)))
