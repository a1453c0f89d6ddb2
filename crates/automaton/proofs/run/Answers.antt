use Rattle.octets.specs.Octets.{folded}
use Rattle.automaton.specs.Table.{tokens_of}
use Rattle.automaton.proofs.Value.{ran}
use Rattle.automaton.proofs.run.Goals as goal

pub returns : goal.returns
returns c =
    let a = c.args in
    ran (tokens_of a.text.now a.kinds.now a.args.now) a.marks.now _ c.shift-l.result a.sf a.ef _ (folded a.mark a.value.now) c.shift-l.ensures c.walk.ensures
