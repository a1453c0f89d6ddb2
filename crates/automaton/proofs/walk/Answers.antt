use mathlib.Core.Path.{◌∙◌}
use native.Mathlib.Omega.{arith}
use Rattle.octets.specs.Octets.{fold}
use Rattle.automaton.specs.Table.{tokens_of}
use Rattle.automaton.proofs.Value.{seen, onward, over}
use Rattle.automaton.proofs.walk.Goals as goal

pub returns-then-ef-fin : goal.returns-then-ef-fin
returns-then-ef-fin c =
    let a = c.args in
    let l = c.loop-i in
    seen (tokens_of a.text.now a.kinds.now a.args.now) a.sf a.ef a.empty (fold a.mark) a.value.now l.marks l.fin l.k l.i (omega arith) c.if-ef-fin.true ∙ l.invariant.2

pub loop-i-preserved : goal.loop-i-preserved
loop-i-preserved c =
    let a = c.args in
    let l = c.loop-i in
    (omega arith, c.marks-1.given ∙ l.invariant.1, onward (tokens_of a.text.now a.kinds.now a.args.now) a.sf a.ef a.empty (fold a.mark) a.value.now l.marks l.fin l.k l.i (omega arith) c.if-ef-fin.false c.fold.result c.fold.ensures _ c.shift-l.result c.shift-l.ensures ∙ l.invariant.2)

pub returns : goal.returns
returns c =
    let a = c.args in
    let l = c.loop-i in
    over (tokens_of a.text.now a.kinds.now a.args.now) a.sf a.ef a.empty (fold a.mark) a.value.now l.marks l.fin l.k l.i (omega arith) ∙ l.invariant.2
