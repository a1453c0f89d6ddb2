use mathlib.Core.Path.{◌∙◌}
use native.Mathlib.Omega.{arith}
use Rattle.octets.specs.Octets.{fold}
use Rattle.automaton.specs.Table.{tokens_of}
use Rattle.automaton.proofs.Value.{seen, over}
use Rattle.automaton.proofs.Large.{plain_on}
use Rattle.automaton.proofs.walk_plain.Goals as goal

pub returns-then-ef-fin : goal.returns-then-ef-fin
returns-then-ef-fin c =
    let a = c.args in
    let l = c.loop-c in
    seen (tokens_of a.text.now a.kinds.now a.args.now) a.sf a.ef a.empty (fold a.mark) a.value.now l.marks l.fin l.k l.c-index (omega arith) c.if-ef-fin.true ∙ l.invariant.3

pub loop-c-preserved : goal.loop-c-preserved
loop-c-preserved c =
    let a = c.args in
    let l = c.loop-c in
    let p = c.shift_plain-l in
    (omega (arith, c.loop-c-test), c.marks-1.given ∙ l.invariant.1, p.ensures.1, plain_on (tokens_of a.text.now a.kinds.now a.args.now) a.sf a.ef a.empty (fold a.mark) a.value.now l.marks l.fin l.k l.c-index (omega (arith, c.loop-c-test)) c.if-ef-fin.false c.fold.result c.fold.ensures _ p.result p.ensures ∙ l.invariant.3)

pub returns : goal.returns
returns c =
    let a = c.args in
    let l = c.loop-c in
    over (tokens_of a.text.now a.kinds.now a.args.now) a.sf a.ef a.empty (fold a.mark) a.value.now l.marks l.fin l.k l.c-index (omega arith) ∙ l.invariant.3
