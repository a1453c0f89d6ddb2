use mathlib.Core.Path.{◌∙◌}
use native.Mathlib.Omega.{arith}
use lib.ListN.{length}
use Rattle.octets.specs.Octets.{fold}
use Rattle.automaton.specs.Table.{tokens_of}
use Rattle.automaton.specs.Word.{cells_in, ended_in}
use Rattle.automaton.proofs.Value.{seen, over}
use Rattle.automaton.proofs.Word.{word_on}
use Rattle.automaton.proofs.walk_word.Goals as goal

pub returns-then-ef-w : goal.returns-then-ef-w
returns-then-ef-w c =
    let a = c.args in
    let l = c.loop-i in
    seen (tokens_of a.text.now a.kinds.now a.args.now) a.sf a.ef a.empty (fold a.mark) a.value.now (cells_in (length a.kinds.now) l.w) (ended_in l.w) l.k l.i (omega arith) c.if-ef-w.true ∙ l.invariant.1

pub loop-i-preserved : goal.loop-i-preserved
loop-i-preserved c =
    let a = c.args in
    let l = c.loop-i in
    (omega arith, word_on (tokens_of a.text.now a.kinds.now a.args.now) a.sf a.ef a.empty (fold a.mark) a.value.now (length a.kinds.now) l.w l.k l.i (omega arith) c.if-ef-w.false c.fold.result c.fold.ensures c.shift_word-w.result c.shift_word-w.ensures ∙ l.invariant.1)

pub returns : goal.returns
returns c =
    let a = c.args in
    let l = c.loop-i in
    over (tokens_of a.text.now a.kinds.now a.args.now) a.sf a.ef a.empty (fold a.mark) a.value.now (cells_in (length a.kinds.now) l.w) (ended_in l.w) l.k l.i (omega arith) ∙ l.invariant.1
