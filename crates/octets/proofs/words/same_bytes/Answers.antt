use mathlib.Core.Path.{refl, sym, ◌∙◌}
use native.Mathlib.Omega.{arith}
use denote.Param.{number}
use Rattle.octets.specs.Octets.{fold}
use Rattle.octets.specs.contracts.words.same_bytes.{S-type}
use Rattle.octets.proofs.Laws.{same_more, same_stop, same_end}
use Rattle.octets.proofs.words.same_bytes.Goals as goal

pub loop-i-init : goal.loop-i-init
loop-i-init g c = refl

pub returns-then-fold : goal.returns-then-fold
returns-then-fold g c =
    let a = c.args in
    let l = c.loop-i in
    same_stop (fold (S-type (number g.row.S))) (fold a.t_mark) a.s.now a.t.now l.i (omega arith) (omega arith)
    (λ e. c.if-fold.true (c.fold.ensures ∙ e ∙ sym c.fold-in-loop-i.ensures)) ∙ l.invariant

pub loop-i-preserved : goal.loop-i-preserved
loop-i-preserved g c =
    let a = c.args in
    let l = c.loop-i in
    same_more (fold (S-type (number g.row.S))) (fold a.t_mark) a.s.now a.t.now l.i (omega arith) (omega arith)
    (sym c.fold.ensures ∙ c.if-fold.false ∙ c.fold-in-loop-i.ensures) ∙ l.invariant

pub returns : goal.returns
returns g c =
    let a = c.args in
    let l = c.loop-i in
    same_end (fold (S-type (number g.row.S))) (fold a.t_mark) a.s.now a.t.now l.i (omega arith) (omega arith) ∙ l.invariant
