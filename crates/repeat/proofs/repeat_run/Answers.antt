-- `repeat::repeat_run` meets its contract: 0 where a check fails, else the sum. Assumes nothing.
use mathlib.Core.Path.{refl, sym, ◌∙◌}
use Rattle.interpreter.proofs.Answers.{indexed}
use Rattle.repeat.proofs.Small.{nothing, no_notice, whole}
use Rattle.repeat.proofs.repeat_run.Goals as goal

pub returns-then-not-check : goal.returns-then-not-check
returns-then-not-check c =
    let a = c.args in
    nothing a.table.now a.notice.now a.times (sym c.check.ensures ∙ c.if-not-check.true)

pub sum-requires : goal.sum-requires
sum-requires c =
    let well = sym c.index-layout.ensures.value ∙ c.in-Ok.is in
    (sym c.check.ensures ∙ c.if-not-check.false, well, indexed _ _ _ refl well c.index-layout.ensures.starts_after refl)

pub returns-in-Ok : goal.returns-in-Ok
returns-in-Ok c =
    c.sum.ensures ∙ whole c.args.table.now c.args.notice.now c.args.times (sym c.check.ensures ∙ c.if-not-check.false) (sym c.index-layout.ensures.value ∙ c.in-Ok.is)

pub returns-in-Err : goal.returns-in-Err
returns-in-Err c =
    no_notice c.args.table.now c.args.notice.now c.args.times _ (sym c.check.ensures ∙ c.if-not-check.false) (sym c.index-layout.ensures.value ∙ c.in-Err.is)
