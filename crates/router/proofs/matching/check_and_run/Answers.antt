-- `router::matching::check_and_run` meets its contract: the check's refusal, or the answers of the run and of the runner. Assumes nothing.
use mathlib.Core.Path.{sym, ap, ap₂, ◌∙◌}
use Rattle.interpreter.specs.Running.{RunAnswer}
use Rattle.interpreter.proofs.Answers.{ran_checked}
use Rattle.router.specs.Demand.{refused as refusedWith}
use Rattle.router.proofs.Demand.{check_refused, check_run, check_unrun}
use Rattle.router.proofs.matching.check_and_run.Goals as goal

pub returns-then-not-check : goal.returns-then-not-check
returns-then-not-check c =
    let a = c.args in
    check_refused a.table.now a.notice.now a.visits c.refused.result (sym c.check.ensures ∙ c.if-not-check.true) c.refused.ensures

pub run_checked-requires : goal.run_checked-requires
run_checked-requires c =
    (ran_checked c.args.table.now c.args.notice.now (sym (ap (λ (x : RunAnswer). x.number) c.in-Ok.ensures)), c.requires)

pub returns-in-Ok : goal.returns-in-Ok
returns-in-Ok c =
    let a = c.args in
    check_run a.table.now a.notice.now a.visits c.in-Ok.ran c.run_checked.result c.in-Ok.ensures c.run_checked.ensures

pub returns-in-Err : goal.returns-in-Err
returns-in-Err c =
    let a = c.args in
    check_unrun a.table.now a.notice.now a.visits c.in-Err.r c.refused-in-Err.result c.requires c.in-Err.ensures
    (c.refused-in-Err.ensures ∙ ap₂ refusedWith c.number.ensures c.place.ensures)
