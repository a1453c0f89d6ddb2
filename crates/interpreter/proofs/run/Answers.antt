-- `interpreter::run` meets its contract: 12, then the answer of the kept table's run. Assumes nothing.
use mathlib.Core.Path.{sym, ◌∙◌}
use Rattle.interpreter.proofs.Answers.{table_refused}
use Rattle.interpreter.proofs.run.Goals as goal

pub returns-then-not-check : goal.returns-then-not-check
returns-then-not-check c =
    let a = c.args in
    table_refused a.table.now a.notice.now (sym c.check.ensures ∙ c.if-not-check.true)

pub run_kept-requires : goal.run_kept-requires
run_kept-requires c = sym c.check.ensures ∙ c.if-not-check.false

pub returns : goal.returns
returns c = c.run_kept.ensures
