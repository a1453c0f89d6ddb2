-- `session::run_last` meets its contract: a table that is not empty passes the check. Assumes nothing.
use Rattle.session.proofs.Kept.{passes}
use Rattle.session.proofs.run_last.Goals as goal

pub returns-then-table-eq0 : goal.returns-then-table-eq0
returns-then-table-eq0 c = c.run.ensures

pub run_kept-requires : goal.run_kept-requires
run_kept-requires c = passes c.args.table.now c.requires c.if-table-eq0.false

pub returns : goal.returns
returns c = c.run_kept.ensures
