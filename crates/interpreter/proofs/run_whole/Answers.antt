-- `interpreter::run_whole` meets its contract: the last machine has one slot. Assumes nothing.
use Rattle.table.specs.Table.{pool_of}
use Rattle.table.proofs.Theorems.{checked_layout}
use Rattle.table.proofs.Laid.{laid}
use Rattle.interpreter.proofs.Answers.{answer_is}
use Rattle.interpreter.proofs.run_whole.Goals as goal

pub count-n-requires : goal.count-n-requires
count-n-requires c = (laid c.args.table.now (checked_layout _ c.requires.0)).head

pub returns : goal.returns
returns c =
    answer_is c.args.table.now c.args.notice.now c.run_indexed-m.result c.count-n.result c.requires.0 c.count-n.ensures.0 c.run_indexed-m.ensures
    c.truth_in-verdict.result (c.truth_in-verdict.ensures (pool_of c.args.table.now) c.args.notice.now)
