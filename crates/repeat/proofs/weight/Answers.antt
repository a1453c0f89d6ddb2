-- `repeat::weight` meets its contract: a checked run has at most 512 steps. Assumes nothing.
use native.Mathlib.Omega.{arith}
use Rattle.repeat.proofs.Small.{as_rank, few, is_weight}
use Rattle.repeat.proofs.weight.Goals as goal

pub overflow_mul-result-2 : goal.overflow_mul-result-2
overflow_mul-result-2 c =
    omega (arith, few c.args.table.now c.args.notice.now c.requires.0 c.run_whole-ran.result c.run_whole-ran.ensures)

pub overflow_add-result : goal.overflow_add-result
overflow_add-result c =
    omega (arith, few c.args.table.now c.args.notice.now c.requires.0 c.run_whole-ran.result c.run_whole-ran.ensures)

pub overflow_add-result-2 : goal.overflow_add-result-2
overflow_add-result-2 c =
    omega (arith, few c.args.table.now c.args.notice.now c.requires.0 c.run_whole-ran.result c.run_whole-ran.ensures, (as_rank c.run_whole-ran.result.verdict).1)

pub returns : goal.returns
returns c =
    let m = few c.args.table.now c.args.notice.now c.requires.0 c.run_whole-ran.result c.run_whole-ran.ensures in
    let k = as_rank c.run_whole-ran.result.verdict in
    (is_weight c.args.table.now c.args.notice.now c.requires.0 c.run_whole-ran.result c.run_whole-ran.ensures _ k.0, omega (arith, m, k.1))
