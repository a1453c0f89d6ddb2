use Rattle.std.proofs.lemmas.Result.{err_from_is_err_and}
use native.Mathlib.Omega.{arith}
use mathlib.Core.Path.{sym, ◌∙◌}
use lib.ListN.{length}
use Rattle.translator.proofs.Answering.{first_refused, count_few, entries_few, coded, front_as}
use Rattle.translator.proofs.expression.Goals as goal

pub returns-in_err-judged : goal.returns-in_err-judged
returns-in_err-judged c =
    let p = err_from_is_err_and c.from_residual.result c.from_residual.ensures.1 in
    rw (p.1, p.2) (first_refused c.args.operands.bytes c.requires.3 c.args.edition (length c.args.buffer.now) c.judged.ensures c.in_err-judged.was)

pub pool_length-pool-requires : goal.pool_length-pool-requires
pool_length-pool-requires c =
    count_few c.args.operands.bytes c.requires.3 (sym c.judged.ensures ∙ c.in_ok-judged.was)

pub slice_bounds-coded-end : goal.slice_bounds-coded-end
slice_bounds-coded-end c =
    omega (arith, entries_few c.args.operands.bytes c.requires.3 (sym c.judged.ensures ∙ c.in_ok-judged.was) c.requires.2)

pub coded-requires : goal.coded-requires
coded-requires c =
    coded c.args.operands.bytes c.requires.3 (sym c.judged.ensures ∙ c.in_ok-judged.was) c.requires.0 c.requires.1 c.requires.2 c.pool_length-pool.ensures (front_as c.args.j.entries c.args.codes.now)

pub returns : goal.returns
returns c = c.coded.ensures
