use mathlib.Core.List.{[]}
use Rattle.regexp.proofs.Loops.{past_hat, table_turn, table_bad}
use Rattle.regexp.proofs.next_branch.Goals as goal

pub returns-in_err-made : goal.returns-in_err-made
returns-in_err-made c =
    let a = c.args in
    let q = past_hat a.text.now a.i a.first c.hat-h.result c.from.result c.hat-h.ensures c.from.ensures in
    let e = (rw c.in_err-made.was at c.branch-text.ensures) in
    rw c.from_residual.ensures (table_bad a.text.now a.i a.first c.hat-h.result c.hat-h.ensures _ q [] [] e)

pub returns : goal.returns
returns c =
    let a = c.args in
    let q = past_hat a.text.now a.i a.first c.hat-h.result c.from.result c.hat-h.ensures c.from.ensures in
    let e = (rw c.in_ok-made.was at c.branch-text.ensures) in
    table_turn a.text.now a.i a.first c.hat-h.result c.hat-h.ensures _ q _ _ c.in_ok-made.made e c.behind.result c.behind.ensures
