-- `add` meets its contract: what `judge` answers, and the new record after the others if nothing is refused. Assumes nothing.
use Rattle.std.proofs.Common.{sym, ap, ◌∙◌}
use Rattle.store.specs.Calls.{Added}
use Rattle.store.proofs.Answers.{appendable, number_is}
use Rattle.store.proofs.add.Goals as goal

pub append-requires : goal.append-requires
append-requires c =
    let a = c.args in
    let j = c.in_ok-number.ensures in
    let z = sym (ap (λ (x : Added). x.refusal) j) in
    let n = ap (λ (x : Added). x.number) j ∙ number_is a.store.now a.table.now z in
    rw (sym n) at (appendable a.store.now a.table.now z)
