use native.Mathlib.Omega.{arith}
use Rattle.table.proofs.Laid.{laid, inside}
use Rattle.table.proofs.Theorems.{checked_layout}
use Rattle.table_test.proofs.put_table.Goals as goal

pub count-i-end-requires : goal.count-i-end-requires
count-i-end-requires g c = (laid c.args.table.now (checked_layout c.args.table.now c.requires)).head

pub entry_at-e-requires : goal.entry_at-e-requires
entry_at-e-requires g c =
    inside c.args.table.now (checked_layout c.args.table.now c.requires) c.loop-i.i (omega (arith, c.count-i-end.ensures.0))

pub pool-requires : goal.pool-requires
pool-requires g c =
    let l = laid c.args.table.now (checked_layout c.args.table.now c.requires) in
    (l.head, omega arith)
