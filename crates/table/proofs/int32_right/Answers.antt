use Rattle.table.proofs.int32_right.Goals as goal

pub returns : goal.returns
returns c = rw c.in_range.ensures
