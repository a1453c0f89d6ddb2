use Rattle.table.proofs.entry_at.Goals as goal

pub returns : goal.returns
returns c = rw (c.op_at.ensures, c.a_at.ensures, c.b_at.ensures)
