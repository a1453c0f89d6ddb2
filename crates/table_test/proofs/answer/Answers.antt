use mathlib.Core.Path.{sym, ◌∙◌}
use Rattle.table_test.proofs.answer.Goals as goal

pub put_table-requires : goal.put_table-requires
put_table-requires g c = sym c.check.ensures ∙ c.if-check.true
