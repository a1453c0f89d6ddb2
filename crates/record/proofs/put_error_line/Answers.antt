use native.Mathlib.Omega.{arith}
use mathlib.Core.List.{[], ◌∷◌}
use Rattle.record.specs.Line.{line_end}
use Rattle.decimal.proofs.Laws.{joined}
use Rattle.record.proofs.put_error_line.Goals as goal

pub returns : goal.returns
returns c = (joined (69 ∷ []) line_end c.put_byte-a.ensures c.put_byte.ensures, omega arith)
