use native.Mathlib.Omega.{arith}
use mathlib.Core.List.{[], ◌∷◌, ◌++◌}
use Rattle.record.specs.Line.{spaced, line_end}
use Rattle.decimal.proofs.Laws.{joined}
use Rattle.record.proofs.put_text_line.Goals as goal

pub returns : goal.returns
returns c =
    let a = c.args in
    let x = spaced a.number in
    let y = spaced a.place in
    let z = spaced a.len in (
      joined (83 ∷ []) (x ++ (y ++ (z ++ line_end))) c.put_byte-a.ensures
          (joined x (y ++ (z ++ line_end)) c.put_number-b.ensures.0
          (joined y (z ++ line_end) c.put_number-c.ensures.0
          (joined z line_end c.put_number-d.ensures.0 c.put_byte.ensures))),
      omega arith,
    )
