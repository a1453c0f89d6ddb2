use native.Mathlib.Omega.{arith}
use mathlib.Core.List.{[], ◌∷◌, ◌++◌}
use Rattle.record.specs.Line.{spaced, verdict_of, line_end}
use Rattle.decimal.proofs.Laws.{joined}
use Rattle.record.proofs.put_notice_line.Goals as goal

pub returns : goal.returns
returns c =
    let a = c.args in
    let x = spaced a.number in
    let v = verdict_of a.verdict in
    let y = spaced a.steps in
    let z = spaced a.place in
    let u = spaced a.undecided in (
      joined (78 ∷ []) (x ++ (v ++ (y ++ (z ++ (u ++ line_end))))) c.put_byte-a.ensures
          (joined x (v ++ (y ++ (z ++ (u ++ line_end)))) c.put_number-b.ensures.0
          (joined v (y ++ (z ++ (u ++ line_end))) c.put_verdict-c.ensures.0
          (joined y (z ++ (u ++ line_end)) c.put_number-d.ensures.0
          (joined z (u ++ line_end) c.put_number-e.ensures.0
          (joined u line_end c.put_number-f.ensures.0 c.put_byte.ensures))))),
      omega arith,
    )
