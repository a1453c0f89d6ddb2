use native.Mathlib.Omega.{arith}
use mathlib.Core.List.{[], ◌∷◌, ◌++◌}
use Rattle.record.specs.Line.{spaced, line_end}
use Rattle.decimal.proofs.Laws.{joined}
use Rattle.record.proofs.put_kind_line.Goals as goal

pub returns : goal.returns
returns c =
    let k = spaced c.args.kind in (
      joined (88 ∷ []) (k ++ line_end) c.put_byte-a.ensures
          (joined k line_end c.put_number-b.ensures.0 c.put_byte.ensures),
      omega arith,
    )
