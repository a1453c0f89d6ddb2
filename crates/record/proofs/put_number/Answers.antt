use native.Mathlib.Omega.{arith}
use mathlib.Core.List.{[], ◌∷◌}
use Rattle.decimal.specs.Decimal.{decimal_of}
use Rattle.decimal.proofs.Laws.{joined, twenty}
use Rattle.record.proofs.put_number.Goals as goal

pub put_decimal-requires : goal.put_decimal-requires
put_decimal-requires c = omega (arith, twenty c.args.n c.ranges.n.fits)

pub returns : goal.returns
returns c =
    (joined (32 ∷ []) (decimal_of c.args.n) c.put_byte-next.ensures c.put_decimal.ensures.0, omega arith)
