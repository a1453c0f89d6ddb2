use lib.ListN.{length}
use native.Mathlib.Omega.{arith}
use mathlib.Core.List.{[], ◌∷◌, ◌++◌}
use Rattle.decimal.specs.Decimal.{decimal_of}
use Rattle.decimal.proofs.Laws.{joined}
use Rattle.ubf.proofs.Laws.{length_binary}
use Rattle.ubf.proofs.writing.put_binary.Goals as goal

pub put_decimal-a-requires : goal.put_decimal-a-requires
put_decimal-a-requires c = omega (arith, length_binary c.args.value.now)

pub put_byte-b-requires : goal.put_byte-b-requires
put_byte-b-requires c = omega (arith, length_binary c.args.value.now, c.put_decimal-a.ensures.0.next)

pub put_bytes-c-requires : goal.put_bytes-c-requires
put_bytes-c-requires c =
    omega (arith, length_binary c.args.value.now, c.put_decimal-a.ensures.0.next, c.put_byte-b.ensures.next)

pub put_byte-requires : goal.put_byte-requires
put_byte-requires c =
    omega (arith, length_binary c.args.value.now, c.put_decimal-a.ensures.0.next, c.put_byte-b.ensures.next, c.put_bytes-c.ensures.next)

pub returns : goal.returns
returns c =
    let v = c.args.value.now in joined (decimal_of (length v)) (126 ∷ (v ++ (126 ∷ []))) c.put_decimal-a.ensures.0 (joined (126 ∷ []) (v ++ (126 ∷ [])) c.put_byte-b.ensures (joined v (126 ∷ []) c.put_bytes-c.ensures c.put_byte.ensures))
