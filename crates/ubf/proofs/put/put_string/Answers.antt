use native.Mathlib.Omega.{arith}
use mathlib.Core.List.{[], ◌∷◌, ◌++◌}
use Rattle.decimal.proofs.Laws.{joined}
use Rattle.ubf.specs.Escape.{escapes}
use Rattle.ubf.proofs.Laws.{length_string}
use Rattle.ubf.proofs.put.put_string.Goals as goal

pub put_inside-b-requires : goal.put_inside-b-requires
put_inside-b-requires c = omega (arith, length_string c.args.s.now, c.put_byte-a.ensures.next)

pub put_byte-requires : goal.put_byte-requires
put_byte-requires c = omega (arith, length_string c.args.s.now, c.put_byte-a.ensures.next, c.put_inside-b.ensures.next)

pub returns : goal.returns
returns c =
    let e = escapes 34 c.args.s.now in joined (34 ∷ []) (e ++ (34 ∷ [])) c.put_byte-a.ensures (joined e (34 ∷ []) c.put_inside-b.ensures c.put_byte.ensures)
