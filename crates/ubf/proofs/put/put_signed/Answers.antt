use lib.ListN.{length}
use mathlib.Core.Path.{sym, ap}
use native.Mathlib.Omega.{arith}
use mathlib.Core.List.{[], ◌∷◌}
use Rattle.decimal.specs.Decimal.{decimal_of}
use Rattle.decimal.proofs.Laws.{joined, renamed}
use Rattle.ubf.proofs.Laws.{sign_true, sign_false}
use Rattle.ubf.proofs.put.put_signed.Goals as goal

pub put_byte-next-requires : goal.put_byte-next-requires
put_byte-next-requires c = let e = sign_true c.args.s c.if-s.true in omega (arith, ap length e)

pub put_decimal-requires : goal.put_decimal-requires
put_decimal-requires c = let e = sign_true c.args.s c.if-s.true in omega (arith, ap length e, c.put_byte-next.ensures.next)

pub returns-then-s : goal.returns-then-s
returns-then-s c =
    renamed (sym (sign_true c.args.s c.if-s.true)) (joined (45 ∷ []) (decimal_of c.args.s.size) c.put_byte-next.ensures c.put_decimal.ensures.0)

pub put_decimal-requires-2 : goal.put_decimal-requires-2
put_decimal-requires-2 c = let e = sign_false c.args.s c.if-s.false in omega (arith, ap length e)

pub returns : goal.returns
returns c = renamed (sym (sign_false c.args.s c.if-s.false)) c.put_decimal-2.ensures.0
