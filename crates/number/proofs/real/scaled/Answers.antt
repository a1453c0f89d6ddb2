use Rattle.std.proofs.Common.{◌^◌, arith, le→leb}
use lib.Ieee.{in_float}
use Rattle.number.proofs.real.scaled.Goals as goal

pub int_to_float-d : goal.int_to_float-d
unfolding in_float
int_to_float-d c = le→leb c.args.digits (2 ^ 53) (omega arith)

pub returns-then-down : goal.returns-then-down
returns-then-down c = let t = c.if-down.true in rw (c.ten_to-p.ensures, t)

pub returns : goal.returns
returns c = let t = c.if-down.false in rw (c.ten_to-p.ensures, t)
