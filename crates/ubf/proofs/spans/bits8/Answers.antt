use native.Mathlib.Omega.{arith}
use Rattle.ubf.proofs.Numbers.{bits8_low, bits8_minus, bits8_plain}
use Rattle.ubf.proofs.spans.bits8.Goals as goal

pub overflow_add-result : goal.overflow_add-result
overflow_add-result c = omega (arith, bits8_low c.args.negative c.args.n c.requires c.if-negative-n.true)

pub returns-then-negative-n : goal.returns-then-negative-n
returns-then-negative-n c = bits8_minus c.args.negative c.args.n c.requires c.if-negative-n.true

pub returns : goal.returns
returns c = bits8_plain c.args.negative c.args.n c.if-negative-n.false
