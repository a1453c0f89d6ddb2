use Rattle.ubf.proofs.Numbers.{bits4_low, bits4_minus, bits4_plain}
use Rattle.ubf.proofs.spans.bits4.Goals as goal

pub overflow_sub-result : goal.overflow_sub-result
overflow_sub-result c = bits4_low c.args.negative c.args.n c.requires

pub returns-then-negative-n : goal.returns-then-negative-n
returns-then-negative-n c = bits4_minus c.args.negative c.args.n c.if-negative-n.true

pub returns : goal.returns
returns c = bits4_plain c.args.negative c.args.n c.requires c.if-negative-n.false
