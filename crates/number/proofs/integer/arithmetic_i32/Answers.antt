use Rattle.std.proofs.Common.{true, ap, ◌∙◌, lit<, lit≤, w32, w64}
use Rattle.number.specs.Number.{typed}
use Rattle.number.proofs.Integers.{product_read}
use Rattle.number.proofs.integer.arithmetic_i32.Goals as goal

pub returns-in-Mul : goal.returns-in-Mul
returns-in-Mul c = let e = c.in-Mul.is in rw e (c.narrow.ensures ∙ ap (typed true) (product_read w32 w64 (lit< tt) (lit≤ tt) c.args.a c.args.b c.ranges.a c.ranges.b))
