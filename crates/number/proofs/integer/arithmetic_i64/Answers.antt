use Rattle.std.proofs.Common.{false, ap, ◌∙◌, lit<, lit≤, w64}
use mir.Syntax.{w128}
use Rattle.number.specs.Number.{typed}
use Rattle.number.proofs.Integers.{product_read}
use Rattle.number.proofs.integer.arithmetic_i64.Goals as goal

pub returns-in-Mul : goal.returns-in-Mul
returns-in-Mul c = let e = c.in-Mul.is in rw e (c.wide.ensures ∙ ap (typed false) (product_read w64 w128 (lit< tt) (lit≤ tt) c.args.a c.args.b c.ranges.a c.ranges.b))
