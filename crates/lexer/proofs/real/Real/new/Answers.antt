use mathlib.Core.Path.{◌∙◌}
use native.Mathlib.Omega.{arith}
use lib.Dec.{lit<, lit≤}
use Rattle.lexer.specs.Real.{whole_digits, fraction_digits}
use Rattle.lexer.proofs.Decimals.{after_point, point_fits, whole_parts}
use Rattle.lexer.proofs.real.Real.new.Goals as goal

pub overflow_add-whole : goal.overflow_add-whole
overflow_add-whole c = omega (arith, c.requires.0, point_fits c.args.run.now)

pub digits-all-requires : goal.digits-all-requires
digits-all-requires c = (lit< tt, lit≤ tt, omega (arith, c.requires.1))

pub invariant_of-result : goal.invariant_of-result
invariant_of-result c =
    let run = c.args.run.now in
    let p = c.requires in
    let e = rw (p.0, after_point run) at c.digits-all.ensures.0 in
    let f = rw (p.0, p.1, after_point run) at c.digits-all.ensures.1 in
    record { point_is = p.0; exponent_is = e; digits_are = f ∙ whole_parts 10 (whole_digits run) (fraction_digits run) (lit< tt) }
