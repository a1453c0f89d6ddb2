use Rattle.std.proofs.Common.{◌∙◌}
use Rattle.number.proofs.Literals.{nan_is, many_digits, far_exponent}
use Rattle.number.proofs.real.decimal.Goals as goal
use Rattle.number.proofs.real.decimal.Goals.{then-digits-gt999999999999999-via-then-digits-gt999999999999999, then-digits-gt999999999999999-via-else-digits-gt999999999999999+then-exponent-gt22}

pub returns-then-digits-gt999999999999999 : goal.returns-then-digits-gt999999999999999
returns-then-digits-gt999999999999999 c =
    let d = c.args.digits in let e = c.args.exponent in
    elim c.then-digits-gt999999999999999.branch [
      | then-digits-gt999999999999999-via-then-digits-gt999999999999999 w ↦ nan_is ∙ many_digits d e c.args.down c.args.negative w.if-digits-gt999999999999999.true
      | then-digits-gt999999999999999-via-else-digits-gt999999999999999+then-exponent-gt22 w ↦ nan_is ∙ far_exponent d e c.args.down c.args.negative w.if-exponent-gt22.true
    ]
