use native.Mathlib.Omega.{arith}
use Rattle.regexp.proofs.Simple.{easy_some}
use Rattle.regexp.proofs.easy.Goals as goal

pub returns-then-i-text : goal.returns-then-i-text
returns-then-i-text c =
    let a = c.args in
    easy_some a.text.now a.i a.some c.is_plain.result c.is_repeat.result (omega arith) c.is_plain.ensures c.is_repeat.ensures
