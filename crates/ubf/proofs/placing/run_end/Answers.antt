use native.Mathlib.Omega.{arith}
use Rattle.ubf.proofs.placing.run_end.Goals as goal

pub returns-then-at-n : goal.returns-then-at-n
returns-then-at-n c =
    let r = c.plain_to-end.ensures in (omega arith, omega arith, λ i l h. r.plain i l (omega (arith, c.if-at-n.true)))
