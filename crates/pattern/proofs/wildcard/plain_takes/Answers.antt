use Rattle.pattern.proofs.Items.{plain_past, plain_hit, plain_miss}
use native.Mathlib.Omega.{arith}
use mathlib.Core.Path.{sym, ◌∙◌}
use Rattle.pattern.proofs.wildcard.plain_takes.Goals as goal
use Rattle.pattern.proofs.wildcard.plain_takes.Goals.{else-i-p-via-then-i-p+else-fold-c, else-i-p-via-else-i-p}

pub returns-then-fold-c : goal.returns-then-fold-c
returns-then-fold-c c =
    let a = c.args in
    plain_hit a.mark a.p.now a.i a.c (omega arith) (sym c.fold.ensures ∙ c.if-fold-c.true)

pub returns : goal.returns
returns c =
    let a = c.args in
    elim c.else-i-p.branch [
      | else-i-p-via-then-i-p+else-fold-c w ↦ plain_miss a.mark a.p.now a.i a.c (omega (arith, w.if-i-p)) (λ e. w.if-fold-c.false (w.fold.ensures ∙ e))
      | else-i-p-via-else-i-p w ↦ plain_past a.mark a.p.now a.i a.c (omega (arith, w.if-i-p))
    ]
