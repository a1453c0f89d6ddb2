use mathlib.Core.Path.{sym, ◌∙◌}
use native.Mathlib.Omega.{arith}
use Rattle.table.proofs.Laid.{laid}
use Rattle.table.proofs.Theorems.{checked_layout}
use Rattle.table.proofs.Parts.{parts_unchecked, parts_past, parts_there}
use Rattle.table.proofs.parts_of.Goals as goal

pub returns-then-not-check : goal.returns-then-not-check
returns-then-not-check c =
    let a = c.args in sym (parts_unchecked a.table.now a.k (sym c.check.ensures ∙ c.if-not-check.true))

pub count-requires : goal.count-requires
count-requires c = let t = c.args.table.now in (laid t (checked_layout t (sym c.check.ensures ∙ c.if-not-check.false))).head

pub returns-then-count-k : goal.returns-then-count-k
returns-then-count-k c =
    let a = c.args in sym (parts_past a.table.now a.k (sym c.check.ensures ∙ c.if-not-check.false) (omega (arith, c.count.ensures.0)))

pub parts_at-requires : goal.parts_at-requires
parts_at-requires c = (sym c.check.ensures ∙ c.if-not-check.false, omega (arith, c.count.ensures.0))

pub returns : goal.returns
returns c =
    let a = c.args in c.parts_at.ensures ∙ sym (parts_there a.table.now a.k (sym c.check.ensures ∙ c.if-not-check.false) (omega (arith, c.count.ensures.0)))
