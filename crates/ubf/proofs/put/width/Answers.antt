use mathlib.Core.Path.{◌≡◌, sym, ◌∙◌}
use mathlib.Core.Bool.{true, false}
use native.Mathlib.Omega.{arith}
use Rattle.ubf.specs.Escape.{needs_escape}
use Rattle.ubf.proofs.Laws.{wide, narrow}
use Rattle.ubf.proofs.put.width.Goals as goal

pub returns-then-needs_escape : goal.returns-then-needs_escape
returns-then-needs_escape c =
    let e : needs_escape 34 c.args.b ≡ true = sym c.needs_escape.ensures ∙ c.if-needs_escape.true in (wide c.args.b e, omega arith)

pub returns-else-needs_escape : goal.returns-else-needs_escape
returns-else-needs_escape c =
    let e : needs_escape 34 c.args.b ≡ false = sym c.needs_escape.ensures ∙ c.if-needs_escape.false in (narrow c.args.b e, omega arith)
