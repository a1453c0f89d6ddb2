use mathlib.Core.Path.{ap, ap₂, ◌∙◌}
use Prim.Native.Nat.{ℕ}
use Rattle.truth.specs.declared.Truth.TheVariants.{Bottom}
use Rattle.record.specs.Line.{notice_line}
use Rattle.session.specs.Session.{ran_line}
use Rattle.decimal.proofs.Laws.{renamed}
use Rattle.session.proofs.put_verdict.Goals as goal

pub returns-in-Ok : goal.returns-in-Ok
returns-in-Ok c =
    (renamed (ap ran_line c.in-Ok.ensures) c.put_notice_line.ensures.0, c.put_notice_line.ensures.1)

pub returns-in-Err : goal.returns-in-Err
returns-in-Err c =
    let p = c.put_notice_line-in-Err.ensures in
    (renamed (ap₂ (λ (n place : ℕ). notice_line n Bottom 0 place 65535) c.number.ensures c.place.ensures ∙ ap ran_line c.in-Err.ensures) p.0, p.1)
