use Rattle.pattern.proofs.Items.{item_ends, item_bad, ends_well}
use native.Mathlib.Omega.{arith}
use mathlib.Core.Path.{sym, ◌∙◌}
use Rattle.pattern.proofs.wildcard.well_formed.Goals as goal

pub returns-in_default : goal.returns-in_default
returns-in_default c =
    let a = c.args in
    let l = c.loop-i in
    item_bad a.p.now l.i (omega arith) (sym c.in_default.is ∙ c.item_end.ensures) ∙ l.invariant

pub loop-i-preserved : goal.loop-i-preserved
loop-i-preserved c =
    let a = c.args in
    let l = c.loop-i in
    let w = item_ends a.p.now l.i (omega arith) c.in-Some.next (sym c.in-Some.is ∙ c.item_end.ensures) in
    w.0 ∙ l.invariant

pub returns : goal.returns
returns c =
    let a = c.args in
    let l = c.loop-i in
    ends_well a.p.now l.i (omega arith) ∙ l.invariant
