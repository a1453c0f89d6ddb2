use mathlib.Core.Path.{sym, refl, ◌∙◌}
use Rattle.operands.proofs.Marks.{op_none, op_some}
use Rattle.operands.proofs.Passes.{right_unasked, right_judged, right_other}
use Rattle.operands.proofs.right_at.Goals as goal

pub returns-in_default : goal.returns-in_default
returns-in_default c =
    let a = c.args in
    right_unasked a.text.now a.marks.now a.starts.now a.opens a.i (op_none _ (sym c.in_default.is ∙ c.function_by.ensures)) refl

pub returns-then-is_later : goal.returns-then-is_later
returns-then-is_later c =
    let a = c.args in
    right_judged a.text.now a.marks.now a.starts.now a.opens a.i (op_some _ _ c.in-Some.ensures) c.is_later.ensures c.if-is_later.true c.start.ensures c.literal_right.ensures

pub returns : goal.returns
returns c =
    let a = c.args in
    right_other a.text.now a.marks.now a.starts.now a.opens a.i c.is_later.ensures c.if-is_later.false
