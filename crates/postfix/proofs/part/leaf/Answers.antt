use mathlib.Core.Path.{refl, sym, ◌∙◌}
use Rattle.postfix.proofs.part.leaf.Goals as goal

pub returns-then-not-is_operand : goal.returns-then-not-is_operand
returns-then-not-is_operand c = rw (sym c.is_operand.ensures ∙ c.if-not-is_operand.true) (c.broken_at.ensures, refl)

pub returns : goal.returns
returns c =
    rw (sym c.is_operand.ensures ∙ c.if-not-is_operand.false, ← c.code_of.ensures, ← c.leaf_form.ensures, ← c.new.ensures.0) (c.new-2.ensures, c.leave.ensures)
