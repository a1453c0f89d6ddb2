use mathlib.Core.Path.{◌∙◌}
use Rattle.postfix.proofs.part.binary_known.Goals as goal

pub returns : goal.returns
returns c =
    (c.new.ensures.0 ∙ rw (c.gives_logic.ensures, c.forms.ensures, c.forms-2.ensures, c.kinds.ensures, c.operand_right.ensures, c.logic.ensures, c.kinds-2.ensures, c.operand_right-2.ensures, c.logic-2.ensures, c.deeper.ensures.0, c.depth.ensures.0, c.depth-2.ensures.0), c.new.ensures.1)
