use mathlib.Core.Path.{◌∙◌}
use Rattle.postfix.proofs.part.unary_known.Goals as goal

pub returns : goal.returns
returns c =
    (c.new.ensures.0 ∙ rw (c.gives_logic.ensures, c.forms.ensures, c.kinds.ensures, c.operand_right.ensures, c.logic.ensures, c.depth.ensures.0), c.new.ensures.1)
