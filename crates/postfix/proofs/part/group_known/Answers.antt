use mathlib.Core.Path.{◌∙◌}
use Rattle.postfix.proofs.part.group_known.Goals as goal

pub returns : goal.returns
returns c =
    (c.new.ensures.0 ∙ rw (c.logic.ensures, c.forms.ensures, c.kinds.ensures, c.depth.ensures.0), c.new.ensures.1)
