use mathlib.Core.Path.{◌∙◌}
use Rattle.postfix.proofs.Forms.{form_same}
use Rattle.postfix.proofs.part.call_known.Goals as goal

pub returns : goal.returns
returns c =
    (c.new.ensures.0 ∙ rw (c.gives_logic.ensures, c.forms.ensures, c.call_right-right.ensures, form_same c.form.result c.form.ensures, c.count.ensures.0, c.logic.ensures, c.kinds.ensures, c.call_form.ensures, c.depth.ensures.0), c.new.ensures.1)
