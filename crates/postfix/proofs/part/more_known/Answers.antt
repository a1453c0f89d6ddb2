use native.Mathlib.Omega.{arith}
use Rattle.postfix.proofs.Forms.{form_same, number_chosen}
use Rattle.postfix.proofs.part.more_known.Goals as goal

pub returns : goal.returns
returns c =
    (rw (c.new-known.ensures.0, c.deeper.ensures.0, c.depth.ensures.0, c.depth-2.ensures.0, c.all_texts-texts.ensures, c.first_form-first.ensures, number_chosen c.count-count.result c.form-new.result c.form.result, c.form-new.ensures, c.form.ensures, form_same c.form-new.result c.form-new.ensures, c.count-count.ensures.0, c.logic.ensures, c.forms.ensures, c.forms-2.ensures, c.kinds.ensures, c.kinds-2.ensures, c.logic-2.ensures), omega (arith, c.new-known.ensures.1, c.count-count.ensures.1))
