use mathlib.Core.Path.{sym, ap, ◌∙◌}
use mathlib.Core.Bool.{not}
use Rattle.operands.proofs.Theorems.{none_asked}
use Rattle.translator.proofs.read.patterns_right.Goals as goal

pub returns-then-not-asked : goal.returns-then-not-asked
returns-then-not-asked c =
    let a = c.args in
    ap not c.if-not-asked.true ∙ sym (none_asked a.text.now a.marks.now a.starts.now (sym c.requires.2 ∙ c.if-not-asked.true))
