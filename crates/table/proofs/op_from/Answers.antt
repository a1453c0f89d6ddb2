use mathlib.Core.Path.{ap, ◌∙◌}
use Rattle.word.specs.Word.{word_at}
use Rattle.table.proofs.op_from.Goals as goal

pub returns : goal.returns
returns c = λ i e. c.read_u16.ensures ∙ ap (word_at 2 c.args.table.now) e
