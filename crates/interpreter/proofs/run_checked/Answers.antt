-- `interpreter::run_checked` meets its contract. Assumes nothing.
use mathlib.Core.Path.{refl}
use Rattle.interpreter.proofs.Answers.{indexed}
use Rattle.interpreter.proofs.run_checked.Goals as goal

pub run_indexed-requires : goal.run_indexed-requires
run_indexed-requires c = (c.requires.0, c.requires.1, indexed _ _ _ refl c.requires.1 c.index.ensures.starts_after refl)
