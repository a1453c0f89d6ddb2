-- `verdict::step` meets its contract: the history goes on by what the state asks for. Assumes nothing.
use mathlib.Core.List.{[]}
use Rattle.verdict.proofs.Laws.{nothing_read, nothing_written}
use Rattle.verdict.proofs.step.Goals as goal

pub returns-in-Answer : goal.returns-in-Answer
returns-in-Answer g c read written h = ([], _, nothing_read (c.answer.ensures read written h))

pub returns-in-Read : goal.returns-in-Read
returns-in-Read g c read written h = let m = c.more.ensures _ read written h in (m.0, [], nothing_written m.1)

pub returns-in-Done : goal.returns-in-Done
returns-in-Done g c read written h = ([], [], nothing_written (nothing_read h))
