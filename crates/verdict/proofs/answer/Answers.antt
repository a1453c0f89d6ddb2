-- `verdict::answer` meets its contract: the history goes on by a turn. Assumes nothing.
use Rattle.session.specs.History.{answers}
use Rattle.verdict.proofs.answer.Goals as goal

pub returns-in-Ok : goal.returns-in-Ok
returns-in-Ok g c read written h = answers h c.requires.1 c.turn-after.ensures

pub returns-in-Err : goal.returns-in-Err
returns-in-Err g c read written h = answers h c.requires.1 c.turn-after.ensures
