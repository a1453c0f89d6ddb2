use Rattle.notice.proofs.Searches.{head_below}
use Rattle.notice.proofs.search.stands_to.Goals as goal

pub returns-then-head-first : goal.returns-then-head-first
returns-then-head-first c =
    let a = c.args in
    head_below a.notice.now a.at c.requires.0 a.name.now a.first c.requires.1 c.if-head-first.true
