use Rattle.regexp.proofs.Parts.{again_not, again_is, again_more}
use Rattle.regexp.proofs.repeated.Goals as goal

pub returns-then-k-eq0 : goal.returns-then-k-eq0
returns-then-k-eq0 c = rw c.if-r.true (again_more c.args.k c.if-k-eq0.true)

pub returns-then-r : goal.returns-then-r
returns-then-r c = rw c.if-r.true (again_is c.args.k c.if-k-eq0.false)

pub returns : goal.returns
returns c = rw c.if-r.false (again_not c.args.k)
