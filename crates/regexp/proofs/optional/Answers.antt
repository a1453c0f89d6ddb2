use Rattle.regexp.proofs.Parts.{lacks_not, lacks_is, lacks_more}
use Rattle.regexp.proofs.optional.Goals as goal

pub returns-then-k-eq0 : goal.returns-then-k-eq0
returns-then-k-eq0 c = rw c.if-o.true (lacks_more c.args.k c.if-k-eq0.true)

pub returns-then-o : goal.returns-then-o
returns-then-o c = rw c.if-o.true (lacks_is c.args.k c.if-k-eq0.false)

pub returns : goal.returns
returns c = rw c.if-o.false (lacks_not c.args.k)
