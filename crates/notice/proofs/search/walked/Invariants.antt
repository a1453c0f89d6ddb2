use Rattle.notice.proofs.Halves.{Between}
use Rattle.notice.proofs.search.walked.Given as goal

abbrev pub invariant-loop-below : goal.invariant-loop-below
invariant-loop-below l = Between l.notice l.name l.below l.n
