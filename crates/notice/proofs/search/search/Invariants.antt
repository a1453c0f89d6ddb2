use Rattle.notice.proofs.Searches.{Passed}
use Rattle.notice.proofs.search.search.Given as goal

abbrev pub invariant-loop-below : goal.invariant-loop-below
invariant-loop-below l = Passed l.notice l.name l.below l.at
