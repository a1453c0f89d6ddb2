use Rattle.postfix.proofs.Prefixes.{Wrapping}
use Rattle.postfix.proofs.part.prefixed.Given as goal

abbrev pub invariant-loop-n : goal.invariant-loop-n
invariant-loop-n l = Wrapping l.marks l.at l.first l.fn.inner.0 l.initial.codes l.codes l.x.0 l.n

abbrev pub decreases-loop-n : goal.decreases-loop-n
decreases-loop-n l = l.n
