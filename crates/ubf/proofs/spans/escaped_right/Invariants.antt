use Rattle.ubf.proofs.Parts.{Judged}
use Rattle.ubf.proofs.spans.escaped_right.Given as goal

abbrev pub invariant-loop-left : goal.invariant-loop-left
invariant-loop-left l = Judged l.text l.at l.n l.i l.left

abbrev pub decreases-loop-left : goal.decreases-loop-left
decreases-loop-left l = l.left
