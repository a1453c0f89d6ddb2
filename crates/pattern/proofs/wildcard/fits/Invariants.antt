use Rattle.pattern.proofs.Greedy.{Matching, base_of, weight}
use Rattle.octets.specs.Octets.{folded}
use lib.ListN.{length}
use Rattle.pattern.proofs.wildcard.fits.Given as goal

abbrev pub invariant-loop-v : goal.invariant-loop-v
invariant-loop-v l = Matching (folded l.s_mark l.s) (folded l.p_mark l.p) l.i l.v l.star

abbrev pub decreases-loop-v : goal.decreases-loop-v
decreases-loop-v l = weight (length l.s) (length l.p) (base_of l.star) l.i
