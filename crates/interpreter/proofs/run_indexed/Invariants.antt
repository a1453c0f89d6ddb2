-- `interpreter::run_indexed` meets its contract. The loop's invariant, `Placed`, is document 01's sentence, `Follows`, of the machine of the loop's variables, whose entries it has by their places in the table (`Going` has them by
-- number): at each turn, so after each visit, the entry that starts at `next` and the whole stack are those of the rule after as many visits as there are entries below the next that were not passed over, and the entry that ends at
-- `first`, none if it is 0, is the first undecided one of these visits (document 02, request 7). At the limit, this is the promise.
-- The inner loop's invariant, `Tallied`: what is known with the later operands below j, and with those that are left, is the whole. Assumes nothing.
use Prim.Native.Nat.{◌+◌, ◌-◌, ◌*◌}
use Rattle.interpreter.proofs.Visits.{Tallied}
use Rattle.interpreter.proofs.Places.{Placed}
use Rattle.interpreter.proofs.run_indexed.Given as goal

abbrev pub invariant-loop-j : goal.invariant-loop-j
invariant-loop-j l = Tallied l.pool l.notice l.stack l.depth l.k l.i l.known l.j

abbrev pub decreases-loop-j : goal.decreases-loop-j
decreases-loop-j l = l.depth - l.j

abbrev pub invariant-loop-next : goal.invariant-loop-next
invariant-loop-next l = Placed l.table l.pool l.notice l.n l.budget l.stack l.next l.depth l.passed l.end l.first

abbrev pub decreases-loop-next : goal.decreases-loop-next
decreases-loop-next l = 10 + 12 * l.n - l.next
