use Prim.Native.Nat.{◌-◌}
use lib.ListN.{length}
use Rattle.ubf.proofs.Items.{Judged}
use Rattle.ubf.proofs.syntax.in_syntax.Given as goal

abbrev pub invariant-loop-p : goal.invariant-loop-p
invariant-loop-p l = Judged l.text l.p

abbrev pub decreases-loop-p : goal.decreases-loop-p
decreases-loop-p l = length l.text - l.p.at
