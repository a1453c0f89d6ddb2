-- `among` meets its contract: from `at` to i fields were read, and whether one of them has the name. Assumes nothing.
use Prim.Native.Nat.{◌-◌}
use lib.ListN.{length}
use Rattle.ubf.specs.Span.{name_in, WithinTuple}
use Rattle.ubf.proofs.Within.{Follows}
use Rattle.ubf.proofs.repeats.among.Given as goal

abbrev pub invariant-loop-s : goal.invariant-loop-s
invariant-loop-s l = WithinTuple l.text l.i × Follows l.text l.at (name_in l.text l.s) l.i l.found

abbrev pub decreases-loop-s : goal.decreases-loop-s
decreases-loop-s l = length l.text - l.i
