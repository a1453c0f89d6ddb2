-- `table::kinds_right` meets its contract: each place where it ends, and the turn from an entry to the next. Assumes nothing.
use mathlib.Core.Path.{◌≡◌}
use lib.ListN.{length}
use Rattle.table.proofs.Passing.{Passed}
use Rattle.table.proofs.kinds_right.Given as goal

abbrev pub invariant-loop-i : goal.invariant-loop-i
invariant-loop-i l = Passed l.table l.wanted l.i l.c × (length l.wanted ≡ length l.initial.wanted)
