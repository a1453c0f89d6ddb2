-- `place_for` meets its contract: the place lies between `low` and `high`. Assumes nothing.
use Prim.Native.Nat.{◌+◌, ◌-◌, ◌≤◌}
use lib.ListN.{drop}
use Rattle.notice.specs.Write.{place_among}
use Rattle.ubf.specs.Span.{name_in, row_fields}
use Rattle.ubf.proofs.ordering.place_for.Given as goal

abbrev pub invariant-loop-low : goal.invariant-loop-low
invariant-loop-low l = (l.first ≤ l.low) × (l.low ≤ l.first + place_among (name_in l.text l.s) (row_fields l.text l.rows (drop l.first l.order))) × (l.first + place_among (name_in l.text l.s) (row_fields l.text l.rows (drop l.first l.order)) ≤ l.high) × (l.high ≤ 64)

abbrev pub decreases-loop-low : goal.decreases-loop-low
decreases-loop-low l = l.high - l.low
