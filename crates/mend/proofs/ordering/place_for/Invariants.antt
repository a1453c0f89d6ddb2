-- `place_for` meets its contract: the place lies between `low` and `high`. Assumes nothing.
use Prim.Native.Nat.{◌-◌, ◌≤◌}
use Rattle.notice.specs.Layout.{name_at}
use Rattle.notice.specs.Write.{place_among}
use Rattle.mend.specs.Order.{fields_in}
use Rattle.mend.proofs.ordering.place_for.Given as goal

abbrev pub invariant-loop-low : goal.invariant-loop-low
invariant-loop-low l = (l.low ≤ place_among (name_at l.bytes l.at) (fields_in l.bytes l.order l.n)) × (place_among (name_at l.bytes l.at) (fields_in l.bytes l.order l.n) ≤ l.high) × (l.high ≤ l.n)

abbrev pub decreases-loop-low : goal.decreases-loop-low
decreases-loop-low l = l.high - l.low
