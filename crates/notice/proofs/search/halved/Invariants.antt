use Rattle.std.proofs.Common.{◌-◌}
use Rattle.notice.proofs.Halves.{Between}
use Rattle.notice.proofs.search.halved.Given as goal

abbrev pub invariant-loop-low : goal.invariant-loop-low
invariant-loop-low l = Between l.notice l.name l.low l.high

abbrev pub decreases-loop-low : goal.decreases-loop-low
decreases-loop-low l = l.high - l.low
