-- `has_real` meets its contract: whether there was a real64, or is one among the fields that are left. Assumes nothing.
use mathlib.Core.Path.{◌≡◌}
use mathlib.Core.Bool.{◌||◌}
use Rattle.notice.specs.Layout.{fields_of}
use Rattle.notice.proofs.Renders.{fields_from}
use Rattle.ubf.specs.Answer.{has_real}
use Rattle.ubf.proofs.Values.{Rest}
use Rattle.ubf.proofs.writing.has_real.Given as goal

abbrev pub invariant-loop-left : goal.invariant-loop-left
invariant-loop-left l = Rest l.left l.notice l.at × ((l.real || has_real (fields_from l.left l.notice l.at)) ≡ has_real (fields_of l.notice))

abbrev pub decreases-loop-left : goal.decreases-loop-left
decreases-loop-left l = l.left
