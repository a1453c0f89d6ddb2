-- `measure` meets its contract: what was measured and the fields that are left. Assumes nothing.
use mathlib.Core.Path.{◌≡◌}
use Prim.Native.Nat.{◌+◌, ◌*◌, ◌≤◌}
use lib.ListN.{length}
use Rattle.notice.specs.Layout.{fields_of}
use Rattle.notice.proofs.Renders.{fields_from}
use Rattle.ubf.specs.Text.{fields_text}
use Rattle.ubf.proofs.Values.{Rest}
use Rattle.ubf.proofs.writing.measure.Given as goal

abbrev pub invariant-loop-left : goal.invariant-loop-left
invariant-loop-left l = Rest l.left l.notice l.at × (l.len + l.left * 4096 ≤ 262144) × (l.len + length (fields_text (fields_from l.left l.notice l.at)) ≡ length (fields_text (fields_of l.notice)))

abbrev pub decreases-loop-left : goal.decreases-loop-left
decreases-loop-left l = l.left
