use mathlib.Core.Path.{◌≡◌}
use Prim.Native.Nat.{◌+◌}
use lib.ListN.{length}
use lib.Seq.{sets}
use Rattle.ubf.specs.Text.{fields_text}
use Rattle.notice.specs.Layout.{fields_of}
use Rattle.notice.proofs.Renders.{fields_from}
use Rattle.ubf.proofs.Values.{Rest}
use Rattle.ubf.proofs.writing.put_fields.Given as goal

abbrev pub invariant-loop-left : goal.invariant-loop-left
invariant-loop-left l = (Rest l.left l.notice l.at) × (length l.out ≡ length l.initial.out) × (l.p + length (fields_text (fields_from l.left l.notice l.at)) ≡ l.from + length (fields_text (fields_of l.notice))) × (sets l.out l.p (fields_text (fields_from l.left l.notice l.at)) ≡ sets l.initial.out l.from (fields_text (fields_of l.notice)))

abbrev pub decreases-loop-left : goal.decreases-loop-left
decreases-loop-left l = l.left
