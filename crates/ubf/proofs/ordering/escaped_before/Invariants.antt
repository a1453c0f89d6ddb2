-- `escaped_before` meets its contract: what is left of both names compares as the names do. Assumes nothing.
use mathlib.Core.Path.{◌≡◌}
use lib.Dec.{ltb}
use Rattle.octets.specs.Octets.{before_of}
use Rattle.ubf.specs.Escape.{bytes_in}
use Rattle.ubf.specs.Span.{name_in, PartIn}
use Rattle.ubf.proofs.ordering.escaped_before.Given as goal

abbrev pub invariant-loop-left : goal.invariant-loop-left
invariant-loop-left l =
    PartIn l.text l.i l.left (ltb 0 l.s.nameescapes) × PartIn l.text l.j l.other (ltb 0 l.t.nameescapes)
    × (before_of (bytes_in l.text l.i l.left (ltb 0 l.s.nameescapes)) (bytes_in l.text l.j l.other (ltb 0 l.t.nameescapes)) ≡ before_of (name_in l.text l.s) (name_in l.text l.t))

abbrev pub decreases-loop-left : goal.decreases-loop-left
decreases-loop-left l = l.left
