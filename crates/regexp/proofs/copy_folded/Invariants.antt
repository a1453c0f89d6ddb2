use mathlib.Core.Path.{◌≡◌}
use mathlib.Core.Bool.{true}
use lib.ListN.{length, take}
use Rattle.octets.specs.Octets.{folded}
use Rattle.regexp.proofs.copy_folded.Given as goal

abbrev pub invariant-loop-i : goal.invariant-loop-i
invariant-loop-i l = (length l.room ≡ length l.initial.room) × (take l.i l.room ≡ take l.i (folded true l.p))
