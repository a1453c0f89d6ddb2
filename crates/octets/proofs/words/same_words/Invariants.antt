use mathlib.Core.Path.{◌≡◌}
use Prim.Native.Nat.{◌+◌, ◌-◌, ◌≤◌}
use lib.ListN.{take}
use denote.Param.{number}
use Rattle.octets.specs.Octets.{folded}
use Rattle.octets.specs.contracts.words.same_words.{S-type}
use Rattle.octets.proofs.words.same_words.Given as goal

abbrev pub invariant-loop-i : goal.invariant-loop-i
invariant-loop-i g l = (l.i ≤ l.last + 7) × (take l.i (folded (S-type (number g.row.S)) l.s) ≡ take l.i (folded l.t_mark l.t))

abbrev pub decreases-loop-i : goal.decreases-loop-i
decreases-loop-i g l = l.last - l.i
