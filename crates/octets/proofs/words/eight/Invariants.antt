use mathlib.Core.Path.{◌≡◌}
use Prim.Native.Nat.{◌+◌, ◌-◌, ◌^◌, ◌<◌}
use lib.ListN.{drop}
use Rattle.octets.specs.Octets.{lead}
use Rattle.octets.proofs.words.eight.Given as goal

abbrev pub invariant-loop-i : goal.invariant-loop-i
invariant-loop-i l = (l.v < 256 ^ l.i) × (lead (8 - l.i) l.v (drop (l.at + l.i) l.s) ≡ lead 8 0 (drop l.at l.s))
