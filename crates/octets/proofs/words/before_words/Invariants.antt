-- `words::before_words` meets its contract: the bytes before i are the same. Assumes nothing.
use mathlib.Core.Path.{◌≡◌}
use Prim.Native.Nat.{◌+◌, ◌-◌, ◌≤◌}
use lib.ListN.{take}
use Rattle.octets.proofs.words.before_words.Given as goal

abbrev pub invariant-loop-i : goal.invariant-loop-i
invariant-loop-i l = (l.i ≤ l.tail + 7) × (take l.i l.s ≡ take l.i l.t)

abbrev pub decreases-loop-i : goal.decreases-loop-i
decreases-loop-i l = l.tail - l.i
