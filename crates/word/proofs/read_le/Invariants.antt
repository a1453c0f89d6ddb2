use mathlib.Core.Path.{◌≡◌}
use Prim.Native.Nat.{◌<◌, ◌+◌, ◌-◌, ◌^◌}
use Rattle.word.specs.Word.{word_at}
use Rattle.word.proofs.read_le.Given as goal

abbrev pub invariant-loop-i : goal.invariant-loop-i
invariant-loop-i l = (l.v ≡ word_at (l.k - l.i) l.s (l.at + l.i)) × (l.v < 256 ^ (l.k - l.i))
