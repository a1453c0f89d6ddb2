-- `put_unescaped` meets its contract: what is left to store after k bytes makes the same of the buffer. Assumes nothing.
use mathlib.Core.Path.{◌≡◌}
use mathlib.Core.Bool.{true}
use Prim.Native.Nat.{◌+◌, ◌-◌, ◌≤◌}
use lib.ListN.{length}
use lib.Seq.{sets}
use Rattle.ubf.specs.Escape.{bytes_in}
use Rattle.ubf.specs.Span.{PartIn}
use Rattle.ubf.proofs.placing.put_unescaped.Given as goal

abbrev pub invariant-loop-k : goal.invariant-loop-k
invariant-loop-k l = (l.k ≤ l.n) × (length l.buffer ≡ length l.initial.buffer) × PartIn l.text l.i (l.n - l.k) true × (sets l.buffer (l.at + l.k) (bytes_in l.text l.i (l.n - l.k) true) ≡ sets l.initial.buffer l.at (bytes_in l.text l.from l.n true))

abbrev pub decreases-loop-k : goal.decreases-loop-k
decreases-loop-k l = l.n - l.k
