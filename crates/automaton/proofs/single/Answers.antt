use Prim.Native.Nat.{ℕ}
use mathlib.Core.Path.{ap}
use lib.Dec.{ltb}
use Rattle.automaton.proofs.single.Goals as goal

pub returns : goal.returns
returns c = ap (λ (n : ℕ). ltb n 3) c.sort.ensures
