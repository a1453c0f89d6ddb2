use Prim.Native.Nat.{◌≤◌, ◌-◌}
use mathlib.Core.Path.{◌≡◌}
use lib.ListN.{length}
use Rattle.lexer.proofs.Streams.{Goes}
use Rattle.lexer.proofs.lex.Given as goal

abbrev pub invariant-loop-at : goal.invariant-loop-at
invariant-loop-at l = (length l.text ≤ 4096) × Goes l.text l.initial.kinds l.initial.starts l.kinds l.starts l.n l.at × (length l.kinds ≡ length l.initial.kinds) × (length l.starts ≡ length l.initial.starts)

abbrev pub decreases-loop-at : goal.decreases-loop-at
decreases-loop-at l =
    length l.text - l.at
