use Prim.Native.Nat.{◌≤◌}
use lib.ListN.{length}
use Rattle.ubf.specs.Escape.{Plain}
use Rattle.ubf.proofs.words.plain_bytes.Given as goal

abbrev pub invariant-loop-i : goal.invariant-loop-i
invariant-loop-i l = (l.at ≤ l.i) × (l.i ≤ length l.s) × Plain l.s l.q l.at l.i
