use Prim.Native.Nat.{◌+◌}
use mathlib.Core.Path.{◌≡◌}
use lib.ListN.{drop}
use Rattle.octets.specs.Octets.{fold, folded, begins_of}
use Rattle.octets.proofs.Places.{begins_from}
use Rattle.octets.proofs.searching.agreed.Given as goal

abbrev pub invariant-loop-j : goal.invariant-loop-j
invariant-loop-j l = begins_from (fold l.s_mark) (fold l.p_mark) l.s l.p (l.at + l.j) l.j ≡ begins_of (folded l.s_mark (drop l.at l.s)) (folded l.p_mark l.p)
