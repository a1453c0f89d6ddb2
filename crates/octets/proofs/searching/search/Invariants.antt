use mathlib.Core.Path.{◌≡◌}
use mathlib.Core.List.{map}
use lib.ListN.{drop}
use Rattle.octets.specs.Octets.{fold, folded, contains_of}
use Rattle.octets.proofs.searching.search.Given as goal

abbrev pub invariant-loop-i : goal.invariant-loop-i
invariant-loop-i g l = contains_of (map (fold l.m) (drop l.i l.s)) (folded l.n l.p) ≡ contains_of (folded l.m l.s) (folded l.n l.p)
