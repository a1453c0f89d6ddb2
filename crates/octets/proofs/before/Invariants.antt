use Prim.Native.Nat.{◌+◌}
use mathlib.Core.Path.{◌≡◌}
use mathlib.Core.List.{map}
use lib.ListN.{length}
use Rattle.octets.specs.Octets.{fold, folded, before_of}
use Rattle.octets.proofs.before.Given as goal

abbrev pub invariant-loop-a : goal.invariant-loop-a
invariant-loop-a l =
    let xs = l.a-iterator.a.rest.now in
    let ys = l.a-iterator.b.rest.now in
    (length l.s + length ys ≡ length l.t + length xs) × (before_of (map (fold l.s_mark) xs) (map (fold l.t_mark) ys) ≡ before_of (folded l.s_mark l.s) (folded l.t_mark l.t))
