-- `put_in` meets its contract: the places after it have moved, and it is stored. Assumes nothing.
use mathlib.Core.Path.{ap, ◌∙◌}
use mathlib.Core.List.{List}
use Prim.Native.Nat.{ℕ, ◌+◌, ◌-◌}
use native.Mathlib.Omega.{arith}
use lib.ListN.{length, set, take, drop, length-set, length-drop}
use lib.Seq.{length-sets}
use Rattle.common.proofs.Stores.{paste_sets}
use Rattle.mend.proofs.Orders.{places_more}
use Rattle.mend.proofs.ordering.put_in.Goals as goal

pub returns : goal.returns
returns c =
    let a = c.args in
    let p = c.requires in
    let l = length-drop a.place a.order.now in
    let e = c.copy_within.ensures.after ∙ paste_sets a.order.now (drop a.place a.order.now) (a.place + 1) (a.n - a.place) (omega arith) (omega arith) in (
      length-set c.copy_within.new.self a.place a.at ∙ (ap length e ∙ (length-sets a.order.now (a.place + 1) (take (a.n - a.place) (drop a.place a.order.now)) ∙ p.0)),
      ap (λ (l : List ℕ). take (a.n + 1) (set l a.place a.at)) e ∙ places_more a.order.now a.n a.place a.at p.1 (omega (arith, p.0, p.2)),
    )
