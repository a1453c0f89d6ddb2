use mathlib.Core.Path.{◌∙◌}
use Prim.Native.Nat.{◌+◌, ◌*◌, ◌-◌}
use native.Mathlib.Omega.{arith}
use lib.ListN.{length, drop, length-drop}
use lib.Seq.{take_all}
use Rattle.table.proofs.pool.Goals as goal

pub returns : goal.returns
returns c =
    let t = c.args.table.now in
    let at = 10 + 12 * c.count.result in
    take_all (length t - at) (drop at t) (simp length-drop (omega arith)) ∙ rw c.count.ensures.0
