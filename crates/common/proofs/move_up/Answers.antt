use mathlib.Core.Path.{◌∙◌}
use Prim.Native.Nat.{◌+◌, ◌-◌}
use native.Mathlib.Omega.{arith}
use lib.ListN.{drop, length-drop}
use Rattle.common.proofs.Stores.{paste_sets}
use Rattle.common.proofs.move_up.Goals as goal

pub returns : goal.returns
returns c =
    let a = c.args in
    let l = length-drop a.at a.buffer.now in
    c.copy_within.ensures.after ∙ paste_sets a.buffer.now (drop a.at a.buffer.now) (a.at + a.by) (a.end - a.at) (omega arith) (omega arith)
