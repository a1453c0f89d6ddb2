use mathlib.Core.Path.{◌∙◌}
use native.Mathlib.Omega.{arith}
use lib.ListN.{length, length-set}
use Rattle.automaton.proofs.Told.{unpack_one}
use Rattle.automaton.proofs.unpack.Goals as goal

pub loop-m-preserved : goal.loop-m-preserved
loop-m-preserved c =
    let l = c.loop-m in
    let n = length c.args.marks.now in
    (omega arith, simp length-set l.invariant.1, unpack_one l.marks l.m-index n l.rest (omega arith) l.invariant.1 ∙ l.invariant.2)
