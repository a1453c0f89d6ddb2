use mathlib.Core.Path.{refl}
use native.Mathlib.Omega.{arith}
use lib.ListN.{length-set}
use Rattle.regexp.proofs.Loops.{fold_one, fold_all}
use Rattle.regexp.proofs.copy_folded.Goals as goal

pub loop-i-init : goal.loop-i-init
loop-i-init c = (refl, refl)

pub loop-i-preserved : goal.loop-i-preserved
loop-i-preserved c =
    let l = c.loop-i in
    (simp length-set l.invariant.0, fold_one c.args.p.now l.room l.i c.fold.result (omega arith) (omega arith) c.fold.ensures l.invariant.1)

pub returns : goal.returns
returns c =
    let l = c.loop-i in fold_all c.args.p.now l.room l.i (omega arith) (omega arith) l.invariant.1
