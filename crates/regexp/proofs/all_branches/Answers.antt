use mathlib.Core.Path.{refl}
use Rattle.regexp.proofs.Loops.{formed_last, formed_more, formed_bad}
use Rattle.regexp.proofs.all_branches.Goals as goal

pub loop-j-init : goal.loop-j-init
loop-j-init c = (c.requires, refl)

pub returns-in-Some-Last : goal.returns-in-Some-Last
returns-in-Some-Last c =
    let l = c.loop-j in let q0 = rw c.in-Some-Last.is at c.next_end.ensures in let q = rw c.in-Some-Last.field-0-is at q0 in formed_last c.args.p.now l.i l.first _ l.invariant.1 0 _ _ q

pub loop-j-preserved : goal.loop-j-preserved
loop-j-preserved c =
    let l = c.loop-j in let q0 = rw c.in-Some-More.is at c.next_end.ensures in let q = rw c.in-Some-More.field-0-is at q0 in (q.1, formed_more c.args.p.now l.i l.first _ l.invariant.1 0 _ _ q)

pub returns-in-None : goal.returns-in-None
returns-in-None c =
    let l = c.loop-j in formed_bad c.args.p.now l.i l.first _ l.invariant.1 (rw c.in-None.is at c.next_end.ensures)
