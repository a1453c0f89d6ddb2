use mathlib.Core.Path.{◌∙◌}
use native.Mathlib.Omega.{arith}
use lib.ListN.{length-set}
use Rattle.automaton.proofs.Large.{above_on, below_on, goes_turn, reach_quiet, reach_end}
use Rattle.automaton.proofs.shift_plain.Goals as goal
use Rattle.automaton.proofs.shift_plain.Goals.{then-hit, else-hit}

pub returns-then-cur-fin : goal.returns-then-cur-fin
returns-then-cur-fin c =
    let a = c.args in
    let l = c.loop-i in
    reach_quiet a.text.now a.kinds.now a.args.now a.c a.k a.marks.now l.marks l.invariant.1 a.top l.high l.i l.cur l.invariant.2.0 l.fin l.invariant.2.1 l.invariant.3 l.invariant.4 c.requires.3 c.requires.1 c.if-cur-fin.true

pub loop-i-preserved : goal.loop-i-preserved
loop-i-preserved c =
    let a = c.args in
    let l = c.loop-i in
    let h = c.loop-i-test in (
      omega (arith, h),
      simp length-set l.invariant.1,
      (_, goes_turn a.text.now a.kinds.now a.args.now a.c c.requires.3 c.requires.1 l.marks l.invariant.1 l.i a.k l.cur l.invariant.2.0 l.fin (omega (arith, h)) c.from-arg.result c.repeats-rep.result c.absent-o.result c.hit_if-hit.result c.from-arg.ensures c.repeats-rep.ensures c.absent-o.ensures c.hit_if-hit.ensures ∙ l.invariant.2.1),
      above_on l.marks l.i c.hit_if-hit.result a.top l.invariant.3,
      below_on l.marks l.i c.hit_if-hit.result l.high c.if-hit.high (omega (arith, h, l.invariant.1)) l.invariant.4 (elim c.if-hit.branch [ then-hit w ↦ rw w.if-hit.true w.high-is | else-hit w ↦ rw w.if-hit.false w.high-is ]),
    )

pub returns : goal.returns
returns c =
    let a = c.args in
    let l = c.loop-i in
    reach_end a.text.now a.kinds.now a.args.now a.c a.k a.marks.now l.marks l.invariant.1 a.top l.high l.i l.cur l.invariant.2.0 l.fin l.invariant.2.1 l.invariant.3 l.invariant.4 (omega (arith, c.loop-i-test))
