use Rattle.automaton.proofs.Step.{turn_on, set_turn, all_passed, get_d_any}
use lib.ListN.{length-set}
use native.Mathlib.Omega.{arith}
use mathlib.Core.Path.{sym, ◌∙◌}
use Rattle.automaton.proofs.shift.Goals as goal

pub loop-i-preserved-then-s-lt3 : goal.loop-i-preserved-then-s-lt3
loop-i-preserved-then-s-lt3 c =
    (omega (arith, c.loop-i-test), c.loop-i.invariant.1, simp length-set c.loop-i.invariant.2, c.loop-i.invariant.3, set_turn c.args.text.now c.args.kinds.now c.args.args.now c.loop-i.marks c.args.c c.loop-i.l c.loop-i.stack c.loop-i.depth c.loop-i.i (omega (arith, c.loop-i-test)) c.requires.1 c.loop-i.invariant.2 (omega (arith, c.loop-i.invariant.1, c.loop-i.invariant.3)) c.sort-s.result c.from-arg.result c.repeats-rep.result c.hit_if-hit.result c.absent.result c.past_one-l.result c.from-arg.ensures c.sort-s.ensures c.repeats-rep.ensures c.hit_if-hit.ensures c.absent.ensures c.past_one-l.ensures (omega (arith, c.if-s-lt3.true)) ∙ c.loop-i.invariant.4)

pub loop-i-preserved : goal.loop-i-preserved
loop-i-preserved c =
    (omega (arith, c.loop-i-test), c.depth_after-depth.ensures.1, simp length-set c.loop-i.invariant.2, simp length-set c.loop-i.invariant.3, turn_on c.args.text.now c.args.kinds.now c.args.args.now c.loop-i.marks c.args.c c.loop-i.l c.loop-i.stack c.loop-i.depth c.loop-i.i (omega (arith, c.loop-i-test)) c.requires.1 c.loop-i.invariant.2 (omega (arith, c.loop-i.invariant.1, c.loop-i.invariant.3)) c.sort-s.result c.from-arg.result c.saturating_sub-d.result c.depth_after-depth.result c.repeats-rep.result c.cell.result c.hit_if-hit.result c.mark.result c.absent-in-loop-i.result _ c.up-above.result c.next_level-l.result c.from-arg.ensures c.sort-s.ensures c.repeats-rep.ensures c.cell.ensures c.hit_if-hit.ensures c.saturating_sub-d.ensures (get_d_any c.loop-i.stack c.saturating_sub-d.result _ _ (omega (arith, c.saturating_sub-d.ensures, c.loop-i.invariant.1, c.loop-i.invariant.3))) c.up-above.ensures c.mark.ensures c.absent-in-loop-i.ensures c.next_level-l.ensures c.depth_after-depth.ensures.0 ∙ c.loop-i.invariant.4)

pub returns : goal.returns
returns c =
    sym c.loop-i.invariant.4 ∙ all_passed c.args.text.now c.args.kinds.now c.args.args.now c.loop-i.marks c.args.c c.loop-i.l c.loop-i.stack c.loop-i.depth c.loop-i.i (omega (arith, c.loop-i-test)) c.loop-i.invariant.2
