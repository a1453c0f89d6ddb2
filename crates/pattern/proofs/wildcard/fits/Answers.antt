use Rattle.pattern.proofs.Greedy.{match-on, match-taken, match-failed, match_back, match_run, match_end, base_of, lighter_on}
use Rattle.pattern.proofs.Items.{runs_folded}
use Rattle.pattern.proofs.Texts.{run_sign, here, sign_same}
use Rattle.octets.specs.Octets.{fold, folded}
use lib.ListN.{length, length-map}
use native.Mathlib.Omega.{arith}
use mathlib.Core.Path.{sym, ◌∙◌}
use Rattle.pattern.proofs.wildcard.fits.Goals as goal

pub loop-v-smaller-in-Some : goal.loop-v-smaller-in-Some
loop-v-smaller-in-Some c =
    let a = c.args in
    let l = c.loop-v in
    let x = folded a.s_mark a.s.now in
    let t = folded a.p_mark a.p.now in
    let k = match-on x t l.i l.v c.fold.result (rw c.fold.ensures (here a.s_mark a.s.now l.v (omega arith))) c.in-Some.next (sym c.in-Some.is ∙ c.item_takes.ensures) in
    lighter_on (length a.s.now) (length a.p.now) (base_of l.star) l.i c.in-Some.next k.0 (rw (length-map a.p.now (fold a.p_mark)) at k.1)

pub loop-v-preserved-in-Some : goal.loop-v-preserved-in-Some
loop-v-preserved-in-Some c =
    let a = c.args in
    let l = c.loop-v in
    let x = folded a.s_mark a.s.now in
    let t = folded a.p_mark a.p.now in
    match-taken x t l.i l.v c.fold.result (rw c.fold.ensures (here a.s_mark a.s.now l.v (omega arith))) c.in-Some.next (sym c.in-Some.is ∙ c.item_takes.ensures) l.star l.invariant

pub loop-v-preserved-then-begins : goal.loop-v-preserved-then-begins
loop-v-preserved-then-begins c =
    let a = c.args in
    let l = c.loop-v in
    let x = folded a.s_mark a.s.now in
    let t = folded a.p_mark a.p.now in
    match_run x t l.i l.v (sign_same a.p_mark a.p.now l.i 42 run_sign ∙ sym c.begins.ensures ∙ c.if-begins.true) l.star l.invariant

pub returns-in_default-star : goal.returns-in_default-star
returns-in_default-star c =
    let a = c.args in
    let l = c.loop-v in
    let x = folded a.s_mark a.s.now in
    let t = folded a.p_mark a.p.now in
    match-failed x t l.i l.v c.fold.result (rw c.fold.ensures (here a.s_mark a.s.now l.v (omega arith))) (sym c.in_default.is ∙ c.item_takes.ensures) (sign_same a.p_mark a.p.now l.i 42 run_sign ∙ sym c.begins.ensures ∙ c.if-begins.false)
    (rw c.in_default-star.is at l.invariant)

pub loop-v-preserved : goal.loop-v-preserved
loop-v-preserved c =
    let a = c.args in
    let l = c.loop-v in
    let x = folded a.s_mark a.s.now in
    let t = folded a.p_mark a.p.now in
    match_back x t l.i l.v c.fold.result (rw c.fold.ensures (here a.s_mark a.s.now l.v (omega arith))) (sym c.in_default.is ∙ c.item_takes.ensures) (sign_same a.p_mark a.p.now l.i 42 run_sign ∙ sym c.begins.ensures ∙ c.if-begins.false)
    c.in-Some-star.last.behind c.in-Some-star.last.base (rw c.in-Some-star.is at l.invariant)

pub returns : goal.returns
returns c =
    let a = c.args in
    let l = c.loop-v in
    let x = folded a.s_mark a.s.now in
    let t = folded a.p_mark a.p.now in
    c.only_runs.ensures ∙ sym (runs_folded a.p_mark a.p.now l.i) ∙ match_end x t l.i l.v l.star l.invariant (rw (length-map a.s.now (fold a.s_mark)) (omega arith))
