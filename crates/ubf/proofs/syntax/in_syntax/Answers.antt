use native.Mathlib.Omega.{arith}
use Prim.Native.Nat.{◌<◌}
use lib.ListN.{length}
use Rattle.ubf.proofs.Items.{moved_to, judged_none, judged_moved, judged_item, judged_cut, judged_dollar}
use Rattle.ubf.proofs.syntax.in_syntax.Goals as goal

pub loop-p-init : goal.loop-p-init
loop-p-init c = rw c.past-p.ensures (judged_none _)

pub returns-then-at-text : goal.returns-then-at-text
returns-then-at-text c =
    let a = c.args in
    let l = c.loop-p in
    judged_cut a.text.now (moved_to l.p c.blanks-at.result) (judged_moved a.text.now l.p l.invariant c.blanks-at.result c.blanks-at.ensures) (omega (arith, c.if-at-text.true))

pub returns-then-text-at-eq36 : goal.returns-then-text-at-eq36
returns-then-text-at-eq36 c =
    let a = c.args in
    let l = c.loop-p in
    let b = c.blanks-at in
    let m : b.result < length a.text.now = omega (arith, b.ensures.near, c.if-at-text.false) in
    judged_dollar a.text.now (moved_to l.p b.result) (judged_moved a.text.now l.p l.invariant b.result b.ensures) m c.if-text-at-eq36.true

pub item-p-requires : goal.item-p-requires
item-p-requires c =
    let a = c.args in
    let l = c.loop-p in
    let b = c.blanks-at in
    let m : b.result < length a.text.now = omega (arith, b.ensures.near, c.if-at-text.false) in
    (m, b.ensures.item m, c.if-text-at-eq36.false, omega (arith, l.invariant.deep, b.ensures.after))

pub loop-p-preserved : goal.loop-p-preserved
loop-p-preserved c =
    let a = c.args in
    let l = c.loop-p in
    let b = c.blanks-at in
    judged_item a.text.now (moved_to l.p b.result) (judged_moved a.text.now l.p l.invariant b.result b.ensures) c.item-p.result c.item-p.ensures

pub returns : goal.returns
returns c =
    let a = c.args in
    let l = c.loop-p in
    judged_cut a.text.now l.p l.invariant (omega arith)
