use mathlib.Core.Bool.{true}
use native.Mathlib.Omega.{arith}
use Rattle.ubf.proofs.Parts.{byte_inside, next_byte, judged_none, judged_end, judged_wrong, judged_more, name_wrong, small_name}
use Rattle.ubf.proofs.spans.escaped_right.Goals as goal

pub returns-then-n : goal.returns-then-n
returns-then-n c = name_wrong c.args.text.now c.args.at c.args.n c.requires c.if-n.true

pub loop-left-init : goal.loop-left-init
loop-left-init c =
    let a = c.args in
    let m = small_name a.n c.if-n.false in
    judged_none a.text.now a.at a.n c.requires m.0 m.1

pub byte_place-k-requires : goal.byte_place-k-requires
byte_place-k-requires c =
    let l = c.loop-left in
    byte_inside c.args.text.now l.i l.left true (omega arith) l.invariant.lies

pub bounds-text-k : goal.bounds-text-k
bounds-text-k c =
    let l = c.loop-left in
    (next_byte c.args.text.now l.i l.left true c.byte_place-k.result (omega arith) c.byte_place-k.ensures l.invariant.lies).inside

pub returns-then-b : goal.returns-then-b
returns-then-b c =
    let l = c.loop-left in
    let a = c.args in
    judged_wrong a.text.now a.at a.n l.i l.left l.invariant c.byte_place-k.result (omega arith) c.byte_place-k.ensures c.if-b.true

pub overflow_add-i : goal.overflow_add-i
overflow_add-i c =
    let l = c.loop-left in
    let a = c.args in
    omega (arith, (next_byte a.text.now l.i l.left true c.byte_place-k.result (omega arith) c.byte_place-k.ensures l.invariant.lies).inside)

pub overflow_sub-left : goal.overflow_sub-left
overflow_sub-left c = omega arith

pub loop-left-smaller : goal.loop-left-smaller
loop-left-smaller c = omega arith

pub loop-left-preserved : goal.loop-left-preserved
loop-left-preserved c =
    let l = c.loop-left in
    let a = c.args in
    judged_more a.text.now a.at a.n l.i l.left l.invariant c.byte_place-k.result (omega arith) c.byte_place-k.ensures c.if-b.false

pub returns : goal.returns
returns c =
    let l = c.loop-left in
    let a = c.args in
    judged_end a.text.now a.at a.n l.i l.left l.invariant (omega arith)
