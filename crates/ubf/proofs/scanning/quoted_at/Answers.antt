use mathlib.Core.Path.{sym, ◌∙◌}
use native.Mathlib.Omega.{arith}
use Rattle.ubf.proofs.Scans.{opens_none, opens_one, opens_two, opens_close, opens_cut, opens_wrong}
use Rattle.ubf.proofs.scanning.quoted_at.Goals as goal

pub loop-i-init : goal.loop-i-init
loop-i-init c = let a = c.args in opens_none a.text.now a.at a.q c.requires.0

pub returns-then-b-q : goal.returns-then-b-q
returns-then-b-q c =
    let l = c.loop-i in
    let a = c.args in
    opens_close a.text.now a.at a.q l.i l.escapes l.invariant (omega arith) c.if-b-q.true

pub loop-i-preserved-then-b-ne92 : goal.loop-i-preserved-then-b-ne92
loop-i-preserved-then-b-ne92 c =
    let l = c.loop-i in
    let a = c.args in
    opens_one a.text.now a.at a.q l.i l.escapes l.invariant (omega arith) c.if-b-q.false c.if-b-ne92.true

pub overflow_add-i-in-loop-i : goal.overflow_add-i-in-loop-i
overflow_add-i-in-loop-i c = omega (arith, c.loop-i.invariant.near)

pub loop-i-preserved : goal.loop-i-preserved
loop-i-preserved c =
    let l = c.loop-i in
    let s = c.before.before.before.before.before.before.before.before.before in
    let a = s.args in
    opens_two a.text.now a.at a.q l.i l.escapes l.invariant s.requires.1 (omega arith) c.if-b-ne92.false (sym c.escape_right.ensures ∙ c.if-not-escape_right.false)

pub returns-after-loop-i : goal.returns-after-loop-i
returns-after-loop-i c =
    let l = c.loop-i in
    let a = c.args in
    opens_cut a.text.now a.at a.q l.i l.escapes l.invariant (omega arith)

pub returns-then-not-escape_right : goal.returns-then-not-escape_right
returns-then-not-escape_right c =
    let l = c.loop-i in
    let s = c.before.before.before.before.before.before.before.before.before in
    let a = s.args in
    opens_wrong a.text.now a.at a.q l.i l.escapes l.invariant s.requires.1 (omega arith) c.if-b-ne92.false (sym c.escape_right.ensures ∙ c.if-not-escape_right.true)
