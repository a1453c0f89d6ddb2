use Rattle.ubf.proofs.Items.{mark_open, mark_unmatched, mark_shut, mark_comma, mark_other}
use Rattle.ubf.proofs.syntax.mark_item.Goals as goal

pub returns-then-b-eq123 : goal.returns-then-b-eq123
returns-then-b-eq123 c =
    let s = c.before.before.before.before.before.before in
    let a = s.args in
    rw c.past.ensures (mark_open a.text.now a.p s.requires.0 a.b s.requires.1 c.if-b-eq123.true)

pub returns-then-p-eq0 : goal.returns-then-p-eq0
returns-then-p-eq0 c =
    let s = c.before.before.before.before.before.before.before in
    let a = s.args in
    rw c.past-then-p-eq0.ensures (mark_unmatched a.text.now a.p s.requires.0 a.b s.requires.1 c.if-b-eq125.true c.if-p-eq0.true)

pub returns-then-b-eq125 : goal.returns-then-b-eq125
returns-then-b-eq125 c =
    let s = c.before.before.before.before.before.before.before.before.before in
    let a = s.args in
    rw c.past-then-b-eq125.ensures (mark_shut a.text.now a.p s.requires.0 a.b s.requires.1 c.if-b-eq125.true c.if-p-eq0.false)

pub returns-then-b-eq44 : goal.returns-then-b-eq44
returns-then-b-eq44 c =
    let s = c.before.before.before.before.before.before in
    let a = s.args in
    rw c.past-then-b-eq44.ensures (mark_comma a.text.now a.p s.requires.0 a.b s.requires.1 c.if-b-eq44.true)

pub returns : goal.returns
returns c =
    let s = c.before.before.before.before.before.before.before in
    let a = s.args in
    rw c.past-2.ensures (mark_other a.text.now a.p s.requires.0 a.b s.requires.1 s.requires.2 c.if-b-eq123.false c.if-b-eq125.false c.if-b-eq44.false)
