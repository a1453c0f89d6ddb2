use Rattle.ubf.proofs.Items.{binary_none, binary-unclosed, binary-past}
use Rattle.ubf.proofs.syntax.binary_item.Goals as goal

pub returns-then-p : goal.returns-then-p
returns-then-p c =
    let s = c.before.before.before.before.before.before.before in
    let a = s.args in
    rw c.past.ensures (binary_none a.text.now a.p s.requires.0 s.requires.1 c.if-p.true)

pub returns-then-end-text : goal.returns-then-end-text
returns-then-end-text c =
    let s = c.before.before.before.before.before.before.before.before.before in
    let a = s.args in
    let e = c.binary_end-end in
    rw c.past-then-end-text.ensures (binary-unclosed a.text.now a.p s.requires.0 s.requires.1 c.if-p.false e.result e.ensures c.if-end-text.true)

pub returns : goal.returns
returns c =
    let s = c.before.before.before.before.before.before.before.before.before in
    let a = s.args in
    let e = c.binary_end-end in
    rw c.past-2.ensures (binary-past a.text.now a.p s.requires.0 s.requires.1 c.if-p.false e.result e.ensures c.if-end-text.false)
