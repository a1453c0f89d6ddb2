use Rattle.ubf.proofs.Items.{integer_none, integer_past}
use Rattle.ubf.proofs.syntax.integer_item.Goals as goal

pub returns-then-n-p : goal.returns-then-n-p
returns-then-n-p c =
    let s = c.before.before.before.before.before.before.before in
    let a = s.args in
    let n = c.integer_at-n in
    rw c.past.ensures (integer_none a.text.now a.p s.requires.0 n.result.negative n.result.size n.result.end n.ensures c.if-n-p.true)

pub returns : goal.returns
returns c =
    let s = c.before.before.before.before.before.before in
    let a = s.args in
    let n = c.integer_at-n in
    integer_past a.text.now a.p s.requires.0 n.result.negative n.result.size n.result.end n.ensures c.if-n-p.false
