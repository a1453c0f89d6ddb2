use Rattle.ubf.proofs.Scans.{digit_there, integer_plain, integer_signed, integer_bare}
use Rattle.ubf.proofs.scanning.integer_at.Goals as goal

pub returns-then-text-at-ne45 : goal.returns-then-text-at-ne45
returns-then-text-at-ne45 c =
    let s = c.before.before.before.before.before in
    let a = s.args in
    rw c.digits.ensures.1 (integer_plain a.text.now a.at c.digits.result.size c.digits.result.end s.requires.0 (digit_there _ s.requires.1 c.if-text-at-ne45.true) c.digits.ensures.0)

pub returns-then-n-at : goal.returns-then-n-at
returns-then-n-at c =
    let s = c.before.before.before.before.before.before.before in
    let a = s.args in
    let n = c.digits-n in
    integer_bare a.text.now a.at s.requires.0 c.if-text-at-ne45.false n.result.size n.result.end c.if-n-at.true n.ensures.0

pub returns : goal.returns
returns c =
    let s = c.before.before.before.before.before.before.before in
    let a = s.args in
    let n = c.digits-n in
    rw n.ensures.1 (integer_signed a.text.now a.at s.requires.0 c.if-text-at-ne45.false n.result.size n.result.end c.if-n-at.false n.ensures.0)
