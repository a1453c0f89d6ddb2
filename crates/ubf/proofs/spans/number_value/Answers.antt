use native.Mathlib.Omega.{arith}
use Rattle.ubf.proofs.Advances.{integer_none, integer_cut, integer_after}
use Rattle.ubf.proofs.spans.number_value.Goals as goal

pub returns-then-n-at : goal.returns-then-n-at
returns-then-n-at c =
    let a = c.args in
    let n = c.integer_at-n in
    integer_none a.text.now a.at n.result.negative n.result.size n.result.end n.ensures c.no_value.result c.if-n-at.true c.no_value.ensures

pub blanks-next-requires : goal.blanks-next-requires
blanks-next-requires c = (c.integer_at-n.ensures.reads c.if-n-at.false).near

pub returns-then-next-text : goal.returns-then-next-text
returns-then-next-text c =
    let a = c.args in
    let n = c.integer_at-n in
    integer_cut a.text.now a.at n.result.negative n.result.size n.result.end n.ensures c.if-n-at.false c.blanks-next.result c.blanks-next.ensures c.no_value-then-next-text.result c.if-next-text.true c.no_value-then-next-text.ensures

pub after_integer-requires : goal.after_integer-requires
after_integer-requires c = (omega arith, c.blanks-next.ensures.item (omega arith))

pub returns : goal.returns
returns c =
    let a = c.args in
    let n = c.integer_at-n in
    integer_after a.text.now a.at n.result.negative n.result.size n.result.end n.ensures c.if-n-at.false c.blanks-next.result c.blanks-next.ensures c.after_integer.result c.after_integer.ensures
