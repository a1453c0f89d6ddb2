use Rattle.pattern.proofs.Ranges.{piece_joined, piece_alone, piece_close, piece_end}
use Rattle.pattern.specs.Steps.{joined_at}
use mathlib.Core.Path.{sym, ap, ◌∙◌}
use Rattle.pattern.proofs.sets.piece_at.Goals as goal

pub returns-then-begins : goal.returns-then-begins
returns-then-begins c =
    let a = c.args in
    let g = c.in-Range in
    let e = sym g.is ∙ c.member_at.ensures in
    c.joined.ensures ∙ ap (joined_at g.low g.next) c.member_at-then-begins.ensures
    ∙ piece_joined a.mark a.p.now a.i g.low g.field-1 g.next e (sym c.begins.ensures ∙ c.if-begins.true)

pub returns-else-begins : goal.returns-else-begins
returns-else-begins c =
    let a = c.args in
    let g = c.in-Range in
    let e = sym g.is ∙ c.member_at.ensures in
    piece_alone a.mark a.p.now a.i g.low g.field-1 g.next e (sym c.begins.ensures ∙ c.if-begins.false)

pub returns-in-Close : goal.returns-in-Close
returns-in-Close c =
    let a = c.args in
    piece_close a.mark a.p.now a.i (sym c.in-Close.is ∙ c.member_at.ensures)

pub returns-in-End : goal.returns-in-End
returns-in-End c =
    let a = c.args in
    piece_end a.mark a.p.now a.i (sym c.in-End.is ∙ c.member_at.ensures)
