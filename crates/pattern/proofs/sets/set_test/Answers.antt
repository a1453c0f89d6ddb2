use Rattle.pattern.proofs.Ranges.{read_more, read_falls, read_empty, read_close, read_end, read_past}
use Rattle.octets.specs.Octets.{fold, folded}
use lib.ListN.{length-map}
use native.Mathlib.Omega.{arith}
use mathlib.Core.Path.{sym, ◌∙◌}
use Rattle.pattern.proofs.sets.set_test.Goals as goal

pub returns-then-high-low : goal.returns-then-high-low
returns-then-high-low c =
    let a = c.args in
    let l = c.loop-i in
    let t = folded a.mark a.p.now in
    let g = c.in-Range in
    let e = sym g.is ∙ c.piece_at.ensures in
    read_falls t a.at a.c l.hit l.i l.invariant g.low g.high g.next e (omega arith)

pub loop-i-preserved : goal.loop-i-preserved
loop-i-preserved c =
    let a = c.args in
    let l = c.loop-i in
    let t = folded a.mark a.p.now in
    let g = c.in-Range in
    let e = sym g.is ∙ c.piece_at.ensures in
    read_more t a.at a.c l.hit l.i l.invariant g.low g.high g.next e (omega arith)

pub returns-then-i-at : goal.returns-then-i-at
returns-then-i-at c =
    let a = c.args in
    let l = c.loop-i in
    let t = folded a.mark a.p.now in
    read_empty t a.at a.c l.hit l.i l.invariant (sym c.in-Close.is ∙ c.piece_at.ensures) c.if-i-at.true

pub returns-in-Close : goal.returns-in-Close
returns-in-Close c =
    let a = c.args in
    let l = c.loop-i in
    let t = folded a.mark a.p.now in
    read_close t a.at a.c l.hit l.i l.invariant (sym c.in-Close.is ∙ c.piece_at.ensures) c.if-i-at.false

pub returns-in-End : goal.returns-in-End
returns-in-End c =
    let a = c.args in
    let l = c.loop-i in
    let t = folded a.mark a.p.now in
    read_end t a.at a.c l.hit l.i l.invariant (sym c.in-End.is ∙ c.piece_at.ensures)

pub returns : goal.returns
returns c =
    let a = c.args in
    let l = c.loop-i in
    let t = folded a.mark a.p.now in
    read_past t a.at a.c l.hit l.i l.invariant (rw (length-map a.p.now (fold a.mark)) (omega arith))
