use mathlib.Core.Path.{sym}
use Rattle.octets.specs.Octets.{fold}
use Rattle.octets.proofs.Laws.{lengths_differ, rest}
use Rattle.octets.proofs.Sames.{left_folded, right_folded}
use Rattle.octets.proofs.same.Goals as goal

pub returns-then-s-t : goal.returns-then-s-t
returns-then-s-t c =
    let a = c.args in
    lengths_differ (fold a.s_mark) (fold a.t_mark) a.s.now a.t.now c.if-s-t.true

pub same-requires : goal.same-requires
same-requires c =
    let a = c.args in
    rw (rest a.s.now 0, rest a.t.now 0) c.if-s-t.false

pub returns-then-s_mark : goal.returns-then-s_mark
returns-then-s_mark c =
    let a = c.args in
    left_folded a.s_mark a.t_mark a.s.now a.t.now _ c.if-s_mark.true (rw (rest a.s.now 0, rest a.t.now 0) at c.same.ensures)

pub same-requires-then-t_mark : goal.same-requires-then-t_mark
same-requires-then-t_mark c =
    let a = c.args in
    rw (rest a.s.now 0, rest a.t.now 0) (sym c.if-s-t.false)

pub returns-then-t_mark : goal.returns-then-t_mark
returns-then-t_mark c =
    let a = c.args in
    right_folded a.s_mark a.t_mark a.s.now a.t.now _ c.if-s_mark.false c.if-t_mark.true (rw (rest a.s.now 0, rest a.t.now 0) at c.same-then-t_mark.ensures)

pub same-requires-2 : goal.same-requires-2
same-requires-2 c = c.if-s-t.false

pub returns : goal.returns
returns c = rw (c.if-s_mark.false, c.if-t_mark.false) c.same-2.ensures
