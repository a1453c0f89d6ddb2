use mathlib.Core.Path.{sym, subst}
use native.Mathlib.Omega.{arith}
use lib.ListN.{take}
use Rattle.session.specs.Session.{Sound}
use Rattle.session.proofs.Laws.{from_start, at_kind, notice_answers, other_answers}
use Rattle.session.proofs.answer.Goals as goal

pub returns-then-kind-eq3 : goal.returns-then-kind-eq3
returns-then-kind-eq3 c =
    let a = c.args in
    at_kind 3 a.kind a.bytes.now (take a.held a.table.now) a.table.now a.out.now _ _ a.at c.answer_text.result c.if-kind-eq3.true
    (c.answer_text.ensures (take a.held a.table.now))

pub put_verdict-next-requires : goal.put_verdict-next-requires
put_verdict-next-requires c =
    (subst Sound (sym (from_start c.args.table.now c.args.held)) c.requires.2, omega (arith, c.requires.3))

pub returns-then-kind-eq1 : goal.returns-then-kind-eq1
returns-then-kind-eq1 c =
    let a = c.args in
    let p = c.put_verdict-next in
    at_kind 1 a.kind a.bytes.now (take a.held a.table.now) a.table.now a.out.now _ _ a.at _ c.if-kind-eq1.true
    (notice_answers a.bytes.now a.table.now a.out.now _ _ a.held a.at p.result c.requires.1 c.requires.2 (from_start a.table.now a.held) p.ensures.0 p.ensures.1)

pub returns : goal.returns
returns c =
    let a = c.args in
    let p = c.put_kind_line-next in
    other_answers a.kind a.bytes.now a.table.now a.out.now _ a.held a.at p.result c.if-kind-eq3.false c.if-kind-eq1.false c.requires.1 c.requires.2 p.ensures.0 p.ensures.1
