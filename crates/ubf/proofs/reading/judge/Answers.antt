-- `judge` meets its contract: by the refusals in their order. Assumes nothing.
use mathlib.Core.Path.{sym, ap, subst, ◌∙◌}
use native.Mathlib.Omega.{arith}
use borrow.Author.Tests.{not-true, not-false}
use Rattle.ubf.specs.Answer.{repeated}
use Rattle.ubf.specs.Span.{ArrangedIs}
use Rattle.ubf.proofs.Refusals.{few_lie, wrong_name, wrong_size, name-again, too_many, too_long, accepted}
use Rattle.ubf.specs.Fields.{is_tuple}
use Rattle.ubf.proofs.reading.judge.Goals as goal

pub returns-then-not-t-clause-number : goal.returns-then-not-t-clause-number
returns-then-not-t-clause-number c =
    wrong_name c.args.text.now c.args.rows.now c.args.t c.requires.0 c.args.order.now c.args.room (not-true c.args.t.named c.if-not-t.true)

pub returns-then-not-t-2-clause-number : goal.returns-then-not-t-2-clause-number
returns-then-not-t-2-clause-number c =
    wrong_size c.args.text.now c.args.rows.now c.args.t c.requires.0 c.args.order.now c.args.room (not-false c.args.t.named c.if-not-t.false) (not-true c.args.t.sized c.if-not-t-2.true)

pub repeats-requires : goal.repeats-requires
repeats-requires c = ap is_tuple c.requires.0.says_them

pub returns-then-repeats-clause-number : goal.returns-then-repeats-clause-number
returns-then-repeats-clause-number c =
    let f = c.requires.0 in
    name-again c.args.text.now c.args.rows.now c.args.t c.requires.0 c.args.order.now c.args.room (not-false c.args.t.named c.if-not-t.false) (not-false c.args.t.sized c.if-not-t-2.false) (sym (c.repeats.ensures f.fields f.says_them) ∙ c.if-repeats.true)

pub returns-then-t-gt64-clause-number : goal.returns-then-t-gt64-clause-number
returns-then-t-gt64-clause-number c =
    let f = c.requires.0 in
    too_many c.args.text.now c.args.rows.now c.args.t c.requires.0 c.args.order.now c.args.room (not-false c.args.t.named c.if-not-t.false) (not-false c.args.t.sized c.if-not-t-2.false) c.if-t-gt64.true (sym (c.repeats.ensures f.fields f.says_them) ∙ c.if-repeats.false)

pub arrange-requires : goal.arrange-requires
arrange-requires c =
    let p = c.requires in ((omega (arith, c.if-t-gt64.false)), p.1, p.2, (few_lie c.args.text.now c.args.rows.now c.args.t c.requires.0 p.1 (omega (arith, c.if-t-gt64.false))).1)

pub returns-then-not-arrange-clause-number : goal.returns-then-not-arrange-clause-number
returns-then-not-arrange-clause-number c =
    let p = c.requires in
    let b = c.if-not-arrange.true in
    let lie = few_lie c.args.text.now c.args.rows.now c.args.t c.requires.0 p.1 (omega (arith, c.if-t-gt64.false)) in
    name-again c.args.text.now c.args.rows.now c.args.t c.requires.0 c.arrange.new.order c.args.room (not-false c.args.t.named c.if-not-t.false) (not-false c.args.t.sized c.if-not-t-2.false) (sym (ap repeated lie.0) ∙ c.arrange.ensures.again b)

pub returns-then-t-room-clause-number : goal.returns-then-t-room-clause-number
returns-then-t-room-clause-number c =
    let p = c.requires in
    let b = c.if-not-arrange.false in
    let lie = few_lie c.args.text.now c.args.rows.now c.args.t c.requires.0 p.1 (omega (arith, c.if-t-gt64.false)) in
    too_long c.args.text.now c.args.rows.now c.args.t c.requires.0 c.arrange.new.order c.args.room (not-false c.args.t.named c.if-not-t.false) (not-false c.args.t.sized c.if-not-t-2.false) (omega (arith, c.if-t-gt64.false)) c.if-t-room.true (sym (ap repeated lie.0) ∙ c.arrange.ensures.once b)

pub returns-clause-number : goal.returns-clause-number
returns-clause-number c =
    let a = c.args in
    let p = c.requires in
    let b = c.if-not-arrange.false in
    let o = c.arrange.new.order in
    accepted c.args.text.now c.args.rows.now c.args.t c.requires.0 o a.room (not-false c.args.t.named c.if-not-t.false) (not-false c.args.t.sized c.if-not-t-2.false) (omega (arith, c.if-t-gt64.false)) c.if-t-room.false p.1 (omega (arith, c.arrange.auto.order, p.2))
    (subst (ArrangedIs a.text.now a.rows.now a.t.count o) b c.arrange.ensures)
