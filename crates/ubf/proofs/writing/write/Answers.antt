-- `write` meets its contract: 11, 23, 15, or the text. Assumes nothing.
use Rattle.std.proofs.Common.{sym, ap, ◌∙◌, rules}
use borrow.Author.Tests.{leb-true, leb-false}
use Rattle.ubf.proofs.Writes.{answer, faulted, real_field, no_room, written}
use Rattle.ubf.proofs.writing.write.Goals as goal

pub has_real-requires : goal.has_real-requires
has_real-requires c = sym c.in_ok-check.ensures

pub returns-then-has_real : goal.returns-then-has_real
returns-then-has_real c = let a = c.args in real_field a.notice.now a.buffer.now (sym c.in_ok-check.ensures) (sym c.has_real.ensures ∙ c.if-has_real.true)

pub has_room-requires : goal.has_room-requires
has_room-requires c = sym c.in_ok-check.ensures

pub returns-then-not-has_room : goal.returns-then-not-has_room
returns-then-not-has_room c =
    let a = c.args in
    let f = sym c.has_room.ensures ∙ c.if-not-has_room.true in
    no_room a.notice.now a.buffer.now (sym c.in_ok-check.ensures) (sym c.has_real.ensures ∙ c.if-has_real.false) (leb-false _ _ f)

pub put_text-requires : goal.put_text-requires
put_text-requires c = (sym c.in_ok-check.ensures, leb-true _ _ (sym c.has_room.ensures ∙ c.if-not-has_room.false))

pub returns-in_err-check : goal.returns-in_err-check
returns-in_err-check c = let e = faulted c.args.notice.now c.args.buffer.now c.in_err-check.field-0.0 (sym c.in_err-check.ensures) in search rules

pub returns : goal.returns
returns c =
    let a = c.args in
    let f = sym c.has_room.ensures ∙ c.if-not-has_room.false in
    let r = written a.notice.now a.buffer.now (sym c.in_ok-check.ensures) (sym c.has_real.ensures ∙ c.if-has_real.false) (leb-true _ _ f) in
    let p = c.put_text.ensures in
    (ap (answer 0 0) p.1 ∙ r.0, p.0 ∙ r.1)
