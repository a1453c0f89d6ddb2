use Rattle.std.proofs.Common.{ℕ, ◌+◌, length, is_some, sym, ap, ◌∙◌}
use Rattle.notice.specs.Write.{field, has_room}
use Rattle.notice.proofs.Inserts.{present, no_room, no_refusal}
use Rattle.notice.proofs.writing.refusal.Goals as goal

pub returns-then-is_some-clause-number : goal.returns-then-is_some-clause-number
returns-then-is_some-clause-number c =
    let a = c.args in
    present a.notice.now a.room (field a.kind a.name.now a.value.now) (sym c.name_right.ensures ∙ c.if-not-name_right.false) (sym c.size_right.ensures ∙ c.if-not-size_right.false)
    (ap is_some (sym c.lookup.ensures) ∙ (sym c.is_some.ensures ∙ c.if-is_some.true))

pub returns-then-not-has_room-clause-number : goal.returns-then-not-has_room-clause-number
returns-then-not-has_room-clause-number c =
    let a = c.args in
    no_room a.notice.now a.room (field a.kind a.name.now a.value.now) (sym c.name_right.ensures ∙ c.if-not-name_right.false) (sym c.size_right.ensures ∙ c.if-not-size_right.false)
    (ap is_some (sym c.lookup.ensures) ∙ (sym c.is_some.ensures ∙ c.if-is_some.false))
    (ap (λ (n : ℕ). has_room n (length a.notice.now + (5 + length a.name.now + length a.value.now)) a.room) (sym c.read_u16.ensures) ∙ (sym c.has_room.ensures ∙ c.if-not-has_room.true))

pub returns-clause-number : goal.returns-clause-number
returns-clause-number c =
    let a = c.args in
    no_refusal a.notice.now a.room (field a.kind a.name.now a.value.now) (sym c.name_right.ensures ∙ c.if-not-name_right.false) (sym c.size_right.ensures ∙ c.if-not-size_right.false)
    (ap is_some (sym c.lookup.ensures) ∙ (sym c.is_some.ensures ∙ c.if-is_some.false))
    (ap (λ (n : ℕ). has_room n (length a.notice.now + (5 + length a.name.now + length a.value.now)) a.room) (sym c.read_u16.ensures) ∙ (sym c.has_room.ensures ∙ c.if-not-has_room.false))
