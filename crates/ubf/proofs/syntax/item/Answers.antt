use mathlib.Core.Path.{refl}
use Rattle.ubf.proofs.Items.{mark_there}
use Rattle.ubf.proofs.syntax.item.Goals as goal

pub integer_item-requires : goal.integer_item-requires
integer_item-requires c =
    let s = c.before.before.before.before.before.before in (s.requires.0, rw c.is_digit.ensures at c.if-is_digit-b.true)

pub mark_item-requires : goal.mark_item-requires
mark_item-requires c =
    let s = c.before.before.before.before.before.before.before in
    (s.requires.0, refl, mark_there _ s.requires.1 c.if-b.false (rw c.is_digit.ensures at c.if-is_digit-b.false) c.if-b-eq126.false s.requires.2, s.requires.3)
