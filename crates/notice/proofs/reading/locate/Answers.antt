use Rattle.std.proofs.Common.{sym, ap, ◌∙◌, arith, rules}
use Rattle.notice.specs.Read.{locate_at}
use Rattle.notice.proofs.Readings.{has-start, lies_by, located, same_place, is_located}
use Rattle.notice.proofs.reading.locate.Goals as goal

pub field_start-at-requires : goal.field_start-at-requires
field_start-at-requires c = has-start c.args.notice.now (λ j. search rules) c.args.k (sym c.check.ensures ∙ c.in_ok-check.was) (omega (arith, c.read_u16.ensures))

pub overflow_add-at : goal.overflow_add-at
overflow_add-at c = let l = lies_by c.args.notice.now (λ j. search rules) c.args.k (sym c.check.ensures ∙ c.in_ok-check.was) (omega (arith, c.read_u16.ensures)) c.field_start-at.ensures in omega (arith, l.room, l.within)

pub read_u16-requires-2 : goal.read_u16-requires-2
read_u16-requires-2 c = let l = lies_by c.args.notice.now (λ j. search rules) c.args.k (sym c.check.ensures ∙ c.in_ok-check.was) (omega (arith, c.read_u16.ensures)) c.field_start-at.ensures in omega (arith, l.room, l.within)

pub overflow_add-result : goal.overflow_add-result
overflow_add-result c = let l = lies_by c.args.notice.now (λ j. search rules) c.args.k (sym c.check.ensures ∙ c.in_ok-check.was) (omega (arith, c.read_u16.ensures)) c.field_start-at.ensures in omega (arith, l.room, l.within)

pub value_at-requires : goal.value_at-requires
value_at-requires c = let l = lies_by c.args.notice.now (λ j. search rules) c.args.k (sym c.check.ensures ∙ c.in_ok-check.was) (omega (arith, c.read_u16.ensures)) c.field_start-at.ensures in omega (arith, l.room, l.within)

pub next_at-requires : goal.next_at-requires
next_at-requires c = let l = lies_by c.args.notice.now (λ j. search rules) c.args.k (sym c.check.ensures ∙ c.in_ok-check.was) (omega (arith, c.read_u16.ensures)) c.field_start-at.ensures in omega (arith, l.room, l.within)

pub returns : goal.returns
returns c =
    let s = c.args.notice.now in
    let k = c.args.k in
    let at = c.field_start-at.result in
    is_located s (λ j. search rules) k _
    (same_place s at c.read_u16-2.result c.value_at.result c.next_at.result c.read_u16-2.ensures c.value_at.ensures c.next_at.ensures
    ∙ (ap (locate_at s) c.field_start-at.ensures ∙ located s (λ j. search rules) k (sym c.check.ensures ∙ c.in_ok-check.was) (omega (arith, c.read_u16.ensures))))
