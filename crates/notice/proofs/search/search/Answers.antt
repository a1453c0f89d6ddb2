use Rattle.std.proofs.Common.{◌≡◌, sym, ◌∙◌, arith, rules}
use Rattle.notice.proofs.Places.{right_lies}
use Rattle.notice.proofs.Searches.{next_right, pass, first_is, stops_empty, stops_above, stops_same, stops_end}
use Rattle.notice.proofs.search.search.Goals as goal

pub returns-then-is_empty : goal.returns-then-is_empty
returns-then-is_empty c = stops_empty c.args.notice.now c.args.name.now (λ i. search rules) c.requires (sym c.is_empty.ensures ∙ c.if-is_empty.true)

pub stands_to-requires : goal.stands_to-requires
stands_to-requires c =
    let i = c.loop-below in
    (next_right c.args.notice.now c.args.name.now (λ j. search rules) i.below i.at i.invariant (omega (arith, c.read_u16-n.ensures)), first_is c.args.name.now (sym c.is_empty.ensures ∙ c.if-is_empty.false))

pub next_at-at-requires : goal.next_at-at-requires
next_at-at-requires c =
    let i = c.loop-below in
    let l = right_lies c.args.notice.now i.at (next_right c.args.notice.now c.args.name.now (λ j. search rules) i.below i.at i.invariant (omega (arith, c.read_u16-n.ensures))) in
    omega (arith, l.room, l.within)

pub returns-in-Equal : goal.returns-in-Equal
returns-in-Equal c =
    let i = c.loop-below in
    stops_same c.args.notice.now c.args.name.now (λ j. search rules) i.below i.at i.invariant (omega (arith, c.read_u16-n.ensures)) (rw c.in-Equal.is at c.stands_to.ensures)

pub returns-in-Greater : goal.returns-in-Greater
returns-in-Greater c =
    let i = c.loop-below in
    stops_above c.args.notice.now c.args.name.now (λ j. search rules) i.below i.at i.invariant (omega (arith, c.read_u16-n.ensures)) (rw c.in-Greater.is at c.stands_to.ensures)

pub loop-below-preserved : goal.loop-below-preserved
loop-below-preserved c =
    let i = c.loop-below in
    rw c.next_at-at.ensures (pass c.args.notice.now c.args.name.now (λ j. search rules) i.below i.at i.invariant (omega (arith, c.read_u16-n.ensures)) (rw c.in-Less.is at c.stands_to.ensures))

pub returns : goal.returns
returns c =
    let i = c.loop-below in
    let e : i.below ≡ c.read_u16-n.result = omega arith in
    rw (← e) (stops_end c.args.notice.now c.args.name.now (λ j. search rules) i.below i.at i.invariant (omega (arith, c.read_u16-n.ensures)))
