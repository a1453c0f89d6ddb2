use Rattle.std.proofs.Common.{◌≡◌, take, sym, ◌∙◌, arith, rules}
use Rattle.notice.proofs.Searches.{first_is, stops_empty}
use Rattle.notice.proofs.Halves.{mid-right, from-mid, to-mid, stops-mid, stops_between, indexed_part}
use Rattle.notice.proofs.search.walked.Goals as goal

pub returns-then-is_empty : goal.returns-then-is_empty
returns-then-is_empty c = stops_empty c.args.notice.now c.args.name.now (λ j. search rules) c.requires.0 (sym c.is_empty.ensures ∙ c.if-is_empty.true)

pub stands_to-requires : goal.stands_to-requires
stands_to-requires c =
    let i = c.loop-below in
    (mid-right c.args.notice.now c.args.name.now (λ j. search rules) c.requires.0 i.below c.read_u16-n.result i.invariant i.below (omega arith) (omega arith) (take c.read_u16-n.result c.args.starts.now) (indexed_part c.args.notice.now c.args.starts.now _ c.read_u16-n.ensures c.requires.1), first_is c.args.name.now (sym c.is_empty.ensures ∙ c.if-is_empty.false))

pub loop-below-preserved : goal.loop-below-preserved
loop-below-preserved c =
    let i = c.loop-below in
    from-mid c.args.notice.now c.args.name.now (λ j. search rules) c.requires.0 i.below c.read_u16-n.result i.invariant i.below (omega arith) (omega arith) (take c.read_u16-n.result c.args.starts.now) (indexed_part c.args.notice.now c.args.starts.now _ c.read_u16-n.ensures c.requires.1) (rw c.in-Less.is at c.stands_to.ensures)

pub returns-in-Equal : goal.returns-in-Equal
returns-in-Equal c =
    let i = c.loop-below in
    stops-mid c.args.notice.now c.args.name.now (λ j. search rules) c.requires.0 i.below c.read_u16-n.result i.invariant i.below (omega arith) (omega arith) (take c.read_u16-n.result c.args.starts.now) (indexed_part c.args.notice.now c.args.starts.now _ c.read_u16-n.ensures c.requires.1) (rw c.in-Equal.is at c.stands_to.ensures)

pub returns-in-Greater : goal.returns-in-Greater
returns-in-Greater c =
    let i = c.loop-below in
    let b = to-mid c.args.notice.now c.args.name.now (λ j. search rules) c.requires.0 i.below c.read_u16-n.result i.invariant i.below (omega arith) (omega arith) (take c.read_u16-n.result c.args.starts.now) (indexed_part c.args.notice.now c.args.starts.now _ c.read_u16-n.ensures c.requires.1) (rw c.in-Greater.is at c.stands_to.ensures) in
    stops_between c.args.notice.now c.args.name.now (λ j. search rules) c.requires.0 i.below i.below b (omega arith)

pub returns : goal.returns
returns c =
    let i = c.loop-below in
    let e : i.below ≡ c.read_u16-n.result = omega arith in
    rw (← e) (stops_between c.args.notice.now c.args.name.now (λ j. search rules) c.requires.0 i.below c.read_u16-n.result i.invariant (omega arith))
