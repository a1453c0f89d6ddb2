use Rattle.std.proofs.Common.{◌+◌, ◌/◌, sym, ◌∙◌, arith, rules}
use Rattle.notice.proofs.Searches.{first_is, stops_empty}
use Rattle.notice.proofs.Halves.{mid-right, from-mid, to-mid, stops-mid, stops_between}
use Rattle.notice.proofs.search.halved.Goals as goal

pub returns-then-is_empty : goal.returns-then-is_empty
returns-then-is_empty c = stops_empty c.args.notice.now c.args.name.now (λ j. search rules) c.requires.0 (sym c.is_empty.ensures ∙ c.if-is_empty.true)

pub stands_to-requires : goal.stands_to-requires
stands_to-requires c =
    let i = c.loop-low in
    (mid-right c.args.notice.now c.args.name.now (λ j. search rules) c.requires.0 i.low i.high i.invariant ((i.low + i.high) / 2) (omega arith) (omega arith) c.args.starts.now c.requires.1, first_is c.args.name.now (sym c.is_empty.ensures ∙ c.if-is_empty.false))

pub loop-low-preserved-in-Less : goal.loop-low-preserved-in-Less
loop-low-preserved-in-Less c =
    let i = c.loop-low in
    from-mid c.args.notice.now c.args.name.now (λ j. search rules) c.requires.0 i.low i.high i.invariant ((i.low + i.high) / 2) (omega arith) (omega arith) c.args.starts.now c.requires.1 (rw c.in-Less.is at c.stands_to.ensures)

pub returns-in-Equal : goal.returns-in-Equal
returns-in-Equal c =
    let i = c.loop-low in
    stops-mid c.args.notice.now c.args.name.now (λ j. search rules) c.requires.0 i.low i.high i.invariant ((i.low + i.high) / 2) (omega arith) (omega arith) c.args.starts.now c.requires.1 (rw c.in-Equal.is at c.stands_to.ensures)

pub loop-low-preserved : goal.loop-low-preserved
loop-low-preserved c =
    let i = c.loop-low in
    to-mid c.args.notice.now c.args.name.now (λ j. search rules) c.requires.0 i.low i.high i.invariant ((i.low + i.high) / 2) (omega arith) (omega arith) c.args.starts.now c.requires.1 (rw c.in-Greater.is at c.stands_to.ensures)

pub returns : goal.returns
returns c =
    let i = c.loop-low in
    stops_between c.args.notice.now c.args.name.now (λ j. search rules) c.requires.0 i.low i.high i.invariant (omega arith)
