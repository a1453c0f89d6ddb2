use Rattle.std.proofs.Common.{◌≡◌, ◌∙◌, arith}
use Rattle.notice.proofs.Readings.{after_within, after_is, after_more}
use Rattle.notice.proofs.reading.field_start.Goals as goal

pub next_at-at-requires : goal.next_at-at-requires
next_at-at-requires c =
    let l = after_within c.args.notice.now c.args.k c.requires c.loop.counter c.loop.at (omega arith) (c.loop.invariant c.requires) in
    omega (arith, l.within)

pub loop-preserved : goal.loop-preserved
loop-preserved c = λ h. rw c.next_at-at.ensures (after_more c.args.notice.now c.args.k h c.loop.counter c.loop.at (omega arith) (c.loop.invariant h))

pub returns : goal.returns
returns c =
    let z : c.loop.counter ≡ c.args.k = omega arith in
    after_is c.args.notice.now c.args.k c.requires c.loop.counter c.loop.at (omega arith) (c.loop.invariant c.requires) ∙ rw z
