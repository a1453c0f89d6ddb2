use Rattle.std.proofs.Common.{◌≡◌, ◌+◌, ◌-◌, sym, ap, ◌∙◌, ap₂, arith}
use Rattle.octets.specs.Octets.{before_of}
use Rattle.octets.proofs.Theorems.{not_folded}
use Rattle.notice.specs.Layout.{name_at}
use Rattle.notice.specs.Write.{place_in}
use Rattle.notice.proofs.Places.{lies_true}
use Rattle.notice.proofs.Walks.{starts_end, here, further, no_further}
use Rattle.notice.proofs.writing.place_for.Goals as goal

pub returns-then-not-lies : goal.returns-then-not-lies
returns-then-not-lies c =
    let i = c.loop in
    no_further c.args.notice.now c.args.name.now i.at (c.read_u16-n.result - i.counter) (omega arith) (sym c.lies.ensures ∙ c.if-not-lies.true) ∙ i.invariant.1

pub returns-then-before : goal.returns-then-before
returns-then-before c =
    let s = c.args.notice.now in
    let name = c.args.name.now in
    let i = c.loop in
    let first : c.before-in-loop.result ≡ before_of name (name_at s i.at) = c.before-in-loop.ensures ∙ ap₂ before_of (not_folded name) (not_folded c.name_at.result.now ∙ c.name_at.ensures) in
    here s name i.at (c.read_u16-n.result - i.counter) (omega arith) (sym c.lies.ensures ∙ c.if-not-lies.false) (sym first ∙ c.if-before.true) ∙ i.invariant.1

pub loop-preserved : goal.loop-preserved
loop-preserved c =
    let s = c.args.notice.now in
    let name = c.args.name.now in
    let i = c.loop in
    let first : c.before-in-loop.result ≡ before_of name (name_at s i.at) = c.before-in-loop.ensures ∙ ap₂ before_of (not_folded name) (not_folded c.name_at.result.now ∙ c.name_at.ensures) in
    let z : c.read_u16-n.result - (i.counter + 1) ≡ c.read_u16-n.result - i.counter - 1 = omega arith in
    let l = lies_true s i.at (sym c.lies.ensures ∙ c.if-not-lies.false) in
    (omega (arith, l.within, c.next_at-at.ensures), rw (z, c.next_at-at.ensures) (further s name i.at (c.read_u16-n.result - i.counter) (omega arith) (sym c.lies.ensures ∙ c.if-not-lies.false) (sym first ∙ c.if-before.false) ∙ i.invariant.1))

pub returns : goal.returns
returns c =
    let s = c.args.notice.now in
    let z : c.read_u16-n.result - c.loop.counter ≡ 0 = omega arith in
    sym (ap (place_in s c.args.name.now) (starts_end s c.loop.at)) ∙ (rw z at c.loop.invariant.1)
