use Rattle.std.proofs.Common.{◌≡◌, ◌<◌, true, sym, ◌∙◌, ap₂, arith}
use Rattle.octets.specs.Octets.{before_of}
use Rattle.octets.proofs.Theorems.{not_folded}
use Rattle.notice.specs.Layout.{name_at, right_at}
use Rattle.notice.specs.Key.{key_of, last_name_at}
use Rattle.notice.proofs.Places.{lies_true, right_name}
use Rattle.notice.proofs.Keys.{less_before, not_after, last_name, some_last, some_key, key_here, no_key}
use Rattle.notice.proofs.order.follows.Lts as lts
use Rattle.notice.proofs.order.follows.Tie as tie
use Rattle.notice.proofs.order.follows.Reads as reads
use Rattle.notice.proofs.order.follows.Goals as goal

-- where the key is not 0 a right field stands, with this key
right_by : (c : lts.Start tie.the-claims reads.Pre reads.Post) → 0 < c.args.key → right_at c.args.notice.now c.args.at ≡ true
right_by c h = some_key c.args.notice.now c.args.at c.args.key c.requires.1 h

key_is : (c : lts.Start tie.the-claims reads.Pre reads.Post) → 0 < c.args.key → c.args.key ≡ key_of (name_at c.args.notice.now c.args.at)
key_is c h = c.requires.1 ∙ key_here c.args.notice.now c.args.at (right_by c h)

right : (c : lts.Else3 tie.the-claims reads.Pre reads.Post) → right_at c.args.notice.now c.args.at ≡ true
right c = right_by c.before.before.before.before (let f = c.if-key-eq0.false in omega arith)

-- where the keys are equal there is a last field
after_one : (c : lts.Else3 tie.the-claims reads.Pre reads.Post) → c.args.last ≡ 0 → ⊥
after_one c =
    let a = c.args in
    some_last a.notice.now a.last a.at a.last_key a.key c.requires.0 (right c) (key_is c.before.before.before.before (let f = c.if-key-eq0.false in omega arith)) (omega (arith, c.if-last_key-key.false))

pub returns-then-last_key-key : goal.returns-then-last_key-key
returns-then-last_key-key c =
    let d = c.before.before.before in
    let a = d.args in
    let p = d.requires in
    let s = a.notice.now in
    let h : 0 < a.key = omega (arith, c.if-last_key-key.true) in
    rw (right_by d h) (less_before 8 0 (last_name_at s a.last) (name_at s a.at) p.0.right (right_name s a.at (right_by d h)).1 (omega (arith, p.0.key_is, key_is d h, c.if-last_key-key.true)))

pub returns-then-key-last_key : goal.returns-then-key-last_key
returns-then-key-last_key c =
    let a = c.args in
    let p = c.requires in
    not_after a.notice.now a.last a.at a.last_key a.key p.0 p.1 c.if-key-last_key.true

pub returns-then-key-eq0 : goal.returns-then-key-eq0
returns-then-key-eq0 c = rw (no_key c.args.notice.now c.args.at c.args.key c.requires.1 c.if-key-eq0.true)

pub name_at-requires : goal.name_at-requires
name_at-requires c =
    let l = lies_true c.args.notice.now c.args.last (c.requires.0.lies (after_one c.before)) in
    omega (arith, l.room, l.within)

pub returns : goal.returns
returns c =
    let a = c.args in
    let s = a.notice.now in
    let e = c.before.before.before.before in
    rw (right e) (c.before-2.ensures
    ∙ ap₂ before_of (not_folded c.name_at.result.now ∙ (c.name_at.ensures ∙ sym (last_name s a.last (after_one e)))) (not_folded c.name_at-2.result.now ∙ c.name_at-2.ensures))
