use mathlib.Core.Path.{sym, ◌∙◌}
use native.Mathlib.Omega.{arith}
use Rattle.regexp.proofs.Walks.{walk_start, item_walk, repeat_walk, open_walk, bar_walk, close_walk, room_inside, walk_end, walk_broken}
use Rattle.regexp.proofs.Simple.{easy_inside, easy_walk}
use Rattle.regexp.proofs.branch_end.Goals as goal

pub loop-some-init : goal.loop-some-init
loop-some-init c = (omega arith, c.requires, omega arith, walk_start c.args.text.now c.args.from)

pub loop-some-preserved-then-easy : goal.loop-some-preserved-then-easy
loop-some-preserved-then-easy c =
    let l = c.loop-some in let e = sym c.easy.ensures ∙ c.if-easy.true in let h = easy_inside c.args.text.now l.i l.some e in (omega (arith, l.invariant.0), omega (arith, h), l.invariant.2, easy_walk c.args.text.now l.i l.some c.args.from l.room l.invariant.3 e)

pub loop-some-preserved-in-Item : goal.loop-some-preserved-in-Item
loop-some-preserved-in-Item c =
    let l = c.loop-some in let q = rw c.in-Item.is at c.allowed.ensures in (omega (arith, q.3, l.invariant.0, l.invariant.1, l.invariant.2), q.4, l.invariant.2, item_walk c.args.text.now c.args.from l.room l.some l.i l.invariant.3 q.0.0 c.in-Item.j q.0.1)

pub loop-some-preserved-in-Repeat : goal.loop-some-preserved-in-Repeat
loop-some-preserved-in-Repeat c =
    let l = c.loop-some in let q = rw c.in-Repeat.is at c.allowed.ensures in (omega (arith, l.invariant.0, l.invariant.1, l.invariant.2), omega (arith, q.2), l.invariant.2, repeat_walk c.args.text.now c.args.from l.room l.some l.i l.invariant.3 q.0.0 q.0.1 q.1)

pub loop-some-preserved-in-Open : goal.loop-some-preserved-in-Open
loop-some-preserved-in-Open c =
    let l = c.loop-some in let q = rw c.in-Open.is at c.allowed.ensures in (omega (arith, l.invariant.0, l.invariant.1, l.invariant.2), omega (arith, q.2), omega (arith, l.invariant.0, l.invariant.1, l.invariant.2), open_walk c.args.text.now c.args.from l.room l.some l.i l.invariant.3 q.0 q.1)

pub loop-some-preserved-in-Bar : goal.loop-some-preserved-in-Bar
loop-some-preserved-in-Bar c =
    let l = c.loop-some in let q = rw c.in-Bar.is at c.allowed.ensures in (omega (arith, l.invariant.0, l.invariant.1, l.invariant.2), omega (arith, q.3), l.invariant.2, bar_walk c.args.text.now c.args.from l.room l.some l.i l.invariant.3 q.0 q.1 q.2)

pub loop-some-preserved : goal.loop-some-preserved
loop-some-preserved c =
    let l = c.loop-some in let q = rw c.in-Close.is at c.allowed.ensures in (omega (arith, l.invariant.0, l.invariant.1, l.invariant.2), omega (arith, q.3), omega (arith, room_inside c.args.text.now c.args.from l.room l.some l.i l.invariant.3 q.1), close_walk c.args.text.now c.args.from l.room l.some l.i l.invariant.3 q.0 q.1 q.2)

pub returns-in-Stop : goal.returns-in-Stop
returns-in-Stop c =
    let l = c.loop-some in let q = rw c.in-Stop.is at c.allowed.ensures in (l.invariant.0, l.invariant.1, (l.invariant.3.1, (walk_end c.args.text.now c.args.from l.room l.some l.i l.invariant.3 q.0 q.1).0, l.invariant.3.4))

pub returns-in-Bad : goal.returns-in-Bad
returns-in-Bad c =
    let l = c.loop-some in walk_broken c.args.text.now c.args.from l.room l.some l.i l.invariant.3 (rw c.in-Bad.is at c.allowed.ensures)
