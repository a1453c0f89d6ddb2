use mathlib.Core.Path.{refl, sym, ◌∙◌}
use Prim.Native.Nat.{◌+◌}
use native.Mathlib.Omega.{arith}
use lib.ListN.{length-set, get_or, replicate}
use Rattle.regexp.proofs.Walks.{room_inside, walk_broken}
use Rattle.regexp.proofs.Turns.{begins, item_turn, last_inside, repeat_turn, open_turn, bar_turn, open_inside, close_turn, walked, finish}
use Rattle.regexp.proofs.Simple.{easy_plain}
use Rattle.regexp.proofs.branch.Goals as goal

pub loop-last-init : goal.loop-last-init
loop-last-init c =
    (omega arith, c.requires.0, refl, refl, refl, omega arith, begins c.args.text.now c.args.kinds.now c.args.args.now c.args.from (replicate 8 0) 0)

pub loop-last-preserved-then-easy : goal.loop-last-preserved-then-easy
loop-last-preserved-then-easy c =
    let l = c.loop-last in let q = easy_plain c.args.text.now l.i (sym c.easy.ensures ∙ c.if-easy.true) in (omega (arith, q.2, q.3, q.4, l.invariant.0, l.invariant.1, l.invariant.2, l.invariant.3, l.invariant.4, l.invariant.5, c.requires.0, c.requires.1, c.requires.2, c.requires.3), q.4, simp length-set l.invariant.2, simp length-set l.invariant.3, l.invariant.4, l.invariant.5, rw c.narrow.ensures (item_turn c.args.text.now l.kinds l.args c.args.from l.opens l.room l.last l.some l.n l.i l.invariant.6 (omega (arith, q.2, q.3, q.4, l.invariant.0, l.invariant.1, l.invariant.2, l.invariant.3, l.invariant.4, l.invariant.5, c.requires.0, c.requires.1, c.requires.2, c.requires.3)) (omega (arith, q.2, q.3, q.4, l.invariant.0, l.invariant.1, l.invariant.2, l.invariant.3, l.invariant.4, l.invariant.5, c.requires.0, c.requires.1, c.requires.2, c.requires.3)) 0 l.i (l.i + 1) q.0.0 q.0.1 q.0.2 q.1 q.6 q.7))

pub loop-last-preserved-in-Item : goal.loop-last-preserved-in-Item
loop-last-preserved-in-Item c =
    let l = c.loop-last in let q = rw c.in-Item.is at c.allowed.ensures in (omega (arith, q.2, q.3, q.4, l.invariant.0, l.invariant.1, l.invariant.2, l.invariant.3, l.invariant.4, l.invariant.5, c.requires.0, c.requires.1, c.requires.2, c.requires.3), q.4, simp length-set l.invariant.2, simp length-set l.invariant.3, l.invariant.4, l.invariant.5, rw c.narrow-in-Item.ensures (item_turn c.args.text.now l.kinds l.args c.args.from l.opens l.room l.last l.some l.n l.i l.invariant.6 (omega (arith, q.2, q.3, q.4, l.invariant.0, l.invariant.1, l.invariant.2, l.invariant.3, l.invariant.4, l.invariant.5, c.requires.0, c.requires.1, c.requires.2, c.requires.3)) (omega (arith, q.2, q.3, q.4, l.invariant.0, l.invariant.1, l.invariant.2, l.invariant.3, l.invariant.4, l.invariant.5, c.requires.0, c.requires.1, c.requires.2, c.requires.3)) c.in-Item.k c.in-Item.a c.in-Item.j q.0.0 q.0.1 q.0.2 q.1 q.6 q.7))

pub bounds-kinds-last : goal.bounds-kinds-last
bounds-kinds-last c =
    let l = c.loop-last in let q = rw c.in-Repeat.is at c.allowed.ensures in let li = last_inside c.args.text.now l.kinds l.args c.args.from l.opens l.room l.last l.some l.n l.i l.invariant.6 (omega (arith, q.2, l.invariant.0, l.invariant.1, l.invariant.2, l.invariant.3, l.invariant.4, l.invariant.5, c.requires.0, c.requires.1, c.requires.2, c.requires.3)) (omega (arith, q.2, l.invariant.0, l.invariant.1, l.invariant.2, l.invariant.3, l.invariant.4, l.invariant.5, c.requires.0, c.requires.1, c.requires.2, c.requires.3)) q.1 in omega (arith, li, q.2, l.invariant.0, l.invariant.1, l.invariant.2, l.invariant.3, l.invariant.4, l.invariant.5, c.requires.0, c.requires.1, c.requires.2, c.requires.3)

pub bounds-kinds-last-in-Repeat : goal.bounds-kinds-last-in-Repeat
bounds-kinds-last-in-Repeat c =
    let l = c.loop-last in let q = rw c.in-Repeat.is at c.allowed.ensures in let li = last_inside c.args.text.now l.kinds l.args c.args.from l.opens l.room l.last l.some l.n l.i l.invariant.6 (omega (arith, q.2, l.invariant.0, l.invariant.1, l.invariant.2, l.invariant.3, l.invariant.4, l.invariant.5, c.requires.0, c.requires.1, c.requires.2, c.requires.3)) (omega (arith, q.2, l.invariant.0, l.invariant.1, l.invariant.2, l.invariant.3, l.invariant.4, l.invariant.5, c.requires.0, c.requires.1, c.requires.2, c.requires.3)) q.1 in omega (arith, li, q.2, l.invariant.0, l.invariant.1, l.invariant.2, l.invariant.3, l.invariant.4, l.invariant.5, c.requires.0, c.requires.1, c.requires.2, c.requires.3)

pub overflow_sub-e : goal.overflow_sub-e
overflow_sub-e c =
    let l = c.loop-last in let q = rw c.in-Repeat.is at c.allowed.ensures in let li = last_inside c.args.text.now l.kinds l.args c.args.from l.opens l.room l.last l.some l.n l.i l.invariant.6 (omega (arith, q.2, l.invariant.0, l.invariant.1, l.invariant.2, l.invariant.3, l.invariant.4, l.invariant.5, c.requires.0, c.requires.1, c.requires.2, c.requires.3)) (omega (arith, q.2, l.invariant.0, l.invariant.1, l.invariant.2, l.invariant.3, l.invariant.4, l.invariant.5, c.requires.0, c.requires.1, c.requires.2, c.requires.3)) q.1 in omega (arith, li, q.2, l.invariant.0, l.invariant.1, l.invariant.2, l.invariant.3, l.invariant.4, l.invariant.5, c.requires.0, c.requires.1, c.requires.2, c.requires.3)

pub loop-last-preserved-in-Repeat : goal.loop-last-preserved-in-Repeat
loop-last-preserved-in-Repeat c =
    let l = c.loop-last in let q = rw c.in-Repeat.is at c.allowed.ensures in let li = last_inside c.args.text.now l.kinds l.args c.args.from l.opens l.room l.last l.some l.n l.i l.invariant.6 (omega (arith, q.2, l.invariant.0, l.invariant.1, l.invariant.2, l.invariant.3, l.invariant.4, l.invariant.5, c.requires.0, c.requires.1, c.requires.2, c.requires.3)) (omega (arith, q.2, l.invariant.0, l.invariant.1, l.invariant.2, l.invariant.3, l.invariant.4, l.invariant.5, c.requires.0, c.requires.1, c.requires.2, c.requires.3)) q.1 in (omega (arith, q.2, l.invariant.0, l.invariant.1, l.invariant.2, l.invariant.3, l.invariant.4, l.invariant.5, c.requires.0, c.requires.1, c.requires.2, c.requires.3), omega (arith, q.2, l.invariant.0, l.invariant.1, l.invariant.2, l.invariant.3, l.invariant.4, l.invariant.5, c.requires.0, c.requires.1, c.requires.2, c.requires.3), simp length-set l.invariant.2, l.invariant.3, l.invariant.4, l.invariant.5, repeat_turn c.args.text.now l.kinds l.args c.args.from l.opens l.room l.last l.some l.n l.i l.invariant.6 (omega (arith, q.2, l.invariant.0, l.invariant.1, l.invariant.2, l.invariant.3, l.invariant.4, l.invariant.5, c.requires.0, c.requires.1, c.requires.2, c.requires.3)) (omega (arith, q.2, l.invariant.0, l.invariant.1, l.invariant.2, l.invariant.3, l.invariant.4, l.invariant.5, c.requires.0, c.requires.1, c.requires.2, c.requires.3)) q.0.0 c.repeated.result c.optional.result q.0.1 q.1 (rw (← q.0.2) at c.repeated.ensures) (rw (← q.0.3) at c.optional.ensures))

pub loop-last-preserved-in-Open : goal.loop-last-preserved-in-Open
loop-last-preserved-in-Open c =
    let l = c.loop-last in let q = rw c.in-Open.is at c.allowed.ensures in (omega (arith, q.1, q.2, l.invariant.0, l.invariant.1, l.invariant.2, l.invariant.3, l.invariant.4, l.invariant.5, c.requires.0, c.requires.1, c.requires.2, c.requires.3), omega (arith, q.1, q.2, l.invariant.0, l.invariant.1, l.invariant.2, l.invariant.3, l.invariant.4, l.invariant.5, c.requires.0, c.requires.1, c.requires.2, c.requires.3), simp length-set l.invariant.2, simp length-set l.invariant.3, simp length-set l.invariant.4, omega (arith, q.1, q.2, l.invariant.0, l.invariant.1, l.invariant.2, l.invariant.3, l.invariant.4, l.invariant.5, c.requires.0, c.requires.1, c.requires.2, c.requires.3), open_turn c.args.text.now l.kinds l.args c.args.from l.opens l.room l.last l.some l.n l.i l.invariant.6 (omega (arith, q.1, q.2, l.invariant.0, l.invariant.1, l.invariant.2, l.invariant.3, l.invariant.4, l.invariant.5, c.requires.0, c.requires.1, c.requires.2, c.requires.3)) (omega (arith, q.1, q.2, l.invariant.0, l.invariant.1, l.invariant.2, l.invariant.3, l.invariant.4, l.invariant.5, c.requires.0, c.requires.1, c.requires.2, c.requires.3)) q.0 q.1 (omega (arith, q.1, q.2, l.invariant.0, l.invariant.1, l.invariant.2, l.invariant.3, l.invariant.4, l.invariant.5, c.requires.0, c.requires.1, c.requires.2, c.requires.3)))

pub loop-last-preserved-in-Bar : goal.loop-last-preserved-in-Bar
loop-last-preserved-in-Bar c =
    let l = c.loop-last in let q = rw c.in-Bar.is at c.allowed.ensures in (omega (arith, q.3, l.invariant.0, l.invariant.1, l.invariant.2, l.invariant.3, l.invariant.4, l.invariant.5, c.requires.0, c.requires.1, c.requires.2, c.requires.3), omega (arith, q.3, l.invariant.0, l.invariant.1, l.invariant.2, l.invariant.3, l.invariant.4, l.invariant.5, c.requires.0, c.requires.1, c.requires.2, c.requires.3), simp length-set l.invariant.2, simp length-set l.invariant.3, l.invariant.4, l.invariant.5, bar_turn c.args.text.now l.kinds l.args c.args.from l.opens l.room l.last l.some l.n l.i l.invariant.6 (omega (arith, q.3, l.invariant.0, l.invariant.1, l.invariant.2, l.invariant.3, l.invariant.4, l.invariant.5, c.requires.0, c.requires.1, c.requires.2, c.requires.3)) (omega (arith, q.3, l.invariant.0, l.invariant.1, l.invariant.2, l.invariant.3, l.invariant.4, l.invariant.5, c.requires.0, c.requires.1, c.requires.2, c.requires.3)) q.0 q.1 q.2)

pub overflow_sub-n : goal.overflow_sub-n
overflow_sub-n c =
    let l = c.loop-last in let q = rw c.in-Close.is at c.allowed.ensures in let oi = open_inside c.args.text.now l.kinds l.args c.args.from l.opens l.room l.last l.some l.n l.i l.invariant.6 (omega (arith, q.3, l.invariant.0, l.invariant.1, l.invariant.2, l.invariant.3, l.invariant.4, l.invariant.5, c.requires.0, c.requires.1, c.requires.2, c.requires.3)) (omega (arith, q.3, l.invariant.0, l.invariant.1, l.invariant.2, l.invariant.3, l.invariant.4, l.invariant.5, c.requires.0, c.requires.1, c.requires.2, c.requires.3)) q.1 in let ri = room_inside c.args.text.now c.args.from l.room l.some l.i (walked c.args.text.now l.kinds l.args c.args.from l.opens l.room l.last l.some l.n l.i l.invariant.6) q.1 in omega (arith, oi, ri, q.3, l.invariant.0, l.invariant.1, l.invariant.2, l.invariant.3, l.invariant.4, l.invariant.5, c.requires.0, c.requires.1, c.requires.2, c.requires.3)

pub overflow_sub-n-in-Close : goal.overflow_sub-n-in-Close
overflow_sub-n-in-Close c =
    let l = c.loop-last in let q = rw c.in-Close.is at c.allowed.ensures in let oi = open_inside c.args.text.now l.kinds l.args c.args.from l.opens l.room l.last l.some l.n l.i l.invariant.6 (omega (arith, q.3, l.invariant.0, l.invariant.1, l.invariant.2, l.invariant.3, l.invariant.4, l.invariant.5, c.requires.0, c.requires.1, c.requires.2, c.requires.3)) (omega (arith, q.3, l.invariant.0, l.invariant.1, l.invariant.2, l.invariant.3, l.invariant.4, l.invariant.5, c.requires.0, c.requires.1, c.requires.2, c.requires.3)) q.1 in let ri = room_inside c.args.text.now c.args.from l.room l.some l.i (walked c.args.text.now l.kinds l.args c.args.from l.opens l.room l.last l.some l.n l.i l.invariant.6) q.1 in omega (arith, oi, ri, q.3, l.invariant.0, l.invariant.1, l.invariant.2, l.invariant.3, l.invariant.4, l.invariant.5, c.requires.0, c.requires.1, c.requires.2, c.requires.3)

pub offset_bounds-args-last : goal.offset_bounds-args-last
offset_bounds-args-last c =
    let l = c.loop-last in let q = rw c.in-Close.is at c.allowed.ensures in let oi = open_inside c.args.text.now l.kinds l.args c.args.from l.opens l.room l.last l.some l.n l.i l.invariant.6 (omega (arith, q.3, l.invariant.0, l.invariant.1, l.invariant.2, l.invariant.3, l.invariant.4, l.invariant.5, c.requires.0, c.requires.1, c.requires.2, c.requires.3)) (omega (arith, q.3, l.invariant.0, l.invariant.1, l.invariant.2, l.invariant.3, l.invariant.4, l.invariant.5, c.requires.0, c.requires.1, c.requires.2, c.requires.3)) q.1 in let ri = room_inside c.args.text.now c.args.from l.room l.some l.i (walked c.args.text.now l.kinds l.args c.args.from l.opens l.room l.last l.some l.n l.i l.invariant.6) q.1 in omega (arith, oi, ri, q.3, l.invariant.0, l.invariant.1, l.invariant.2, l.invariant.3, l.invariant.4, l.invariant.5, c.requires.0, c.requires.1, c.requires.2, c.requires.3)

pub bounds-args-last : goal.bounds-args-last
bounds-args-last c =
    let l = c.loop-last in let q = rw c.in-Close.is at c.allowed.ensures in let oi = open_inside c.args.text.now l.kinds l.args c.args.from l.opens l.room l.last l.some l.n l.i l.invariant.6 (omega (arith, q.3, l.invariant.0, l.invariant.1, l.invariant.2, l.invariant.3, l.invariant.4, l.invariant.5, c.requires.0, c.requires.1, c.requires.2, c.requires.3)) (omega (arith, q.3, l.invariant.0, l.invariant.1, l.invariant.2, l.invariant.3, l.invariant.4, l.invariant.5, c.requires.0, c.requires.1, c.requires.2, c.requires.3)) q.1 in let ri = room_inside c.args.text.now c.args.from l.room l.some l.i (walked c.args.text.now l.kinds l.args c.args.from l.opens l.room l.last l.some l.n l.i l.invariant.6) q.1 in omega (arith, oi, ri, q.3, l.invariant.0, l.invariant.1, l.invariant.2, l.invariant.3, l.invariant.4, l.invariant.5, c.requires.0, c.requires.1, c.requires.2, c.requires.3)

pub loop-last-preserved : goal.loop-last-preserved
loop-last-preserved c =
    let l = c.loop-last in let q = rw c.in-Close.is at c.allowed.ensures in let oi = open_inside c.args.text.now l.kinds l.args c.args.from l.opens l.room l.last l.some l.n l.i l.invariant.6 (omega (arith, q.3, l.invariant.0, l.invariant.1, l.invariant.2, l.invariant.3, l.invariant.4, l.invariant.5, c.requires.0, c.requires.1, c.requires.2, c.requires.3)) (omega (arith, q.3, l.invariant.0, l.invariant.1, l.invariant.2, l.invariant.3, l.invariant.4, l.invariant.5, c.requires.0, c.requires.1, c.requires.2, c.requires.3)) q.1 in let ri = room_inside c.args.text.now c.args.from l.room l.some l.i (walked c.args.text.now l.kinds l.args c.args.from l.opens l.room l.last l.some l.n l.i l.invariant.6) q.1 in (omega (arith, q.3, l.invariant.0, l.invariant.1, l.invariant.2, l.invariant.3, l.invariant.4, l.invariant.5, c.requires.0, c.requires.1, c.requires.2, c.requires.3), omega (arith, q.3, l.invariant.0, l.invariant.1, l.invariant.2, l.invariant.3, l.invariant.4, l.invariant.5, c.requires.0, c.requires.1, c.requires.2, c.requires.3), simp length-set l.invariant.2, simp length-set l.invariant.3, l.invariant.4, omega (arith, oi, ri, q.3, l.invariant.0, l.invariant.1, l.invariant.2, l.invariant.3, l.invariant.4, l.invariant.5, c.requires.0, c.requires.1, c.requires.2, c.requires.3), close_turn c.args.text.now l.kinds l.args c.args.from l.opens l.room l.last l.some l.n l.i l.invariant.6 (omega (arith, q.3, l.invariant.0, l.invariant.1, l.invariant.2, l.invariant.3, l.invariant.4, l.invariant.5, c.requires.0, c.requires.1, c.requires.2, c.requires.3)) (omega (arith, q.3, l.invariant.0, l.invariant.1, l.invariant.2, l.invariant.3, l.invariant.4, l.invariant.5, c.requires.0, c.requires.1, c.requires.2, c.requires.3)) (get_or l.opens l.room 0) c.narrow-in-Close.result refl c.narrow-in-Close.ensures q.0 q.1 q.2)

pub returns-in-Stop : goal.returns-in-Stop
returns-in-Stop c =
    let l = c.loop-last in let q = rw c.in-Stop.is at c.allowed.ensures in let f = finish c.args.text.now l.kinds l.args c.args.from l.opens l.room l.last l.some l.n l.i l.invariant.6 q.0 q.1 in (omega (arith, l.invariant.0), l.invariant.1, (f.0, f.1, f.2, (omega (arith, l.invariant.0, l.invariant.1), f.3)))

pub returns-in-Bad : goal.returns-in-Bad
returns-in-Bad c =
    let l = c.loop-last in walk_broken c.args.text.now c.args.from l.room l.some l.i (walked c.args.text.now l.kinds l.args c.args.from l.opens l.room l.last l.some l.n l.i l.invariant.6) (rw c.in-Bad.is at c.allowed.ensures)
