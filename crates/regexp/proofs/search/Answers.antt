use mathlib.Core.Path.{refl, ◌∙◌}
use native.Mathlib.Omega.{arith}
use mathlib.Core.List.{[]}
use Rattle.octets.specs.Octets.{folded}
use Rattle.regexp.proofs.Loops.{search_last, search_hit, search_on, search_bad}
use Rattle.regexp.proofs.search.Goals as goal

pub loop-n-init : goal.loop-n-init
loop-n-init c = (omega arith, refl, refl, refl, refl)

pub returns-in-Some-Last : goal.returns-in-Some-Last
returns-in-Some-Last c =
    let l = c.loop-n in let q0 = rw c.in-Some-Last.is at c.next_branch.ensures in let q = rw c.in-Some-Last.field-0-is at q0 in let h = q.2.0 in search_last c.args.p.now (folded c.args.s_mark c.args.s.now) l.i l.first _ _ l.invariant.4 _ _ _ q (omega (arith, h, c.kinds-1.given, l.invariant.1, c.requires.1)) (omega (arith, h, c.args-1.given, l.invariant.2, c.requires.2)) _ c.found.ensures

pub returns-then-found : goal.returns-then-found
returns-then-found c =
    let l = c.loop-n in let q0 = rw c.in-Some-More.is at c.next_branch.ensures in let q = rw c.in-Some-More.field-0-is at q0 in let h = q.2.2.0 in search_hit c.args.p.now (folded c.args.s_mark c.args.s.now) l.i l.first _ _ l.invariant.4 _ _ _ q (omega (arith, h, c.kinds-1.given, l.invariant.1, c.requires.1)) (omega (arith, h, c.args-1.given, l.invariant.2, c.requires.2)) _ c.found-in-Some-More.ensures c.if-found.true c.all_branches.result c.all_branches.ensures

pub loop-n-preserved : goal.loop-n-preserved
loop-n-preserved c =
    let l = c.loop-n in let q0 = rw c.in-Some-More.is at c.next_branch.ensures in let q = rw c.in-Some-More.field-0-is at q0 in let h = q.2.2.0 in (q.1, c.kinds-1.given ∙ l.invariant.1, c.args-1.given ∙ l.invariant.2, c.marks-in-Some-More-1.given ∙ l.invariant.3, search_on c.args.p.now (folded c.args.s_mark c.args.s.now) l.i l.first _ _ l.invariant.4 _ _ _ q (omega (arith, h, c.kinds-1.given, l.invariant.1, c.requires.1)) (omega (arith, h, c.args-1.given, l.invariant.2, c.requires.2)) _ c.found-in-Some-More.ensures c.if-found.false)

pub returns-in-None : goal.returns-in-None
returns-in-None c =
    let l = c.loop-n in search_bad c.args.p.now (folded c.args.s_mark c.args.s.now) l.i l.first [] [] l.invariant.4 (rw c.in-None.is at c.next_branch.ensures)
