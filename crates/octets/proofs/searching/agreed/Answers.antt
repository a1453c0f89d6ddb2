use Prim.Native.Nat.{◌+◌}
use mathlib.Core.Path.{◌≡◌, refl, sym, ◌∙◌}
use native.Mathlib.Omega.{arith}
use lib.ListN.{length}
use borrow.Author.Tests.{eq-eqb, ne_eqb}
use Rattle.octets.specs.Octets.{fold}
use Rattle.octets.proofs.Places.{begins_more, begins_stop, begins_end}
use Rattle.octets.proofs.searching.agreed.Goals as goal

pub loop-j-init : goal.loop-j-init
loop-j-init c =
    let a = c.args in
    begins_more (fold a.s_mark) (fold a.p_mark) a.s.now a.p.now a.at 0 (omega arith) (omega arith) c.requires.2

pub returns-then-fold : goal.returns-then-fold
returns-then-fold c =
    let l = c.loop-j in
    let a = c.args in
    ne_eqb l.j (length a.p.now) (λ e. omega arith)
    ∙ sym (begins_stop (fold a.s_mark) (fold a.p_mark) a.s.now a.p.now (a.at + l.j) l.j (omega arith) (omega arith)
    (λ e. c.if-fold.true (c.fold.ensures ∙ e ∙ sym c.fold-in-loop-j.ensures)))
    ∙ l.invariant

pub loop-j-preserved : goal.loop-j-preserved
loop-j-preserved c =
    let l = c.loop-j in
    let a = c.args in
    let e : a.at + (l.j + 1) ≡ a.at + l.j + 1 = omega arith in
    rw e
    (begins_more (fold a.s_mark) (fold a.p_mark) a.s.now a.p.now (a.at + l.j) l.j (omega arith) (omega arith)
    (sym c.fold.ensures ∙ c.if-fold.false ∙ c.fold-in-loop-j.ensures) ∙ l.invariant)

pub returns : goal.returns
returns c =
    let l = c.loop-j in
    let a = c.args in
    eq-eqb (length a.p.now) (length a.p.now) refl
    ∙ sym (begins_end (fold a.s_mark) (fold a.p_mark) a.s.now a.p.now (a.at + l.j) l.j (omega arith)) ∙ l.invariant
