use mathlib.Core.Path.{◌≡◌, sym, ◌∙◌}
use lib.ListN.{length}
use mathlib.Core.Bool.{false}
use native.Mathlib.Omega.{arith}
use Rattle.lexer.proofs.Runs.{plain_stop, plain_end, free_more}
use Rattle.lexer.proofs.run.free_length.Goals as goal

pub loop-i-init : goal.loop-i-init
loop-i-init c = (omega arith, omega arith)

pub returns-then-ends : goal.returns-then-ends
returns-then-ends c =
    let a = c.args in
    let l = c.loop-i in
    (l.invariant, (λ f. plain_stop a.s.now l.i (omega arith) a.quote false (sym c.ends.ensures ∙ c.if-ends.true)))

pub returns-then-b-eq92 : goal.returns-then-b-eq92
returns-then-b-eq92 c = (c.loop-i.invariant, (λ f. absurd (f c.if-b-eq92.true)))

pub loop-i-preserved : goal.loop-i-preserved
loop-i-preserved c =
    let a = c.args in
    let l = c.loop-i in
    free_more a.s.now l.i (omega arith) a.quote (sym c.ends.ensures ∙ c.if-ends.false) c.if-b-eq92.false l.invariant

pub returns : goal.returns
returns c =
    let a = c.args in
    let l = c.loop-i in
    let z : length a.s.now ≡ l.i = omega arith in
    rw z ((omega arith, l.invariant.1), (λ f. plain_end a.s.now l.i (omega arith) a.quote false))
