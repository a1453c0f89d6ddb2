use mathlib.Core.Path.{refl, sym, ap, ◌∙◌}
use native.Mathlib.Omega.{arith}
use lib.ListN.{length, length-set}
use Rattle.lexer.proofs.Runs.{dropped, kept, copied, plain_stop, plain_end}
use Rattle.lexer.proofs.run.copy_plain.Goals as goal

pub loop-b-init : goal.loop-b-init
loop-b-init c = (omega arith, omega arith, refl, omega arith, refl)

pub returns-then-taken-ends : goal.returns-then-taken-ends
returns-then-taken-ends c =
    let l = c.loop-b in
    let z = plain_stop c.args.s.now l.b-index (omega arith) c.args.quote l.taken (rw c.ends.ensures at c.if-taken-ends.true) in
    record { value = omega (arith, ap length z, l.invariant.3); part_after = rw z at l.invariant.4 }

pub loop-b-preserved-then-taken : goal.loop-b-preserved-then-taken
loop-b-preserved-then-taken c =
    let l = c.loop-b in
    let e = rw c.ends.ensures at c.if-taken-ends.false in
    let d = dropped c.args.s.now l.b-index (omega arith) c.args.quote l.taken e (sym c.takes-taken.ensures ∙ c.if-taken.true) in
    rw c.if-taken.true (omega arith, omega arith, l.invariant.2, omega (arith, ap length d, l.invariant.3), rw d l.invariant.4)

pub loop-b-preserved : goal.loop-b-preserved
loop-b-preserved c =
    let l = c.loop-b in
    let e = rw c.ends.ensures at c.if-taken-ends.false in
    let p = c.put in
    let f = sym c.takes-taken.ensures ∙ c.if-taken.false in
    let d = kept c.args.s.now l.b-index (omega arith) c.args.quote l.taken e f in
    let w = copied c.args.s.now l.b-index (omega arith) c.args.quote l.taken e p.new.part l.part l.n f p.ensures in
    rw c.if-taken.false (omega arith, omega arith, ap length p.ensures ∙ simp length-set l.invariant.2, omega (arith, ap length d, l.invariant.3), w ∙ l.invariant.4)

pub returns : goal.returns
returns c =
    let l = c.loop-b in
    let z = plain_end c.args.s.now l.b-index (omega arith) c.args.quote l.taken in
    record { value = omega (arith, ap length z, l.invariant.3); part_after = rw z at l.invariant.4 }
