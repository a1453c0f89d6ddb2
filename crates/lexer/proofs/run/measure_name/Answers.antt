use mathlib.Core.Path.{sym, ap, ◌∙◌}
use mathlib.Core.Bool.{true, false}
use native.Mathlib.Omega.{arith}
use lib.ListN.{length}
use Rattle.lexer.proofs.Runs.{passes_length, run_stop, run_more, run_end, dropped, kept, plain_stop, plain_end, legal-so-far, legal_stop, legal_end}
use Rattle.lexer.proofs.run.measure_name.Goals as goal

pub loop-i-init : goal.loop-i-init
loop-i-init c =
    let g = c.requires in
    (g.0.0, omega arith, g.0.1, passes_length 0 c.args.s.now c.args.first g.0, g.1)

pub returns-then-taken-ends : goal.returns-then-taken-ends
returns-then-taken-ends c =
    let s = c.args.s.now in
    let l = c.loop-i in
    let e = rw c.ends.ensures at c.if-taken-ends.true in
    let z = run_stop s l.i (omega arith) 0 l.taken e in
    let p = plain_stop s l.i (omega arith) 0 l.taken e in
    let y = legal_stop s l.i (omega arith) 0 l.taken e in
    (omega (arith, z, l.invariant.2), omega (arith, ap length p, l.invariant.3), (rw y at l.invariant.4))

pub loop-i-preserved-then-taken : goal.loop-i-preserved-then-taken
loop-i-preserved-then-taken c =
    let l = c.loop-i in
    let e = rw c.ends.ensures at c.if-taken-ends.false in
    let s = c.args.s.now in
    let g = sym c.takes-taken.ensures ∙ c.if-taken.true in
    let m = run_more s l.i (omega arith) 0 l.taken e in
    let d = dropped s l.i (omega arith) 0 l.taken e g in
    let y = legal-so-far s l.i (omega arith) 0 l.taken e l.legal true g in
    rw c.if-taken.true (omega arith, omega arith, omega (arith, (rw g at m), l.invariant.2), omega (arith, ap length d, l.invariant.3), rw c.legal_byte-legal.ensures (y ∙ l.invariant.4))

pub loop-i-preserved : goal.loop-i-preserved
loop-i-preserved c =
    let l = c.loop-i in
    let e = rw c.ends.ensures at c.if-taken-ends.false in
    let s = c.args.s.now in
    let g = sym c.takes-taken.ensures ∙ c.if-taken.false in
    let m = run_more s l.i (omega arith) 0 l.taken e in
    let d = kept s l.i (omega arith) 0 l.taken e g in
    let y = legal-so-far s l.i (omega arith) 0 l.taken e l.legal false g in
    rw c.if-taken.false (omega arith, omega arith, omega (arith, (rw g at m), l.invariant.2), omega (arith, ap length d, l.invariant.3), rw c.legal_byte-legal.ensures (y ∙ l.invariant.4))

pub returns : goal.returns
returns c =
    let s = c.args.s.now in
    let l = c.loop-i in
    let z = run_end s l.i (omega arith) 0 l.taken in
    let p = plain_end s l.i (omega arith) 0 l.taken in
    let y = legal_end s l.i (omega arith) 0 l.taken in
    (omega (arith, z, l.invariant.2), omega (arith, ap length p, l.invariant.3), (rw y at l.invariant.4))
