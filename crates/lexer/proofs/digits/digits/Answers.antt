use mathlib.Core.Path.{◌≡◌, refl}
use native.Mathlib.Omega.{arith}
use Rattle.lexer.proofs.Wholes.{digits_stop, digits_end, read_more, read_end}
use Rattle.lexer.proofs.digits.digits.Goals as goal

pub loop-i-init : goal.loop-i-init
loop-i-init c = (c.requires.2, omega arith, (refl, refl))

pub returns-then-base-d : goal.returns-then-base-d
returns-then-base-d c =
    let l = c.loop-i in
    let a = c.args in
    let e = digits_stop a.s.now l.i a.base (omega arith) (rw c.digit-d.ensures.0 at c.if-base-d.true) in
    read_end a.s.now a.at a.base a.high l.i l.value l.invariant.0 e l.invariant.2

pub with_digit-value-requires : goal.with_digit-value-requires
with_digit-value-requires c = (c.requires.0, c.requires.1, c.digit-d.ensures.1)

pub loop-i-preserved : goal.loop-i-preserved
loop-i-preserved c =
    let l = c.loop-i in
    let a = c.args in
    let p = c.requires in
    let e = rw c.digit-d.ensures.0 at c.with_digit-value.ensures in
    let d = rw c.digit-d.ensures.0 at c.if-base-d.false in
    (omega (arith, e), omega arith, read_more a.s.now a.at a.base a.high l.i l.value p.0 (omega arith) d c.with_digit-value.result e l.invariant.2)

pub returns : goal.returns
returns c =
    let l = c.loop-i in
    let a = c.args in
    let e = digits_end a.s.now l.i a.base (omega arith) in
    let z : c.max.result ≡ l.i = omega arith in
    rw z (read_end a.s.now a.at a.base a.high l.i l.value l.invariant.0 e l.invariant.2)
