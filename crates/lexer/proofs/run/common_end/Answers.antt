use Prim.Native.Nat.{◌-◌}
use mathlib.Core.Path.{◌≡◌, refl, sym, ◌∙◌}
use native.Mathlib.Omega.{arith}
use lib.ListN.{get_or, drop}
use Rattle.lexer.proofs.Bytes.{low_common}
use Rattle.lexer.proofs.Runs.{passes_first, goes_on_at}
use Rattle.lexer.proofs.run.common_end.Goals as goal

pub loop-i-init : goal.loop-i-init
loop-i-init c =
    let z : c.args.at - c.args.at ≡ 0 = omega arith in
    (omega arith, omega arith, rw z (passes_first 0 (drop c.args.at c.args.s.now), refl))

pub returns-then-not-is_common : goal.returns-then-not-is_common
returns-then-not-is_common c = (c.loop-i.invariant.0, c.loop-i.invariant.2)

pub loop-i-preserved-then-b-lt94 : goal.loop-i-preserved-then-b-lt94
loop-i-preserved-then-b-lt94 c =
    let l = c.loop-i in
    let e = sym c.is_common.ensures ∙ c.if-not-is_common.false in
    (omega arith, omega arith, goes_on_at c.args.s.now c.args.at l.i l.invariant.0 (omega arith) e l.invariant.2)

pub returns-then-b-gt126 : goal.returns-then-b-gt126
returns-then-b-gt126 c = (c.loop-i.invariant.0, c.loop-i.invariant.2)

pub loop-i-preserved : goal.loop-i-preserved
loop-i-preserved c =
    let l = c.loop-i in
    let e = low_common (get_or c.args.s.now l.i 0) c.if-b-lt94.false c.if-b-gt126.false in
    (omega arith, omega arith, goes_on_at c.args.s.now c.args.at l.i l.invariant.0 (omega arith) e l.invariant.2)

pub returns : goal.returns
returns c =
    let z : c.max.result ≡ c.loop-i.i = omega arith in
    rw z (c.loop-i.invariant.0, c.loop-i.invariant.2)
