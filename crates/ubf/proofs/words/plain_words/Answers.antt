use Prim.Native.Nat.{◌+◌}
use native.Mathlib.Omega.{arith}
use Rattle.ubf.proofs.Plains.{plain_none, plain_more}
use Rattle.ubf.proofs.words.plain_words.Goals as goal

pub loop-i-init : goal.loop-i-init
loop-i-init c = let a = c.args in (omega arith, omega arith, plain_none a.s.now a.q a.at)

pub plain_at-requires : goal.plain_at-requires
plain_at-requires c = c.loop-i.invariant.1

pub overflow_add-i : goal.overflow_add-i
overflow_add-i c = let h = (c.plain_at.ensures c.loop-i-test.true).0 in omega (arith, h)

pub loop-i-smaller : goal.loop-i-smaller
loop-i-smaller c = let h = (c.plain_at.ensures c.loop-i-test.true).0 in omega (arith, h)

pub loop-i-preserved : goal.loop-i-preserved
loop-i-preserved c =
    let a = c.args in
    let l = c.loop-i in
    let h = c.plain_at.ensures c.loop-i-test.true in
    (omega (arith, l.invariant.0), h.0, plain_more a.s.now a.q a.at l.i (l.i + 8) l.invariant.2 h.1)

pub returns : goal.returns
returns c = c.loop-i.invariant
