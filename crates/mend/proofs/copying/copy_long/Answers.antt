-- `copy_long` meets its contract: the bytes before i are copied. Assumes nothing.
use mathlib.Core.Path.{refl, ◌∙◌}
use Prim.Native.Nat.{◌-◌}
use native.Mathlib.Omega.{arith}
use lib.ListN.{length}
use Rattle.mend.proofs.Copies.{more_copied, last_copied}
use Rattle.mend.proofs.copying.copy_long.Goals as goal

pub overflow_sub-last : goal.overflow_sub-last
overflow_sub-last c = c.requires.0

pub loop-i-init : goal.loop-i-init
loop-i-init c = (omega arith, refl, refl)

pub overflow_add-at : goal.overflow_add-at
overflow_add-at c = omega (arith, c.loop-i-test.true, c.requires.1)

pub copy_block-requires : goal.copy_block-requires
copy_block-requires c =
    (omega (arith, c.loop-i-test.true, c.requires.1, c.loop-i.invariant.1), omega (arith, c.loop-i-test.true))

pub overflow_add-i : goal.overflow_add-i
overflow_add-i c = omega (arith, c.loop-i-test.true, c.requires.1)

pub loop-i-smaller : goal.loop-i-smaller
loop-i-smaller c = omega (arith, c.loop-i-test.true)

pub loop-i-preserved : goal.loop-i-preserved
loop-i-preserved c =
    let a = c.args in
    let l = c.loop-i in
    let k = c.copy_block in
    (omega (arith, c.loop-i-test.true), k.auto.buffer ∙ l.invariant.1, more_copied a.buffer.now l.buffer k.new.buffer a.s.now a.at l.i 32 l.invariant.2 k.ensures (omega (arith, c.loop-i-test.true)))

pub overflow_add-at-2 : goal.overflow_add-at-2
overflow_add-at-2 c = omega (arith, c.requires.0, c.requires.1)

pub copy_block-requires-2 : goal.copy_block-requires-2
copy_block-requires-2 c = (omega (arith, c.requires.0, c.requires.1, c.loop-i.invariant.1), omega (arith, c.requires.0))

pub shape_of-buffer : goal.shape_of-buffer
shape_of-buffer c = c.copy_block-2.auto.buffer ∙ c.loop-i.invariant.1

pub returns : goal.returns
returns c =
    let a = c.args in
    let l = c.loop-i in
    let k = c.copy_block-2 in
    last_copied a.buffer.now l.buffer k.new.buffer a.s.now a.at l.i (length a.s.now - 32) l.invariant.2 k.ensures (omega (arith, c.loop-i-test.false)) (omega (arith, l.invariant.0, c.requires.0)) (omega (arith, c.requires.0)) c.requires.1
