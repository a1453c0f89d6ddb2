use Prim.Native.Nat.{ℕ, ◌+◌}
use native.Mathlib.Omega.{arith}
use mathlib.Core.Path.{ap}
use Rattle.translator.proofs.Writing.{write_start, write_end, write-fits, write-on}
use Rattle.translator.proofs.write.write.Goals as goal

pub overflow_mul-from : goal.overflow_mul-from
overflow_mul-from c = omega (arith, c.requires.0)

pub overflow_add-from : goal.overflow_add-from
overflow_add-from c = omega (arith, c.requires.0)

pub loop-i-init : goal.loop-i-init
loop-i-init c = write_start _ _ _ _ _ c.requires.3

pub put_code-n-requires : goal.put_code-n-requires
put_code-n-requires c = write-fits _ _ _ _ _ c.loop-i.invariant c.loop-i-test.true c.requires.1 c.requires.0 c.requires.2

pub overflow_add-leaf : goal.overflow_add-leaf
overflow_add-leaf c = omega (arith, c.loop-i.invariant.few, c.operands-leaf.ensures.1, c.loop-i-test.true, c.requires.0)

pub overflow_add-pool : goal.overflow_add-pool
overflow_add-pool c =
    omega (arith, c.put_code-n.ensures.value, (write-fits _ _ _ _ _ c.loop-i.invariant c.loop-i-test.true c.requires.1 c.requires.0 c.requires.2).3, c.loop-i.invariant.ends, c.requires.2)

pub loop-i-preserved : goal.loop-i-preserved
loop-i-preserved c =
    write-on _ _ _ _ _ c.loop-i.invariant c.loop-i-test.true (ap (λ (m : ℕ). c.loop-i.leaf + m) c.operands-leaf.ensures.0) (omega (arith, c.operands-leaf.ensures.0, c.operands-leaf.ensures.1)) (ap (λ (m : ℕ). c.loop-i.pool + m) c.put_code-n.ensures.value) c.put_code-n.ensures.out_after

pub shape_of-out : goal.shape_of-out
shape_of-out c = c.loop-i.invariant.long

pub returns : goal.returns
returns c = write_end _ _ _ _ _ c.loop-i.invariant c.loop-i-test.false
