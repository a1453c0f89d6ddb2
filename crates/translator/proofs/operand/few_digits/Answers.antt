use Prim.Native.Nat.{ℕ, ◌+◌, ◌*◌}
use native.Mathlib.Omega.{arith}
use mathlib.Core.Path.{refl}
use Rattle.translator.proofs.Plain.{few_start, few_end, few_stop, digit-range, low, few-more}
use Rattle.translator.proofs.operand.few_digits.Goals as goal

pub loop-i-init : goal.loop-i-init
loop-i-init c = few_start c.args.text.now c.args.place

pub bounds-text-i : goal.bounds-text-i
bounds-text-i c = c.loop-i-test.true

pub returns-then-b : goal.returns-then-b
returns-then-b c = few_stop c.loop-i.invariant c.loop-i-test.true c.if-b.true

pub returns-then-v-b : goal.returns-then-v-b
returns-then-v-b c = λ h. absurd (omega arith)

pub overflow_mul-v : goal.overflow_mul-v
overflow_mul-v c = omega (arith, low c.loop-i.invariant c.loop-i-test.true c.if-b.false c.if-v-b.false)

pub overflow_sub-v : goal.overflow_sub-v
overflow_sub-v c = (digit-range c.loop-i.invariant c.loop-i-test.true c.if-b.false c.if-v-b.false).0

pub overflow_add-v : goal.overflow_add-v
overflow_add-v c =
    omega (arith, low c.loop-i.invariant c.loop-i-test.true c.if-b.false c.if-v-b.false, (digit-range c.loop-i.invariant c.loop-i-test.true c.if-b.false c.if-v-b.false).1)

pub loop-i-preserved : goal.loop-i-preserved
loop-i-preserved c =
    few-more c.loop-i.invariant c.loop-i-test.true c.if-b.false c.if-v-b.false refl

pub returns : goal.returns
returns c = few_end c.loop-i.invariant c.loop-i-test.false
