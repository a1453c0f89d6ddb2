use mathlib.Core.Path.{◌≡◌, refl, ◌∙◌}
use Prim.Native.Nat.{◌+◌, ◌-◌}
use native.Mathlib.Omega.{arith}
use Rattle.opcode.specs.Opcode.{logic, value}
use Rattle.table.specs.Check.{pop_one}
use Rattle.table.proofs.Numbers.{pop_more}
use Rattle.table.proofs.many_flow.Goals as goal

pub loop-init : goal.loop-init
loop-init c = λ s e. let z : c.args.a - 0 ≡ c.args.a = omega arith in rw z (record { stack = pop_one value s; is = c.pop_one-d.ensures value s refl e; rest = refl })

pub loop-preserved : goal.loop-preserved
loop-preserved c =
    λ s e.
    let n : c.args.a - (c.loop.counter + 1) ≡ c.args.a - c.loop.counter - 1 = omega arith in
    rw n (pop_more (c.args.a - c.loop.counter) c.loop.d _ _ (omega arith) (c.loop.invariant s e) c.pop_one-d-in-loop.ensures)

pub push_one-requires : goal.push_one-requires
push_one-requires c = omega arith

pub returns : goal.returns
returns c =
    λ s e.
    let p = c.loop.invariant s e in
    let z : c.args.a - c.loop.counter ≡ 0 = omega arith in
    c.push_one.ensures logic p.stack refl p.is ∙ rw (rw z at p.rest)
