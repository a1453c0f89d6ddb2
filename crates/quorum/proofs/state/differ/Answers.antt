-- `state::differ` meets its contract: the values from i on are all different exactly if all are. Assumes nothing.
use mathlib.Core.Path.{◌≡◌, ap, ◌∙◌}
use mathlib.Core.Bool.{Bool}
use mathlib.Core.List.{List}
use Prim.Native.Nat.{ℕ, ◌+◌, ◌-◌}
use native.Mathlib.Omega.{arith}
use Rattle.quorum.proofs.Reading.{size_at_lem, twice, once, differ_end}
use Rattle.quorum.specs.Decision.{has, value_at, values_from}
use Rattle.quorum.proofs.state.differ.Goals as goal

pub loop-i-init : goal.loop-i-init
loop-i-init c =
    let e : c.args.n - 0 ≡ c.args.n = omega arith in
    (omega arith, rw e)

pub value-requires : goal.value-requires
value-requires c =
    let z = size_at_lem c.args.buffer.now c.requires c.loop-i.i (omega arith) in
    (c.requires.long, omega (arith, c.requires.few), z.1)

pub has-requires : goal.has-requires
has-requires c =
    (c.requires, omega arith)

-- what `has` told: whether the value in place i is among those after it
later : (s : List ℕ) (i n : ℕ) {x : List ℕ} {told : Bool} → x ≡ value_at s i → told ≡ has x (values_from s (i + 1) (n - (i + 1))) → told ≡ has (value_at s i) (values_from s (i + 1) (n - (i + 1)))
later s i n v e = e ∙ ap (λ (x : List ℕ). has x (values_from s (i + 1) (n - (i + 1)))) v

pub returns-then-has : goal.returns-then-has
returns-then-has c =
    let a = c.args in
    twice a.buffer.now a.n c.loop-i.i (omega arith) c.has.result (later a.buffer.now c.loop-i.i a.n c.value.ensures c.has.ensures) c.if-has.true ∙ c.loop-i.invariant.1

pub loop-i-preserved : goal.loop-i-preserved
loop-i-preserved c =
    let a = c.args in
    (omega arith, once a.buffer.now a.n c.loop-i.i (omega arith) c.has.result (later a.buffer.now c.loop-i.i a.n c.value.ensures c.has.ensures) c.if-has.false ∙ c.loop-i.invariant.1)

pub returns : goal.returns
returns c = differ_end c.args.buffer.now c.args.n c.loop-i.i (omega arith) ∙ c.loop-i.invariant.1
