-- `state::sizes_right` meets its contract: the sizes from i on are right exactly if all are. Assumes nothing.
use mathlib.Core.Path.{◌≡◌, ◌∙◌, sym}
use Prim.Native.Nat.{◌-◌}
use native.Mathlib.Omega.{arith}
use Rattle.quorum.proofs.Reading.{size_none, size_long, size_more_lem, sizes_end}
use Rattle.quorum.proofs.state.sizes_right.Goals.{then-size-eq0-via-then-size-eq0, then-size-eq0-via-else-size-eq0+then-size-gt64}
use Rattle.quorum.proofs.state.sizes_right.Goals as goal

pub loop-i-init : goal.loop-i-init
loop-i-init c =
    let e : c.args.n - 0 ≡ c.args.n = omega arith in
    (omega arith, rw e)

pub returns-then-size-eq0 : goal.returns-then-size-eq0
returns-then-size-eq0 c =
    let a = c.args in
    let i = c.loop-i.i in
    elim c.then-size-eq0.branch [
      | then-size-eq0-via-then-size-eq0 w ↦ size_none a.buffer.now a.n i (omega arith) (sym c.value_size-size.ensures.0 ∙ w.if-size-eq0.true) ∙ c.loop-i.invariant.1
      | then-size-eq0-via-else-size-eq0+then-size-gt64 w ↦ size_long a.buffer.now a.n i (omega arith) (λ e. w.if-size-eq0.false (c.value_size-size.ensures.0 ∙ e)) (omega arith) ∙ c.loop-i.invariant.1
    ]

pub loop-i-preserved : goal.loop-i-preserved
loop-i-preserved c =
    let a = c.args in
    let i = c.loop-i.i in
    (omega arith, size_more_lem a.buffer.now a.n i (omega arith) (λ e. c.if-size-eq0.false (c.value_size-size.ensures.0 ∙ e)) (omega arith) ∙ c.loop-i.invariant.1)

pub returns : goal.returns
returns c = sizes_end c.args.buffer.now c.args.n c.loop-i.i (omega arith) ∙ c.loop-i.invariant.1
