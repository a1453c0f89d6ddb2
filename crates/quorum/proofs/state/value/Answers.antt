-- `state::value` meets its contract: the value lies in its place. Assumes nothing.
use mathlib.Core.Path.{◌≡◌, ap}
use Prim.Native.Nat.{ℕ, ◌+◌, ◌*◌, ◌-◌}
use native.Mathlib.Omega.{arith}
use lib.ListN.{take, drop}
use Rattle.quorum.specs.Decision.{value_size}
use Rattle.quorum.proofs.state.value.Goals as goal

pub returns : goal.returns
returns c =
    let a = c.args in
    let e : 9 + 65 * a.i + c.value_size.result - (9 + 65 * a.i) ≡ value_size a.buffer.now a.i = omega arith in
    ap (λ (n : ℕ). take n (drop (9 + 65 * a.i) a.buffer.now)) e
