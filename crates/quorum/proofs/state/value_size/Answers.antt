-- `state::value_size` meets its contract: the length byte lies in the buffer. Assumes nothing.
use Prim.Native.Nat.{◌+◌, ◌*◌}
use native.Mathlib.Omega.{arith}
use Rattle.quorum.proofs.state.value_size.Goals as goal

pub overflow_cast-result : goal.overflow_cast-result
overflow_cast-result c = omega (arith, c.type_inv.buffer (8 + 65 * c.args.i))

pub returns : goal.returns
returns c = omega (arith, c.type_inv.buffer (8 + 65 * c.args.i))
