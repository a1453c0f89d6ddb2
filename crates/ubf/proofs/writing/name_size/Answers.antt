use mathlib.Core.Path.{refl}
use Prim.Native.Nat.{◌+◌}
use native.Mathlib.Omega.{arith}
use Rattle.ubf.proofs.writing.name_size.Goals as goal

pub overflow_cast-result : goal.overflow_cast-result
overflow_cast-result c = omega (arith, c.shared_slice_known-1.given (c.args.at + 4))

pub returns : goal.returns
returns c = let g = c.shared_slice_known-1.given (c.args.at + 4) in (refl, omega arith)
