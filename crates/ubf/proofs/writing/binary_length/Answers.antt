use native.Mathlib.Omega.{arith}
use Rattle.ubf.proofs.Laws.{length_binary}
use Rattle.ubf.proofs.writing.binary_length.Goals as goal

pub returns : goal.returns
returns c = let e = length_binary c.args.value.now in (omega arith, omega arith)
