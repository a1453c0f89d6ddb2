-- `mend_in` meets its contract: three bytes for each field listed. Assumes nothing.
use mathlib.Core.List.{[]}
use native.Mathlib.Omega.{arith}
use lib.ListN.{length}
use Rattle.mend.proofs.Walks.{list_short}
use Rattle.mend.proofs.mend_in.Goals as goal

pub overflow_mul-t : goal.overflow_mul-t
overflow_mul-t c = omega (arith, c.in_ok-t.ensures.count_is, list_short c.args.bytes.now (length c.args.bytes.now) [] 8, c.requires.0.1)
