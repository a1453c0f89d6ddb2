-- `verdict_test::serve` meets its contract: the state always lies in its buffers. Assumes nothing.
use Prim.Native.Nat.{ℕ}
use native.Mathlib.Omega.{arith}
use lib.ListN.{length-replicate}
use Rattle.table.specs.Table.{most_bytes}
use Rattle.verdict_test.proofs.Laws.{start_ready}
use Rattle.verdict_test.proofs.serve.Goals as goal

pub loop-init : goal.loop-init
loop-init g c = (start_ready _ _ _ (length-replicate {A = ℕ} 20000 0) (length-replicate {A = ℕ} most_bytes 0) c.start.ensures, omega arith)
