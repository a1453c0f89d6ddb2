-- `verdict_test::serve` meets its contract: the state always lies in its buffers. Assumes nothing.
use Prim.Native.Nat.{◌≤◌}
use lib.ListN.{length}
use Rattle.session.specs.State.{Ready}
use Rattle.verdict_test.proofs.serve.Given as goal

abbrev pub invariant-loop : goal.invariant-loop
invariant-loop g l = Ready l.input l.table l.stage.state × (l.stage.at ≤ length l.bytes)
