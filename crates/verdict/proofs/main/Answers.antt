-- `verdict::main` meets its contract: what it has come to always has a history. Assumes nothing.
use mathlib.Core.List.{[]}
use Prim.Native.Nat.{ℕ}
use lib.ListN.{length-replicate}
use Rattle.table.specs.Table.{most_bytes}
use Rattle.session.proofs.Theorems.{always_ready}
use Rattle.verdict.proofs.Laws.{starts}
use Rattle.verdict.proofs.main.Goals as goal

pub loop-init : goal.loop-init
loop-init c = ([], [], starts _ _ _ (length-replicate {A = ℕ} 65536 0) (length-replicate {A = ℕ} most_bytes 0) c.start-state.ensures)

pub step-requires : goal.step-requires
step-requires c = let h = c.loop.invariant in always_ready _ _ _ _ _ h.2

pub loop-preserved : goal.loop-preserved
loop-preserved c =
    let h = c.loop.invariant in
    let k = c.in-Continue.ensures h.0 h.1 h.2 in
    (_, _, k.2)
