-- `index` meets its contract: what is left of the walk decides as the whole. Assumes nothing.
use Rattle.std.proofs.Common.{◌-◌}
use Rattle.store.proofs.Stores.{Walk}
use Rattle.store.proofs.records.index.Given as goal

abbrev pub invariant-loop : goal.invariant-loop
invariant-loop l = Walk l.store l.starts l.end (l.count - l.counter) l.at
