-- `count` meets its contract: the tables so far and those that are left are all. Assumes nothing.
use Rattle.std.proofs.Common.{◌≡◌, ◌+◌, length}
use Rattle.many.specs.Many.{stretches_of}
use Rattle.many.proofs.count.Given as goal

abbrev pub invariant-loop-n : goal.invariant-loop-n
invariant-loop-n l = l.n + length (stretches_of l.rest) ≡ length (stretches_of l.tables)
