use mathlib.Core.Path.{sym}
use Prim.Native.Nat.{◌+◌}
use native.Mathlib.Omega.{arith}
use lib.ListN.{length}
use borrow.Author.Tests.{lt-leb}
use Rattle.table.proofs.Tests.{room_left}
use Rattle.table.proofs.part_right.Goals as goal

pub returns-then-pool-start : goal.returns-then-pool-start
returns-then-pool-start c = sym (lt-leb (c.args.e.a + c.args.e.b) (length c.args.pool.now) (omega arith))

pub returns : goal.returns
returns c = room_left c.args.e.a c.args.e.b (length c.args.pool.now) (omega arith)
