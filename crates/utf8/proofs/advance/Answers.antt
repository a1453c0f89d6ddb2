use native.Mathlib.Omega.{arith}
use Rattle.utf8.proofs.Strings.{ascii_begins, at_width}
use Rattle.utf8.proofs.advance.Goals as goal

pub returns-then-ascii : goal.returns-then-ascii
returns-then-ascii c =
    let a = c.args in
    ascii_begins a.s.now a.i 17 (omega arith) (c.ascii.ensures c.if-ascii.true)

pub returns-else-s-i-lt128 : goal.returns-else-s-i-lt128
returns-else-s-i-lt128 c =
    let a = c.args in
    rw c.width.ensures (at_width a.s.now a.i (omega arith))
