use Prim.Native.Nat.{◌≤◌, ◌+◌, ◌*◌}
use native.Mathlib.Omega.{arith}
use borrow.Rule.Slice.PartMut.{Post-is}
use Rattle.translator.proofs.Making.{part_back}
use Rattle.translator.proofs.entry.put.Goals as goal

pub returns : goal.returns
returns c =
    let a = c.args in
    let h = c.requires in
    let e : 10 + 12 * a.i ≤ 10 + 12 * a.i + 12 = omega arith in
    rw (← (part_back a.out.now (10 + 12 * a.i) a.e (omega arith))) (rw (c.put_entry.ensures, Post-is (10 + 12 * a.i) (10 + 12 * a.i + 12) a.out.now e))
