use native.Mathlib.Omega.{arith}
use Prim.Native.Nat.{◌-◌}
use Rattle.ubf.proofs.Scans.{grow_small, grow_big, over_facts, digit_fits}
use Rattle.ubf.proofs.scanning.digit_more.Goals as goal

pub returns-then-size-gt1844674407370955161 : goal.returns-then-size-gt1844674407370955161
returns-then-size-gt1844674407370955161 c = let a = c.args in grow_big a.size a.b (omega (arith, c.if-size-gt1844674407370955161.true))

pub returns-then-size-d : goal.returns-then-size-d
returns-then-size-d c =
    let a = c.args in
    let f = over_facts a.size (a.b - 48) c.if-size-d.true in
    grow_big a.size a.b (omega (arith, f.0, f.1))

pub overflow_add-result : goal.overflow_add-result
overflow_add-result c =
    let a = c.args in
    let f = digit_fits a.size (a.b - 48) c.if-size-gt1844674407370955161.false (omega arith) c.if-size-d.false in
    omega arith

pub returns : goal.returns
returns c = let a = c.args in grow_small a.size a.b c.if-size-gt1844674407370955161.false
