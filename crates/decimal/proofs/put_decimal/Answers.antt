use mathlib.Core.Path.{◌≡◌}
use Prim.Native.Nat.{suc, ◌+◌, ◌-◌}
use native.Mathlib.Omega.{arith}
use lib.Seq.{sets}
use Rattle.decimal.specs.Decimal.{decimal_of}
use Rattle.decimal.proofs.Laws.{all_left, one_stored}
use Rattle.decimal.proofs.put_decimal.Goals as goal

pub loop-i-init : goal.loop-i-init
loop-i-init c =
    let a = c.args in
    all_left a.out.now a.at a.n (a.at + c.places.result - a.at) (omega arith)

pub loop-i-preserved : goal.loop-i-preserved
loop-i-preserved c =
    let a = c.args in
    let l = c.loop-i in
    let k = l.i - 1 - a.at in
    let s : l.i - a.at ≡ suc k = omega arith in
    one_stored l.out a.at k l.rest (l.i - 1) (sets a.out.now a.at (decimal_of a.n)) (rw s at l.invariant) (omega arith)
