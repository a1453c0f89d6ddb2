-- `copy_to` meets its contract: what is left to store after i bytes makes the same of the buffer. Assumes nothing.
use mathlib.Core.Path.{◌≡◌, refl, sym, ap, ◌∙◌}
use Prim.Native.Nat.{◌+◌}
use native.Mathlib.Omega.{arith}
use lib.ListN.{length-set, drop_of_length-le}
use lib.Seq.{sets}
use Rattle.common.proofs.Stores.{copied_one}
use Rattle.common.proofs.copy_to.Goals as goal

pub loop-i-init : goal.loop-i-init
loop-i-init c = let e : c.args.at + 0 ≡ c.args.at = omega arith in (refl, rw e)

pub loop-i-preserved : goal.loop-i-preserved
loop-i-preserved c =
    let l = c.loop-i in
    (simp length-set l.invariant.0, copied_one l.buffer c.args.s.now c.args.at l.i (omega arith) ∙ l.invariant.1)

pub returns : goal.returns
returns c =
    let s = c.args.s.now in
    let l = c.loop-i in
    sym (ap (sets l.buffer (c.args.at + l.i)) (drop_of_length-le s {i = l.i} (omega arith))) ∙ l.invariant.1
