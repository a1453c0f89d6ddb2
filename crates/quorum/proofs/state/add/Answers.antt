-- `state::add` meets its contract: the count, the length byte and the value are stored. Assumes nothing.
use mathlib.Core.Path.{◌≡◌, ◌∙◌}
use Prim.Native.Nat.{suc, ◌+◌, ◌*◌}
use native.Mathlib.Omega.{arith}
use lib.ListN.{length, set, get_or, length-set}
use Rattle.quorum.proofs.state.add.Goals as goal

pub bounds-buffer-at : goal.bounds-buffer-at
bounds-buffer-at c = let s = c.args.buffer.now in simp length-set (omega (arith, c.requires))

pub copy_to-requires : goal.copy_to-requires
copy_to-requires c = simp length-set (omega (arith, c.requires))

pub shape_of-buffer : goal.shape_of-buffer
shape_of-buffer c =
    let s = c.args.buffer.now in
    let l = length-set s 7 (get_or s 7 0 + 1) in
    let m = length-set (set s 7 (get_or s 7 0 + 1)) (8 + 65 * get_or s 7 0) (length c.args.v.now) in
    omega (arith, l, m, c.copy_to.auto.buffer)

pub returns : goal.returns
returns c =
    let s = c.args.buffer.now in
    let e : 8 + 65 * get_or s 7 0 + 1 ≡ suc (8 + 65 * get_or s 7 0) = omega arith in
    c.copy_to.ensures ∙ rw e
