-- `state::keep` meets its contract: the head's parts and the table are stored. Assumes nothing.
use mathlib.Core.Path.{ap, ◌∙◌}
use mathlib.Core.List.{List}
use Prim.Native.Nat.{ℕ}
use native.Mathlib.Omega.{arith}
use lib.Seq.{sets}
use lib.ListN.{length, set, length-set}
use Rattle.quorum.proofs.Writing.{head_stored}
use Rattle.word.specs.Word.{word_bytes}
use Rattle.quorum.proofs.state.keep.Goals as goal

pub bounds-buffer-7 : goal.bounds-buffer-7
bounds-buffer-7 c =
    let l = length-set c.write_u16.new.d 6 c.args.needed in omega (arith, l, c.requires, c.write_u16.auto.d, c.write_u32.auto.d)

pub copy_to-requires : goal.copy_to-requires
copy_to-requires c = simp length-set (omega (arith, c.requires, c.write_u16.auto.d, c.write_u32.auto.d))

pub shape_of-buffer : goal.shape_of-buffer
shape_of-buffer c =
    let d = c.write_u16.new.d in
    let n = c.args.needed in
    omega (arith, length-set d 6 n, length-set (set d 6 n) 7 0, c.copy_to.auto.buffer, c.write_u16.auto.d, c.write_u32.auto.d)

pub returns : goal.returns
returns c =
    let a = c.args in
    let n = length a.table.now in
    c.copy_to.ensures
    ∙ (ap (λ (t : List ℕ). sets (set (set t 6 a.needed) 7 0) 528 a.table.now) (c.write_u16.ensures
    ∙ ap (λ (t : List ℕ). sets t 4 (word_bytes 2 5)) c.write_u32.ensures)
    ∙ ap (λ (t : List ℕ). sets t 528 a.table.now) (head_stored a.buffer.now n a.needed))
