-- `copy_block` meets its contract: four words one after the other are the 32 bytes that they were read from. Assumes nothing.
use native.Mathlib.Omega.{arith}
use mathlib.Core.Path.{refl}
use Rattle.word.specs.Word.{Bytes}
use Rattle.mend.proofs.Copies.{first_word, word_copied}
use Rattle.mend.proofs.copying.copy_block.Goals as goal

pub returns : goal.returns
returns c =
    let a = c.args in
    let s = a.s.now in
    let d = a.buffer.now in
    let bytes : Bytes s = λ i. (c.shared_slice_known-1.given i).fits in
    let h = c.requires.1 in
    let w1 = c.write_u64 in
    let w2 = c.write_u64-2 in
    let w3 = c.write_u64-3 in
    let w4 = c.write_u64-4 in
    let one = first_word s bytes a.from d w1.new.d a.to c.read_u64-a.result c.read_u64-a.ensures w1.ensures (omega arith) in
    let two = word_copied s bytes a.from d w1.new.d w2.new.d a.to 8 c.read_u64-b.result 16 one c.read_u64-b.ensures w2.ensures (omega arith) refl in
    let three = word_copied s bytes a.from d w2.new.d w3.new.d a.to 16 c.read_u64-c.result 24 two c.read_u64-c.ensures w3.ensures (omega arith) refl in
    word_copied s bytes a.from d w3.new.d w4.new.d a.to 24 c.read_u64-d.result 32 three c.read_u64-d.ensures w4.ensures (omega arith) refl
