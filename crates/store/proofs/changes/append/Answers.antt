-- `append` meets its contract: the new record, and the header's two words anew. Assumes nothing.
use mathlib.Core.Path.{ap, ap₂, ◌∙◌}
use mathlib.Core.List.{List}
use Prim.Native.Nat.{ℕ, ◌+◌}
use native.Mathlib.Omega.{arith}
use lib.ListN.{length}
use lib.Seq.{sets}
use Rattle.word.specs.Word.{word_bytes}
use Rattle.store.proofs.Stores.{numbers, appended}
use borrow.Author.Rules.{rules}
use Rattle.store.proofs.changes.append.Goals as goal

pub read_u32-requires : goal.read_u32-requires
read_u32-requires c = let k = numbers _ c.requires.right in omega (arith, k.after, k.fits)

pub read_u16-count-requires : goal.read_u16-count-requires
read_u16-count-requires c = let k = numbers _ c.requires.right in omega (arith, k.after, k.fits)

pub write_u16-requires : goal.write_u16-requires
write_u16-requires c = omega (arith, c.requires.room, (ap (λ (n : ℕ). 4 + n) c.read_u32.ensures))

pub write_u16-requires-2 : goal.write_u16-requires-2
write_u16-requires-2 c =
    omega (arith, c.requires.room, (ap (λ (n : ℕ). 4 + n) c.read_u32.ensures), c.write_u16.auto.d)

pub copy_to-requires : goal.copy_to-requires
copy_to-requires c =
    omega (arith, c.requires.room, (ap (λ (n : ℕ). 4 + n) c.read_u32.ensures), c.write_u16.auto.d, c.write_u16-2.auto.d)

pub overflow_cast-end-2 : goal.overflow_cast-end-2
overflow_cast-end-2 c =
    let k = numbers _ c.requires.right in omega (arith, c.requires.room, k.short, (ap (λ (n : ℕ). 4 + n) c.read_u32.ensures))

pub write_u32-requires : goal.write_u32-requires
write_u32-requires c =
    let k = numbers _ c.requires.right in
    omega (arith, k.after, k.fits, c.write_u16.auto.d, c.write_u16-2.auto.d, c.copy_to.auto.buffer)

pub overflow_add-count : goal.overflow_add-count
overflow_add-count c =
    let k = numbers _ c.requires.right in omega (arith, k.few, c.read_u16-count.ensures)

pub write_u16-requires-3 : goal.write_u16-requires-3
write_u16-requires-3 c =
    let k = numbers _ c.requires.right in
    omega (arith, k.after, k.fits, c.write_u16.auto.d, c.write_u16-2.auto.d, c.copy_to.auto.buffer, c.write_u32.auto.d)

pub returns : goal.returns
returns c =
    let a = c.args in
    let s = a.store.now in
    let t = a.table.now in
    let n = a.number in
    let e = 4 + c.read_u32.result in
    let k = c.read_u16-count.result in
    c.write_u16-3.ensures
    ∙ ap (λ (x : List ℕ). sets x 6 (word_bytes 2 (k + 1))) (c.write_u32.ensures
    ∙ ap (λ (x : List ℕ). sets x 0 (word_bytes 4 (e + length t))) (c.copy_to.ensures
    ∙ ap (λ (x : List ℕ). sets x (e + 4) t) (c.write_u16-2.ensures
    ∙ ap (λ (x : List ℕ). sets x (e + 2) (word_bytes 2 (256 + n))) c.write_u16.ensures)))
    ∙ ap₂ (λ (i j : ℕ). sets (sets (sets (sets (sets s i (word_bytes 2 (2 + length t))) (i + 2) (word_bytes 2 (256 + n))) (i + 4) t) 0 (word_bytes 4 (i + length t))) 6 (word_bytes 2 (j + 1))) (ap (λ (n : ℕ). 4 + n) c.read_u32.ensures) c.read_u16-count.ensures
    ∙ appended s (λ i. search rules) n t c.requires
