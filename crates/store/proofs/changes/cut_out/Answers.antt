-- `cut_out` meets its contract: the later records move down, and the header's two words anew. Assumes nothing.
use mathlib.Core.Path.{ap, ap₂, ◌∙◌}
use mathlib.Core.List.{List}
use Prim.Native.Nat.{ℕ, ◌+◌, ◌-◌}
use native.Mathlib.Omega.{arith}
use lib.ListN.{take, drop}
use lib.Seq.{sets}
use Rattle.word.specs.Word.{word_bytes}
use Rattle.store.specs.Layout.{end_of, count_of}
use Rattle.store.proofs.Stores.{numbers, Lying, lying, cut}
use borrow.Author.Rules.{rules}
use Rattle.store.proofs.changes.cut_out.Goals as goal

pub read_u32-requires : goal.read_u32-requires
read_u32-requires c = let k = numbers _ c.requires.right in omega (arith, k.after, k.fits)

pub read_u16-count-requires : goal.read_u16-count-requires
read_u16-count-requires c = let k = numbers _ c.requires.right in omega (arith, k.after, k.fits)

pub read_u16-requires : goal.read_u16-requires
read_u16-requires c =
    let k = numbers _ c.requires.right in let l : Lying c.args.store.now c.args.number c.args.at = lying c.args.store.now (λ i. search rules) c.args.number c.args.at c.requires.right c.requires.found in omega (arith, l.within, k.fits)

pub overflow_add-at : goal.overflow_add-at
overflow_add-at c =
    let k = numbers _ c.requires.right in let l : Lying c.args.store.now c.args.number c.args.at = lying c.args.store.now (λ i. search rules) c.args.number c.args.at c.requires.right c.requires.found in omega (arith, l.within, k.fits, k.short, (ap (λ (n : ℕ). 2 + n) c.read_u16.ensures))

pub move_down-requires : goal.move_down-requires
move_down-requires c =
    let k = numbers _ c.requires.right in let l : Lying c.args.store.now c.args.number c.args.at = lying c.args.store.now (λ i. search rules) c.args.number c.args.at c.requires.right c.requires.found in omega (arith, l.within, k.fits, (ap (λ (n : ℕ). 2 + n) c.read_u16.ensures), (ap (λ (n : ℕ). 4 + n) c.read_u32.ensures))

pub overflow_sub-end : goal.overflow_sub-end
overflow_sub-end c =
    let l : Lying c.args.store.now c.args.number c.args.at = lying c.args.store.now (λ i. search rules) c.args.number c.args.at c.requires.right c.requires.found in omega (arith, l.within, (ap (λ (n : ℕ). 2 + n) c.read_u16.ensures), (ap (λ (n : ℕ). 4 + n) c.read_u32.ensures))

pub overflow_sub-end-2 : goal.overflow_sub-end-2
overflow_sub-end-2 c =
    let l : Lying c.args.store.now c.args.number c.args.at = lying c.args.store.now (λ i. search rules) c.args.number c.args.at c.requires.right c.requires.found in omega (arith, l.within, l.after, (ap (λ (n : ℕ). 2 + n) c.read_u16.ensures), (ap (λ (n : ℕ). 4 + n) c.read_u32.ensures))

pub overflow_cast-end-2 : goal.overflow_cast-end-2
overflow_cast-end-2 c =
    let k = numbers _ c.requires.right in omega (arith, k.fits, k.short, (ap (λ (n : ℕ). 4 + n) c.read_u32.ensures))

pub write_u32-requires : goal.write_u32-requires
write_u32-requires c =
    let k = numbers _ c.requires.right in omega (arith, k.after, k.fits, c.move_down.auto.buffer)

pub overflow_sub-count : goal.overflow_sub-count
overflow_sub-count c =
    let l : Lying c.args.store.now c.args.number c.args.at = lying c.args.store.now (λ i. search rules) c.args.number c.args.at c.requires.right c.requires.found in omega (arith, l.some_record, c.read_u16-count.ensures)

pub write_u16-requires : goal.write_u16-requires
write_u16-requires c =
    let k = numbers _ c.requires.right in omega (arith, k.after, k.fits, c.move_down.auto.buffer, c.write_u32.auto.d)

pub returns : goal.returns
returns c =
    let a = c.args in
    let s = a.store.now in
    let at = a.at in
    let e = 4 + c.read_u32.result in
    let k = c.read_u16-count.result in
    let z = 2 + c.read_u16.result in
    c.write_u16.ensures
    ∙ ap (λ (x : List ℕ). sets x 6 (word_bytes 2 (k - 1))) (c.write_u32.ensures
    ∙ ap (λ (x : List ℕ). sets x 0 (word_bytes 4 (e - z - 4))) c.move_down.ensures)
    ∙ ap₂ (λ (i j : ℕ). sets (sets (sets s at (take (i - (at + z)) (drop (at + z) s))) 0 (word_bytes 4 (i - z - 4))) 6 (word_bytes 2 (j - 1))) (ap (λ (n : ℕ). 4 + n) c.read_u32.ensures) c.read_u16-count.ensures
    ∙ ap (λ (i : ℕ). sets (sets (sets s at (take (end_of s - (at + i)) (drop (at + i) s))) 0 (word_bytes 4 (end_of s - i - 4))) 6 (word_bytes 2 (count_of s - 1))) (ap (λ (n : ℕ). 2 + n) c.read_u16.ensures)
    ∙ cut s (λ i. search rules) a.number at c.requires.right c.requires.found
