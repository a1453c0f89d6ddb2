-- `make` meets its contract: 26 for the buffer's size, or the header of no record. Assumes nothing.
use mathlib.Core.Path.{ap, ◌∙◌}
use mathlib.Core.List.{List}
use Prim.Native.Nat.{ℕ}
use lib.Seq.{sets}
use borrow.Author.Tests.{le-leb}
use Rattle.word.specs.Word.{word_bytes}
use Rattle.store.proofs.Stores.{made}
use Rattle.store.proofs.Answers.{made_empty}
use Rattle.store.proofs.make.Goals as goal

pub returns : goal.returns
returns c =
    let s = c.args.store.now in
    made_empty s (rw (le-leb 8 _ c.if-n-lt8.false, le-leb _ 65536 c.if-n-gt65536.false)) _
    (c.write_u16-2.ensures
    ∙ ap (λ (t : List ℕ). sets t 6 (word_bytes 2 0)) (c.write_u16.ensures
    ∙ ap (λ (t : List ℕ). sets t 4 (word_bytes 2 6)) c.write_u32.ensures)
    ∙ made s c.if-n-lt8.false)
