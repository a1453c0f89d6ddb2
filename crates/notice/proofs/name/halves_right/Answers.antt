use Rattle.std.proofs.Common.{ℕ, ◌+◌, ◌*◌, ◌∙◌, ap₂, arith}
use Rattle.word.specs.Word.{word_bytes}
use Rattle.notice.specs.Field.{printable}
use Rattle.notice.proofs.Names.{whole_word, by_halves}
use Rattle.notice.proofs.name.halves_right.Goals as goal

pub returns : goal.returns
returns c =
    let p = c.requires in
    let s = c.args.name.now in
    let low = c.read_u32-low in
    let high = c.read_u32-high in
    whole_word (low.result + 0x1_0000_0000 * high.result) c.word_right.result (omega (arith, low.type_inv, high.type_inv)) c.word_right.ensures
    ∙ (ap₂ (λ (v w : ℕ). printable (word_bytes 8 (v + 0x1_0000_0000 * w))) low.ensures high.ensures ∙ by_halves s (λ i. (c.shared_slice_known-1.given i).fits) p.0 p.1)
