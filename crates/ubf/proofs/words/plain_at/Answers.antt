use mathlib.Core.Path.{◌≡◌, sym, ap₂, ◌∙◌}
use mathlib.Core.Bool.{true, ◌&&◌}
use native.Mathlib.Omega.{arith}
use Rattle.common.proofs.Choice.{false_true}
use Rattle.word.specs.Word.{word_bytes}
use Rattle.ubf.specs.Escape.{lacking}
use Rattle.ubf.proofs.Plains.{word_plain}
use Rattle.ubf.proofs.words.plain_at.Goals as goal

pub returns-then-s-at-lt8 : goal.returns-then-s-at-lt8
returns-then-s-at-lt8 c = false_true

pub returns : goal.returns
returns c =
    λ e.
    let a = c.args in
    let h : (lacking a.q (word_bytes 8 c.read_u64-x.result) && lacking 92 (word_bytes 8 c.read_u64-x.result)) ≡ true = sym (ap₂ ◌&&◌ c.lacks.ensures c.lacks-2.ensures) ∙ e in
    (omega arith, word_plain a.s.now a.at a.q c.read_u64-x.result (λ i. (c.shared_slice_known-1.given i).fits) c.read_u64-x.ensures h)
