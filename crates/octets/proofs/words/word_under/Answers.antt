use mathlib.Core.Path.{◌∙◌}
use Rattle.octets.proofs.Folds.{under_mark, under_none}
use Rattle.octets.proofs.words.word_under.Goals as goal

pub returns-then-mark : goal.returns-then-mark
returns-then-mark c =
    let a = c.args in
    c.lower_word.ensures
    ∙ under_mark a.mark a.s.now a.at _ c.read_u64-x.ensures c.if-mark.true (λ i. (c.shared_slice_known-1.given i).fits)

pub returns-else-mark : goal.returns-else-mark
returns-else-mark c =
    let a = c.args in
    under_none a.mark a.s.now a.at _ c.read_u64-x.ensures c.if-mark.false
