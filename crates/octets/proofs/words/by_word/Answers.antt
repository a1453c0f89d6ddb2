-- `words::by_word` meets its contract: words that differ have the order of the strings. Assumes nothing.
use mathlib.Core.Path.{ap₂, ◌∙◌}
use lib.Dec.{ltb}
use Rattle.octets.proofs.Leads.{words_order}
use Rattle.octets.proofs.words.by_word.Goals as goal

pub returns : goal.returns
returns c =
    let a = c.args in
    let p = c.requires in
    ap₂ ltb c.eight.ensures c.eight-2.ensures
    ∙ words_order a.s.now a.t.now (λ i. (c.shared_slice_known-1.given i).fits) (λ i. (c.shared_slice_known-2-1.given i).fits) a.at p.0 p.1 p.2 p.3
