use mathlib.Core.Path.{sym, ◌∙◌}
use lib.ListN.{drop}
use Rattle.lexer.proofs.Runs.{word_begins, word_goes_on}
use Rattle.lexer.proofs.spells.Goals as goal

pub returns-then-ended : goal.returns-then-ended
returns-then-ended c =
    let a = c.args in
    let r = c.rest-from.ensures in
    let e = rw r at c.begins.ensures in
    let f = rw r at c.ended.ensures in
    e ∙ word_begins (drop a.at a.text.now) a.word.now c.requires (sym f ∙ c.if-ended.true)

pub returns : goal.returns
returns c =
    let a = c.args in
    let f = rw c.rest-from.ensures at c.ended.ensures in
    word_goes_on (drop a.at a.text.now) a.word.now c.requires (sym f ∙ c.if-ended.false)
