use Rattle.std.proofs.lemmas.Result.{err_from_is_err_and}
use mathlib.Core.Path.{sym, ◌∙◌}
use lib.ListN.{length}
use Rattle.translator.proofs.Answering.{answers_other, answers_edition}
use Rattle.translator.proofs.translate.Goals as goal

pub returns-in_err-named : goal.returns-in_err-named
returns-in_err-named c =
    let a = c.args in
    let p = err_from_is_err_and c.from_residual.result c.from_residual.ensures.1 in
    rw (p.1, p.2) (answers_other a.edition a.text.now (length a.buffer.now) (sym c.named.ensures ∙ c.in_err-named.was))

pub returns : goal.returns
returns c =
    let a = c.args in
    answers_edition a.edition a.text.now (length a.buffer.now) (sym c.named.ensures ∙ c.in_ok-named.was) c.translate_edition.ensures
