use mathlib.Core.Path.{sym, ◌∙◌}
use Rattle.ubf.proofs.Advances.{plain_large, plain_found}
use Rattle.ubf.proofs.spans.after_integer.Goals as goal

pub returns-then-not-fits4 : goal.returns-then-not-fits4
returns-then-not-fits4 c =
    let a = c.args in
    plain_large a.text.now a.at a.negative a.n c.requires.0 c.requires.1 c.if-b-eq96.false c.if-b-eq126.false c.no_value.result (sym c.fits4.ensures ∙ c.if-not-fits4.true) c.no_value.ensures

pub bits4-requires : goal.bits4-requires
bits4-requires c = sym c.fits4.ensures ∙ c.if-not-fits4.false

pub returns : goal.returns
returns c =
    let a = c.args in
    plain_found a.text.now a.at a.negative a.n c.requires.0 c.requires.1 c.if-b-eq96.false c.if-b-eq126.false c.bits4.result (sym c.fits4.ensures ∙ c.if-not-fits4.false) c.bits4.ensures
