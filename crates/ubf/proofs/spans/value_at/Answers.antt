use mathlib.Core.Path.{sym, ◌∙◌}
use lib.ListN.{get_or}
use Rattle.ubf.proofs.Advances.{digit_or, value_other}
use Rattle.ubf.proofs.spans.value_at.Goals as goal

pub number_value-requires : goal.number_value-requires
number_value-requires c =
    (c.requires.0, sym (digit_or c.is_digit.result (get_or c.args.text.now c.args.at 0) c.is_digit.ensures) ∙ c.if-is_digit-b.true)

pub returns : goal.returns
returns c =
    let a = c.args in
    value_other a.text.now a.at c.no_value.result c.requires.0 c.requires.1 c.if-b-eq34.false (sym (digit_or c.is_digit.result (get_or a.text.now a.at 0) c.is_digit.ensures) ∙ c.if-is_digit-b.false) c.no_value.ensures
