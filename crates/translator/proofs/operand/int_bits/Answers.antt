use mathlib.Core.Path.{ap, ◌∙◌}
use mir.Syntax.{w64}
use mir.Val.{of_z}
use mir.ValLaws.{to_z-of_z}
use Rattle.translator.proofs.operand.int_bits.Goals as goal

pub returns-then-v-gt0 : goal.returns-then-v-gt0
returns-then-v-gt0 c = c.few_digits-v.ensures c.if-v-gt0.true

pub returns : goal.returns
returns c =
    (rw (to_z-of_z w64 c.int_value.result (record { sfits = c.int_value.type_inv })) at c.cast_unsigned.ensures) ∙ ap (of_z w64) c.int_value.ensures
