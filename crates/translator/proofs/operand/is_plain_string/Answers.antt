use mathlib.Core.Path.{refl}
use Rattle.common.proofs.Choice.{false_true}
use Rattle.translator.proofs.Plain.{string_stands}
use Rattle.translator.proofs.operand.is_plain_string.Goals as goal

pub returns-then-text-last : goal.returns-then-text-last
returns-then-text-last c = λ e. false_true e

pub returns : goal.returns
returns c = λ e en. string_stands c.args.text.now c.args.place c.args.n refl c.if-text-last.false e en
