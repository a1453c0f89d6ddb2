use native.Mathlib.Omega.{arith}
use mathlib.Core.Path.{ap, ◌∙◌}
use lib.Seq.{sets}
use Rattle.lexer.specs.Token.{string_at}
use Rattle.translator.proofs.Stores.{rest_put}
use Rattle.translator.proofs.operand.put_string.Goals as goal

pub copy-requires : goal.copy-requires
copy-requires c = ((c.is_plain_string.ensures c.if-is_plain_string.true c.requires.2).0, c.requires.3)

pub returns-then-is_plain_string : goal.returns-then-is_plain_string
returns-then-is_plain_string c =
    c.copy.ensures ∙ ap (sets c.args.out.now c.args.at) (c.is_plain_string.ensures c.if-is_plain_string.true c.requires.2).1

pub returns : goal.returns
returns c =
    rest_put c.args.out.now _ (string_at c.args.text.now c.args.place) c.args.at (omega (arith, c.requires.3)) c.copy_string.ensures.part_after
