use mathlib.Core.Path.{ap, ◌∙◌}
use mathlib.Core.Bool.{false}
use mir.Syntax.{w64}
use mir.ValLaws.{to_z-of_z}
use lib.ListN.{drop}
use Rattle.lexer.specs.Digits.{digits_of, whole_of}
use Rattle.lexer.specs.Integer.{held}
use Rattle.lexer.proofs.Signs.{held_capped}
use Rattle.lexer.proofs.Scans.{leading_integer}
use Rattle.lexer.proofs.integer.leading_value.Goals as goal

pub returns : goal.returns
returns c =
    let s = c.args.text.now in
    let e = rw c.digits-d.ensures.1 at c.signed.ensures in
    to_z-of_z w64 _ (record { sfits = c.signed.type_inv })
    ∙ e
    ∙ held_capped false (whole_of 10 (digits_of 10 (drop c.args.at s)))
    ∙ ap held (leading_integer s c.args.at c.requires.0 c.requires.1)
