use mathlib.Core.Path.{ap, ◌∙◌}
use native.Mathlib.Omega.{arith}
use Prim.Native.Nat.{ℕ}
use Rattle.grammar.specs.Parse.{level_of}
use Rattle.postfix.specs.Answer.{read_by}
use Rattle.postfix.proofs.Marks.{length_marks}
use Rattle.postfix.proofs.Steps.{kept}
use Rattle.postfix.proofs.Whole.{whole_answered}
use Rattle.postfix.proofs.parse.Goals as goal

pub level-x-requires : goal.level-x-requires
level-x-requires c = (c.requires, omega arith)

pub shape_of-codes : goal.shape_of-codes
shape_of-codes c = let r = c.requires in kept (level_of r.tokens 0 0) (c.level-x.ensures r.tokens r.marked)

pub returns : goal.returns
returns c =
    λ ks m.
    let len = length_marks m in
    whole_answered ks (omega (arith, c.requires.few, len)) c.level-x.result.0 (c.answer.ensures ∙ ap (λ (n : ℕ). read_by n c.level-x.result.0) len) (c.level-x.ensures ks m)
