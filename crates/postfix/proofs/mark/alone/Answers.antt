use Prim.Native.Nat.{ℕ}
use mathlib.Core.Path.{ap, ap₂, ◌∙◌}
use mathlib.Core.Bool.{Bool, ◌&&◌, ◌||◌}
use lib.Dec.{ltb, leb}
use Rattle.grammar.specs.Grammar.{rank}
use Rattle.grammar.specs.Marks.{is_operand}
use Rattle.postfix.proofs.mark.alone.Goals as goal

pub returns : goal.returns
returns c =
    ap₂ (λ (o : Bool) (r : ℕ). o && (ltb r c.args.l || leb 11 r))
    (c.is_operand.ensures ∙ ap is_operand c.kind-2.ensures)
    (c.rank-r.ensures.0 ∙ ap rank c.kind.ensures)
