use Prim.Native.Nat.{◌+◌, ◌-◌, ◌*◌}
use mathlib.Core.Path.{◌≡◌, ap, ◌∙◌}
use native.Mathlib.Omega.{arith}
use Rattle.word.specs.Word.{word_at}
use Rattle.table.proofs.a_to.Goals as goal

pub returns : goal.returns
returns c =
    λ i e. let at : c.args.end - 10 ≡ 12 + 12 * i = omega arith in c.read_u16.ensures ∙ ap (word_at 2 c.args.table.now) at
