use Prim.Native.Nat.{◌+◌, ◌-◌, ◌*◌}
use mathlib.Core.Path.{◌≡◌, ap, ◌∙◌}
use native.Mathlib.Omega.{arith}
use Rattle.word.specs.Word.{word_at}
use Rattle.table.proofs.b_to.Goals as goal

pub returns : goal.returns
returns c =
    λ i e. let at : c.args.end - 8 ≡ 14 + 12 * i = omega arith in c.read_u64.ensures ∙ ap (word_at 8 c.args.table.now) at
