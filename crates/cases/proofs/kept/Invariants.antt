use mathlib.Core.Path.{◌≡◌}
use mathlib.Core.Bool.{true}
use lib.ListN.{take}
use Rattle.std.specs.List.{All}
use Rattle.cases.proofs.kept.Given as goal

-- the bytes seen are as they were if `all` is true, and it is if all are
abbrev pub invariant-loop-b : goal.invariant-loop-b
invariant-loop-b l = (l.all ≡ true → All (λ b. b ≡ 165) (take l.b-index l.rest)) × (All (λ b. b ≡ 165) l.rest → l.all ≡ true)
