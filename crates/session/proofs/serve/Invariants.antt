use mathlib.Core.Path.{◌≡◌}
use Prim.Native.Nat.{ℕ, ◌+◌, ◌/◌}
use lib.ListN.{length}
use Rattle.record.specs.Line.{line_room}
use Rattle.session.proofs.Laws.{Along}
use Rattle.session.proofs.serve.Given as goal

-- what is left of the turns, and what has come of the others
abbrev pub invariant-loop-i : goal.invariant-loop-i
invariant-loop-i l =
    let turns = length l.initial.out / line_room in
    (left : ℕ) × (l.i + left ≡ turns) × Along l.input l.last l.initial.table l.held l.initial.out turns l.table l.out l.at l.size_held l.written left
