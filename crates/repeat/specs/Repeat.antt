-- What the benchmark's repeated run answers: each run's steps, verdict and undecided entry, summed.
use Rattle.std.specs.Prelude.{ℕ, ◌+◌, ◌*◌, cond, List, Ok, Err}
use Rattle.truth.specs.Truth.{rank}
use Rattle.notice.specs.Layout.{check_of as noticeCheck}
use Rattle.notice.specs.Layout.{Layout}
use Rattle.table.specs.Table.{decode}
use Rattle.table.specs.Check.{check_of as tableCheck}
use Rattle.interpreter.specs.Running.{RunAnswer, answer_of}

abbrev pub weight_of : RunAnswer → ℕ
weight_of a = 4096 * a.undecided + 4 * a.steps + rank a.verdict

-- 0 where the notice is not well-formed
abbrev pub on_layout : Layout → ℕ → ℕ
on_layout (Ok u) total = total
on_layout (Err r) total = 0

-- .. and where the table fails the check
abbrev pub repeat_of : List ℕ → List ℕ → ℕ → ℕ
repeat_of table notice times = cond (tableCheck table) (on_layout (noticeCheck notice) (times * weight_of (answer_of (decode table) notice))) 0
