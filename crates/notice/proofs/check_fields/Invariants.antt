use Rattle.notice.proofs.Stood.{Goes}
use Rattle.notice.proofs.check_fields.Given as goal

abbrev pub invariant-loop-i : goal.invariant-loop-i
invariant-loop-i l = Goes l.notice l.initial.starts l.starts l.i l.at l.last l.last_key
