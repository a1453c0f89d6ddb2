use Rattle.std.proofs.Common.{◌<◌, length}
use Rattle.notice.specs.Layout.{starts_of}
use Rattle.notice.proofs.Readings.{After}
use Rattle.notice.proofs.reading.field_start.Given as goal

abbrev pub invariant-loop : goal.invariant-loop
invariant-loop l = (h : l.k < length (starts_of l.notice)) → After l.notice l.k h l.counter l.at
