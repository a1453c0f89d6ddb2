use Rattle.std.proofs.Common.{◌≡◌, ◌-◌, ◌≤◌, length}
use Rattle.notice.specs.Layout.{starts_from}
use Rattle.notice.specs.Write.{place_in, place_for}
use Rattle.notice.proofs.writing.place_for.Given as goal

abbrev pub invariant-loop : goal.invariant-loop
invariant-loop l = (l.at ≤ length l.notice) × (place_in l.notice l.name (starts_from (l.n - l.counter) l.notice l.at) ≡ place_for l.notice l.name)
