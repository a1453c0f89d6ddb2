-- `put_spans` meets its contract: storing the fields from place k of the order on makes the same of the buffer. Assumes nothing.
use mathlib.Core.Path.{◌≡◌}
use Prim.Native.Nat.{◌+◌, ◌-◌, ◌≤◌}
use lib.ListN.{length, drop}
use lib.Seq.{sets}
use Rattle.notice.specs.Render.{fields_bytes}
use Rattle.ubf.specs.Span.{row_fields, ordered, RowsShort}
use Rattle.ubf.proofs.placing.put_spans.Given as goal

abbrev pub invariant-loop-k : goal.invariant-loop-k
invariant-loop-k l =
    (l.k ≤ 64) × (length l.buffer ≡ length l.initial.buffer) × RowsShort l.text l.rows (drop l.k l.order) × (l.at + length (fields_bytes (row_fields l.text l.rows (drop l.k l.order))) ≤ length l.buffer)
    × (sets l.buffer l.at (fields_bytes (row_fields l.text l.rows (drop l.k l.order))) ≡ sets l.initial.buffer 8 (fields_bytes (ordered l.text l.rows l.count l.order)))

abbrev pub decreases-loop-k : goal.decreases-loop-k
decreases-loop-k l = 64 - l.k
