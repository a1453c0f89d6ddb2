use Prim.Native.Nat.{◌*◌}
use Rattle.ubf.proofs.Rows.{row_read}
use Rattle.ubf.proofs.spans.span_at.Goals as goal

pub returns : goal.returns
returns c = row_read c.args.rows.now (7 * c.args.k)
