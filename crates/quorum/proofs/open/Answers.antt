-- `quorum::open` meets its contract: refused, or written. Assumes nothing.
use Rattle.std.proofs.Common.{sym, length}
use Rattle.quorum.proofs.Opening.{openable}
use Rattle.quorum.proofs.open.Goals as goal

pub keep-requires : goal.keep-requires
keep-requires c =
    let a = c.args in
    let o = openable (length a.buffer.now) a.table.now a.needed (sym c.in-Ok.ensures.number) in
    (o.short, o.fits)
