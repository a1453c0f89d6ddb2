use Rattle.decimal.proofs.Laws.{counted}
use Rattle.decimal.proofs.places.Goals as goal

pub returns : goal.returns
returns c =
    let e = c.checked_ilog10.ensures in
    rw c.unwrap_or.ensures (counted c.checked_ilog10.result c.args.n c.ranges.n.fits e.none e.power_le e.next_power_gt)
