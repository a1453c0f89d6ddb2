use Rattle.nearest.proofs.Rounding.{few, many}
use Rattle.nearest.proofs.magnitude_real.Goals as goal

pub returns-then-n : goal.returns-then-n
returns-then-n c = few c.args.n c.if-n.true

pub returns : goal.returns
returns c = many c.args.n c.min.result c.if-n.false c.ranges.n.fits c.min.ensures
