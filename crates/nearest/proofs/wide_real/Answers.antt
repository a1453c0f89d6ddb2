use Rattle.std.proofs.Common.{ap, ◌∙◌}
use lib.Ieee.{neg}
use Rattle.nearest.proofs.Rounding.{below_zero}
use Rattle.nearest.proofs.wide_real.Goals as goal

pub returns-then-z-lt0 : goal.returns-then-z-lt0
returns-then-z-lt0 c =
    ap neg c.magnitude_real-x.ensures ∙ below_zero c.args.z c.ranges.z c.if-z-lt0.true c.unsigned_abs.result c.unsigned_abs.ensures.value
