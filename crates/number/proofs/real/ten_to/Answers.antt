use Rattle.number.proofs.Tens.{tens, patterns}
use Rattle.std.proofs.Common.{rules}
use Rattle.number.proofs.real.ten_to.Goals as goal

pub returns : goal.returns
unfolding patterns
returns c = tens c.args.e (search rules)
