use Rattle.ubf.proofs.Tuples.{grown_is}
use Rattle.ubf.proofs.spans.grown.Goals as goal

pub returns : goal.returns
returns c =
    grown_is c.args.text.now c.args.s c.args.t c.named.result c.size_more.result c.named.ensures c.size_more.ensures
