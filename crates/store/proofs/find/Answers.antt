-- `find` meets its contract: 26, or what the starts of the records tell. Assumes nothing.
use Rattle.std.proofs.Common.{rules}
use Rattle.store.proofs.Answers.{broken_part}
use Rattle.store.proofs.find.Goals as goal

pub returns-in_err-index : goal.returns-in_err-index
returns-in_err-index c = let e = broken_part c.args.store.now c.args.number _ c.in_err-index.ensures.err in search rules
