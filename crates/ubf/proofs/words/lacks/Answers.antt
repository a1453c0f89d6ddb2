use Rattle.ubf.proofs.Plains.{sum_fits, word_lacks}
use Rattle.ubf.proofs.words.lacks.Goals as goal

pub overflow_add-high : goal.overflow_add-high
overflow_add-high c = record { fits = sum_fits c.args.x c.args.q }

pub returns : goal.returns
returns c = word_lacks c.args.x c.args.q c.ranges.x.fits c.ranges.q.fits
