use lib.Dec.{lit≤}
use Rattle.octets.proofs.Folds.{sum_fits, word_fits, word_lower}
use Rattle.octets.proofs.words.lower_word.Goals as goal

pub overflow_add-from : goal.overflow_add-from
overflow_add-from c = record { fits = sum_fits c.args.x 0x3f3f_3f3f_3f3f_3f3f (lit≤ tt) }

pub overflow_add-past : goal.overflow_add-past
overflow_add-past c = record { fits = sum_fits c.args.x 0x2525_2525_2525_2525 (lit≤ tt) }

pub overflow_add-result : goal.overflow_add-result
overflow_add-result c = record { fits = word_fits c.args.x c.ranges.x.fits }

pub returns : goal.returns
returns c = word_lower c.args.x c.ranges.x.fits
