use native.Mathlib.Omega.{arith}
use mathlib.Core.Path.{refl, ap, ◌∙◌}
use lib.ListN.{length}
use lib.Seq.{length-sets}
use Rattle.translator.proofs.Filling.{coded_9, coded_pool, coded_table}
use Rattle.translator.proofs.coded.Goals as goal

pub overflow_mul-length : goal.overflow_mul-length
overflow_mul-length c = omega (arith, c.requires.count, c.requires.few)

pub overflow_add-length : goal.overflow_add-length
overflow_add-length c = omega (arith, c.requires.count, c.requires.few)

pub overflow_add-length-2 : goal.overflow_add-length-2
overflow_add-length-2 c = omega (arith, c.requires.count, c.requires.few, c.requires.pool_is, c.requires.small)

pub returns-then-buffer-length : goal.returns-then-buffer-length
returns-then-buffer-length c =
    coded_9 c.requires c.args.edition (length c.args.buffer.now) c.if-buffer-length.true refl

pub accepted-requires : goal.accepted-requires
accepted-requires c =
    (omega (arith, c.requires.count, c.requires.few), omega (arith, c.requires.pool_is, c.requires.small), coded_pool c.requires c.args.edition (length c.args.buffer.now), c.if-buffer-length.false, c.requires.sized)

pub shape_of-buffer : goal.shape_of-buffer
shape_of-buffer c = ap length c.accepted.ensures.buffer_after ∙ simp length-sets

pub returns : goal.returns
returns c =
    coded_table c.requires c.args.edition (length c.args.buffer.now) c.if-buffer-length.false c.accepted.ensures.value c.accepted.ensures.buffer_after
