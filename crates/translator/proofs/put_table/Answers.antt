use native.Mathlib.Omega.{arith}
use mathlib.Core.Path.{ap, ◌∙◌}
use lib.ListN.{length}
use lib.Seq.{length-sets}
use Rattle.table.specs.Table.{entries_bytes}
use Rattle.translator.specs.Expand.{expand, pooled}
use Rattle.translator.specs.Emit.{header_bytes}
use Rattle.translator.proofs.Stores.{kept_by}
use Rattle.translator.proofs.Writing.{length_written}
use Rattle.translator.proofs.Filling.{table_written}
use Rattle.translator.proofs.put_table.Goals as goal

pub put_header-requires : goal.put_header-requires
put_header-requires c = (c.requires.0, c.requires.1, omega (arith, c.requires.3))

pub write-requires : goal.write-requires
write-requires c =
    let a = c.args in
    let long = kept_by a.out.now _ 0 (header_bytes a.edition (length a.codes.now) a.pool) c.put_header.ensures in
    (c.requires.0, omega (arith, c.requires.2, c.requires.3, long), omega (arith, c.requires.1, c.requires.2), c.requires.4)

pub shape_of-out : goal.shape_of-out
shape_of-out c = ap length c.write.ensures ∙ simp length-sets (ap length c.put_header.ensures ∙ simp length-sets)

pub returns : goal.returns
returns c =
    let a = c.args in
    let s = a.operands.text.now in
    let places = a.operands.places.now in
    let codes = a.codes.now in
    table_written a.edition (length codes) a.pool (entries_bytes (expand s places codes 0 0)) (pooled s places codes 0) a.out.now (length_written s places codes 0 0) c.put_header.ensures c.write.ensures
