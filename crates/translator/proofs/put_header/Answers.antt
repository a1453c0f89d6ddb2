use mathlib.Core.Path.{refl}
use Rattle.translator.proofs.Filling.{header_written}
use Rattle.translator.proofs.put_header.Goals as goal

pub returns : goal.returns
returns c =
    let a = c.args in
    header_written a.edition a.out.now c.write_u32.new.d c.write_u16.new.d c.write_u16-2.new.d c.write_u16-3.new.d _ c.kind.result a.entries a.pool refl c.kind.ensures c.write_u32.ensures c.write_u16.ensures c.write_u16-2.ensures c.write_u16-3.ensures
