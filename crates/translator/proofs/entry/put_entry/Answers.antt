use Rattle.translator.proofs.Making.{entry_written}
use Rattle.translator.proofs.entry.put_entry.Goals as goal

pub returns : goal.returns
returns c =
    let s = c.before.before.before.before.before.before.before.before.before.before.before.before.before.before in
    entry_written s.args.part.now c.write_u16.new.d c.write_u16-2.new.d c.write_u64.new.d s.args.e s.requires c.write_u16.ensures c.write_u16-2.ensures c.write_u64.ensures
