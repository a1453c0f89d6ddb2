-- `put_entry` meets its contract: offset and code stand one after the other. Assumes nothing.
use Rattle.mend.proofs.Stores.{entry_stored}
use Rattle.mend.proofs.walking.put_entry.Goals as goal

pub returns : goal.returns
returns c =
    entry_stored c.args.list.now c.write_u16.new.d c.args.place c.args.at c.args.code c.write_u16.ensures
