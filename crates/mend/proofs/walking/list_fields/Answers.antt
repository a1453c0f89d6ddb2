-- `list_fields` meets its contract: what is left to list makes the same of the buffer. Assumes nothing.
use Rattle.mend.proofs.Turns.{entry_room, code_there, lists_on, listed}
use Rattle.mend.proofs.walking.list_fields.Goals as goal

pub bounds-codes-count : goal.bounds-codes-count
bounds-codes-count c =
    let a = c.args in
    let i = c.loop-at in
    code_there a.bytes.now a.list.now i.list a.codes.now i.at i.count i.invariant c.loop-at-test.true

pub put_entry-requires : goal.put_entry-requires
put_entry-requires c =
    let a = c.args in
    let i = c.loop-at in
    entry_room a.bytes.now a.list.now i.list a.codes.now i.at i.count i.invariant c.loop-at-test.true c.requires.2

pub loop-at-preserved : goal.loop-at-preserved
loop-at-preserved c =
    let a = c.args in
    let i = c.loop-at in
    lists_on a.bytes.now a.list.now i.list a.codes.now i.at i.count i.invariant c.loop-at-test.true c.put_entry.new.list c.next-at.result c.next-at.ensures.0 c.next-at.ensures.1 c.put_entry.ensures

pub returns : goal.returns
returns c =
    let a = c.args in
    let i = c.loop-at in
    listed a.bytes.now a.list.now i.list a.codes.now i.at i.count i.invariant c.loop-at-test.false c.requires.2
