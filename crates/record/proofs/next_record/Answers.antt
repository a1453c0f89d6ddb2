use Rattle.record.proofs.Laws.{found_end, found_short, found_low, found_high, found_cut, found_whole}
use Rattle.record.proofs.next_record.Goals as goal

pub returns-then-n-eq0 : goal.returns-then-n-eq0
returns-then-n-eq0 c = found_end c.args.s.now c.if-n-eq0.true

pub returns-then-n-lt4 : goal.returns-then-n-lt4
returns-then-n-lt4 c = found_short c.args.s.now c.if-n-eq0.false c.if-n-lt4.true

pub returns-then-len-lt2 : goal.returns-then-len-lt2
returns-then-len-lt2 c =
    found_low c.args.s.now c.if-n-lt4.false c.read_u32-len.result c.read_u32-len.ensures c.if-len-lt2.true

pub returns-then-len-gt16380 : goal.returns-then-len-gt16380
returns-then-len-gt16380 c =
    found_high c.args.s.now c.if-n-lt4.false c.read_u32-len.result c.read_u32-len.ensures c.if-len-gt16380.true

pub returns-then-size-n : goal.returns-then-size-n
returns-then-size-n c =
    found_whole c.args.s.now c.if-n-lt4.false c.read_u32-len.result c.read_u32-len.ensures
    c.read_u16.result c.read_u16.ensures c.if-len-lt2.false c.if-len-gt16380.false c.if-size-n.true

pub returns-else-size-n : goal.returns-else-size-n
returns-else-size-n c =
    found_cut c.args.s.now c.if-n-lt4.false c.read_u32-len.result c.read_u32-len.ensures
    c.if-len-lt2.false c.if-len-gt16380.false c.if-size-n.false
