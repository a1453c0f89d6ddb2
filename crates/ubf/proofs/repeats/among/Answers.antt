-- `among` meets its contract: from `at` to i fields were read, and whether one of them has the name. Assumes nothing.
use native.Mathlib.Omega.{arith}
use Rattle.ubf.specs.Span.{name_in, FieldFound}
use Rattle.ubf.proofs.Within.{name_comes, field_comes, within_next, follows_none, follows_more, follows_end}
use Rattle.ubf.proofs.repeats.among.Lts as lts
use Rattle.ubf.proofs.repeats.among.Tie as tie
use Rattle.ubf.proofs.repeats.among.Reads as reads
use Rattle.ubf.proofs.repeats.among.Goals as goal

field : (c : lts.After-field_at tie.the-claims reads.Pre reads.Post goal.the-invariant-loop-s goal.the-decreases-loop-s) → FieldFound c.args.text.now c.loop-s.i c.field_at-t.result
field c = field_comes c.args.text.now c.loop-s.i c.loop-s.invariant.0 c.field_at-t.result c.field_at-t.ensures

pub loop-s-init : goal.loop-s-init
loop-s-init c = let a = c.args in (c.requires.0, follows_none a.text.now a.at (name_in a.text.now a.s))

pub ends-requires : goal.ends-requires
ends-requires c = c.loop-s.invariant.0.near

pub field_at-t-requires : goal.field_at-t-requires
field_at-t-requires c =
    let l = c.loop-s in name_comes c.args.text.now l.i l.invariant.0 c.ends.result c.ends.ensures c.loop-s-test.true

pub name_same-found-requires : goal.name_same-found-requires
name_same-found-requires c = ((field c.before).lies, c.requires.1)

pub loop-s-smaller : goal.loop-s-smaller
loop-s-smaller c = let f = field c.before.before in omega (arith, f.later, f.near)

pub loop-s-preserved : goal.loop-s-preserved
loop-s-preserved c =
    let a = c.args in
    let l = c.loop-s in
    let s = c.field_at-t.result in
    let f = field c.before.before in
    (within_next a.text.now l.i l.invariant.0 s f, follows_more a.text.now a.at (name_in a.text.now a.s) l.i l.found c.name_same-found.result s f c.name_same-found.ensures l.invariant.1)

pub returns : goal.returns
returns c =
    let a = c.args in
    let l = c.loop-s in
    follows_end a.text.now a.at (name_in a.text.now a.s) l.i l.found c.ends.result c.ends.ensures c.loop-s-test.false l.invariant.1
