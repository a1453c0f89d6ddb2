-- `repeats` meets its contract: no name of the fields before i is repeated. Assumes nothing.
use native.Mathlib.Omega.{arith}
use Rattle.ubf.specs.Span.{FieldFound}
use Rattle.ubf.proofs.Within.{name_comes, field_comes, within_next, brace_comes, passed_none, passed_more, passed_repeated, passed_all}
use Rattle.ubf.proofs.repeats.repeats.Lts as lts
use Rattle.ubf.proofs.repeats.repeats.Tie as tie
use Rattle.ubf.proofs.repeats.repeats.Reads as reads
use Rattle.ubf.proofs.repeats.repeats.Goals as goal

field : (c : lts.After-field_at tie.the-claims reads.Pre reads.Post goal.the-invariant-loop-s goal.the-decreases-loop-s) → FieldFound c.args.text.now c.loop-s.i c.field_at-s.result
field c = field_comes c.args.text.now c.loop-s.i c.loop-s.invariant.within c.field_at-s.result c.field_at-s.ensures

pub blanks-requires : goal.blanks-requires
blanks-requires c = omega arith

pub overflow_add-blanks : goal.overflow_add-blanks
overflow_add-blanks c =
    let b = brace_comes c.args.text.now c.blanks.result c.requires c.blanks.ensures in omega (arith, b.0)

pub blanks-i-requires : goal.blanks-i-requires
blanks-i-requires c =
    let b = brace_comes c.args.text.now c.blanks.result c.requires c.blanks.ensures in omega (arith, b.0)

pub loop-s-init : goal.loop-s-init
loop-s-init c =
    passed_none c.args.text.now c.blanks.result c.blanks-i.result c.requires c.blanks.ensures c.blanks-i.ensures

pub ends-requires : goal.ends-requires
ends-requires c = c.loop-s.invariant.within.near

pub field_at-s-requires : goal.field_at-s-requires
field_at-s-requires c =
    let l = c.loop-s in name_comes c.args.text.now l.i l.invariant.within c.ends.result c.ends.ensures c.loop-s-test.true

pub among-requires : goal.among-requires
among-requires c =
    (within_next c.args.text.now c.loop-s.i c.loop-s.invariant.within c.field_at-s.result (field c.before), (field c.before).lies)

pub returns-then-among : goal.returns-then-among
returns-then-among c =
    passed_repeated c.args.text.now c.loop-s.i c.loop-s.invariant c.field_at-s.result (field c.before.before.before) c.among.result c.among.ensures c.if-among.true

pub loop-s-smaller : goal.loop-s-smaller
loop-s-smaller c = let f = field c.before.before.before in omega (arith, f.later, f.near)

pub loop-s-preserved : goal.loop-s-preserved
loop-s-preserved c =
    passed_more c.args.text.now c.loop-s.i c.loop-s.invariant c.field_at-s.result (field c.before.before.before) c.among.result c.among.ensures c.if-among.false

pub returns : goal.returns
returns c =
    passed_all c.args.text.now c.loop-s.i c.ends.result c.loop-s.invariant c.ends.ensures c.loop-s-test.false
