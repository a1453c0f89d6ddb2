use native.Mathlib.Omega.{arith}
use Rattle.ubf.proofs.Tuples.{collecting_none, collecting_more, collected, collected_end, collected_none}
use Rattle.ubf.proofs.spans.collect.Goals as goal

pub tuple_at-t-requires : goal.tuple_at-t-requires
tuple_at-t-requires c = tt

pub loop-t-init : goal.loop-t-init
loop-t-init c =
    let a = c.args in
    collecting_none a.text.now a.at a.rows.now c.tuple_at-t.result c.requires c.tuple_at-t.ensures

pub bounds-text-i : goal.bounds-text-i
bounds-text-i c = c.loop-t-test.true

pub shape_of-rows-then-text-i-ne34 : goal.shape_of-rows-then-text-i-ne34
shape_of-rows-then-text-i-ne34 c = c.loop-t.invariant.rooms

pub returns-then-text-i-ne34 : goal.returns-then-text-i-ne34
returns-then-text-i-ne34 c =
    let a = c.args in
    let l = c.loop-t in
    collected a.text.now a.at a.rows.now l.rows l.t l.invariant c.if-text-i-ne34.true

pub field_at-s-requires : goal.field_at-s-requires
field_at-s-requires c = (c.loop-t-test.true, c.if-text-i-ne34.false)

pub tuple_at-requires : goal.tuple_at-requires
tuple_at-requires c = tt

pub shape_of-rows-then-s-eq0 : goal.shape_of-rows-then-s-eq0
shape_of-rows-then-s-eq0 c = c.loop-t.invariant.rooms

pub returns-then-s-eq0 : goal.returns-then-s-eq0
returns-then-s-eq0 c =
    let a = c.args in
    let l = c.loop-t in
    collected_none a.text.now a.at a.rows.now l.rows l.t l.invariant c.field_at-s.result c.tuple_at.result c.field_at-s.ensures c.if-s-eq0.true c.tuple_at.ensures

pub keep-requires : goal.keep-requires
keep-requires c = tt

pub grown-t-requires : goal.grown-t-requires
grown-t-requires c =
    ((c.field_at-s.ensures.found c.if-s-eq0.false).lies, omega (arith, c.loop-t.invariant.few, c.loop-t-test.true))

pub loop-t-smaller : goal.loop-t-smaller
loop-t-smaller c =
    let f = c.field_at-s.ensures.found c.if-s-eq0.false in
    omega (arith, f.later, c.grown-t.ensures.at, c.loop-t-test.true)

pub loop-t-preserved : goal.loop-t-preserved
loop-t-preserved c =
    let a = c.args in
    let l = c.loop-t in
    collecting_more a.text.now a.at a.rows.now l.rows l.t l.invariant c.field_at-s.result c.keep.new.rows c.grown-t.result (c.field_at-s.ensures.found c.if-s-eq0.false) c.keep.ensures c.grown-t.ensures

pub shape_of-rows : goal.shape_of-rows
shape_of-rows c = c.loop-t.invariant.rooms

pub returns : goal.returns
returns c =
    let a = c.args in
    let l = c.loop-t in
    collected_end a.text.now a.at a.rows.now l.rows l.t l.invariant c.loop-t-test.false
