-- `escaped_before` meets its contract: what is left of both names compares as the names do. Assumes nothing.
use mathlib.Core.Path.{refl, sym, ap, ap₂, ◌∙◌}
use Prim.Native.Nat.{◌+◌, ◌-◌, ◌<◌}
use native.Mathlib.Omega.{arith}
use borrow.Author.Tests.{ltb-true}
use lib.Dec.{ltb}
use lib.ListN.{get_or}
use Rattle.octets.specs.Octets.{before_of}
use Rattle.octets.proofs.Theorems.{and_parts}
use Rattle.ubf.specs.Escape.{bytes_in, byte_place}
use Rattle.ubf.proofs.Names.{nonzero, ByteOf, byte_of, part_starts, first_differ, first_same, one_ended, ended}
use Rattle.ubf.proofs.ordering.escaped_before.Lts as lts
use Rattle.ubf.proofs.ordering.escaped_before.Tie as tie
use Rattle.ubf.proofs.ordering.escaped_before.Reads as reads
use Rattle.ubf.proofs.ordering.escaped_before.Goals as goal

-- both have a byte left
more : (c : lts.In-loop tie.the-claims reads.Pre reads.Post goal.the-invariant-loop-left goal.the-decreases-loop-left) → (0 < c.loop-left.left) × (0 < c.loop-left.other)
more c =
    let t = and_parts (ltb 0 c.loop-left.left) (ltb 0 c.loop-left.other) c.loop-left-test.true in
    (ltb-true 0 c.loop-left.left t.0, ltb-true 0 c.loop-left.other t.1)

own : (c : lts.After-byte_place2 tie.the-claims reads.Pre reads.Post goal.the-invariant-loop-left goal.the-decreases-loop-left) → ByteOf c.args.text.now c.loop-left.i c.loop-left.left (ltb 0 c.args.s.nameescapes) c.byte_place-k.result
own c =
    let a = c.args in
    let l = c.loop-left in
    byte_of a.text.now l.i l.left (ltb 0 a.s.nameescapes) c.byte_place-k.result (more c.before.before.before.before).0
    (c.byte_place-k.ensures ∙ ap (byte_place a.text.now l.i) (nonzero a.s.nameescapes)) l.invariant.0

others : (c : lts.After-byte_place2 tie.the-claims reads.Pre reads.Post goal.the-invariant-loop-left goal.the-decreases-loop-left) → ByteOf c.args.text.now c.loop-left.j c.loop-left.other (ltb 0 c.args.t.nameescapes) c.byte_place-l.result
others c =
    let a = c.args in
    let l = c.loop-left in
    byte_of a.text.now l.j l.other (ltb 0 a.t.nameescapes) c.byte_place-l.result (more c.before.before.before.before).1
    (c.byte_place-l.ensures ∙ ap (byte_place a.text.now l.j) (nonzero a.t.nameescapes)) l.invariant.1

pub loop-left-init : goal.loop-left-init
loop-left-init c = (c.requires.0.named, c.requires.1.named, refl)

pub byte_place-k-requires : goal.byte_place-k-requires
byte_place-k-requires c =
    let l = c.loop-left in
    part_starts c.args.text.now l.i l.left (ltb 0 c.args.s.nameescapes) (more c.before.before).0 l.invariant.0

pub byte_place-l-requires : goal.byte_place-l-requires
byte_place-l-requires c =
    let l = c.loop-left in
    part_starts c.args.text.now l.j l.other (ltb 0 c.args.t.nameescapes) (more c.before.before.before.before).1 l.invariant.1

pub bounds-text-k : goal.bounds-text-k
bounds-text-k c = (own c.before.before).inside

pub bounds-text-l : goal.bounds-text-l
bounds-text-l c = (others c.before.before.before).inside

pub bounds-text-k-then-text-k : goal.bounds-text-k-then-text-k
bounds-text-k-then-text-k c = (own c.before.before.before.before.before).inside

pub bounds-text-l-then-text-k : goal.bounds-text-l-then-text-k
bounds-text-l-then-text-k c = (others c.before.before.before.before.before.before).inside

pub returns-then-text-k : goal.returns-then-text-k
returns-then-text-k c =
    let a = c.args in
    let text = a.text.now in
    let i = c.loop-left in
    let k = c.byte_place-k.result in
    let l = c.byte_place-l.result in
    let s = own c.before.before.before.before.before.before in
    let t = others c.before.before.before.before.before.before in
    first_differ (get_or text k 0) (get_or text l 0) (bytes_in text (k + 1) (i.left - 1) (ltb 0 a.s.nameescapes)) (bytes_in text (l + 1) (i.other - 1) (ltb 0 a.t.nameescapes)) c.if-text-k.true ∙ (ap₂ before_of (sym s.first) (sym t.first) ∙ c.loop-left.invariant.2)

pub overflow_add-i : goal.overflow_add-i
overflow_add-i c = omega (arith, (own c.before.before.before.before).inside)

pub overflow_sub-left : goal.overflow_sub-left
overflow_sub-left c = omega (arith, (more c.before.before.before.before.before.before.before.before).0)

pub overflow_add-j : goal.overflow_add-j
overflow_add-j c = omega (arith, (others c.before.before.before.before).inside)

pub overflow_sub-other : goal.overflow_sub-other
overflow_sub-other c = omega (arith, (more c.before.before.before.before.before.before.before.before).1)

pub loop-left-smaller : goal.loop-left-smaller
loop-left-smaller c = omega (arith, (more c.before.before.before.before.before.before.before.before).0)

pub loop-left-preserved : goal.loop-left-preserved
loop-left-preserved c =
    let a = c.args in
    let text = a.text.now in
    let i = c.loop-left in
    let k = c.byte_place-k.result in
    let l = c.byte_place-l.result in
    let s = own c.before.before.before.before in
    let t = others c.before.before.before.before in
    (s.rest, t.rest, first_same (get_or text k 0) (get_or text l 0) (bytes_in text (k + 1) (i.left - 1) (ltb 0 a.s.nameescapes)) (bytes_in text (l + 1) (i.other - 1) (ltb 0 a.t.nameescapes)) c.if-text-k.false ∙ (ap₂ before_of (sym s.first) (sym t.first) ∙ c.loop-left.invariant.2))

pub returns : goal.returns
returns c =
    let a = c.args in
    let l = c.loop-left in
    one_ended a.text.now l.i l.left l.j l.other (ltb 0 a.s.nameescapes) (ltb 0 a.t.nameescapes) (ended l.left l.other c.loop-left-test.false) l.invariant.0 l.invariant.1 ∙ l.invariant.2
