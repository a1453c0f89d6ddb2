-- `put_runs` meets its contract: the escapes of what is left of s make the same of the buffer. Assumes nothing.
use mathlib.Core.Path.{refl, ◌∙◌}
use Prim.Native.Nat.{◌≤◌, ◌<◌}
use native.Mathlib.Omega.{arith}
use lib.ListN.{length}
use Rattle.ubf.proofs.Laws.{rest_escapes, no_escapes, escaped_one, escaped_end, length_run, rest_run, escaped_run}
use Rattle.ubf.proofs.put.put_runs.Goals as goal

pub loop-i-init : goal.loop-i-init
loop-i-init c = (omega arith, refl, refl, refl)

pub slice_bounds-put_bytes-count : goal.slice_bounds-put_bytes-count
slice_bounds-put_bytes-count c = c.plain_to-end.ensures.after

pub slice_bounds-put_bytes-start : goal.slice_bounds-put_bytes-start
slice_bounds-put_bytes-start c = omega (arith, c.plain_to-end.ensures.after, c.plain_to-end.ensures.near)

pub slice_bounds-put_bytes-end : goal.slice_bounds-put_bytes-end
slice_bounds-put_bytes-end c = omega (arith, c.plain_to-end.ensures.after, c.plain_to-end.ensures.near)

pub put_bytes-p-requires : goal.put_bytes-p-requires
put_bytes-p-requires c =
    let l = c.loop-i in
    let s = c.args.s.now in
    let end = c.plain_to-end.result in
    let r = c.plain_to-end.ensures in
    omega (arith, length_run s l.i end r, rest_run s l.i end r, l.invariant.1, l.invariant.2, c.requires)

pub returns-then-end-s : goal.returns-then-end-s
returns-then-end-s c =
    let l = c.loop-i in
    let s = c.args.s.now in
    let end = c.plain_to-end.result in
    let r = c.plain_to-end.ensures in
    let p = c.put_bytes-p.ensures in
    let h : length s ≤ end = omega (arith, c.if-end-s.true) in
    record {
      stored = escaped_end s c.put_bytes-p.new.out c.put_bytes-p.result end h ∙ (escaped_run s l.i end r l.out l.p p ∙ l.invariant.3);
      next = omega (arith, p.next, length_run s l.i end r, rest_run s l.i end r, no_escapes s end h, l.invariant.2);
    }

pub bounds-s-end : goal.bounds-s-end
bounds-s-end c = omega (arith, c.plain_to-end.ensures.near, c.if-end-s.false)

pub put_escape-p-requires : goal.put_escape-p-requires
put_escape-p-requires c =
    let l = c.loop-i in
    let s = c.args.s.now in
    let end = c.plain_to-end.result in
    let r = c.plain_to-end.ensures in
    let h : end < length s = omega (arith, r.near, c.if-end-s.false) in
    omega (arith, c.put_bytes-p.ensures.next, length_run s l.i end r, rest_run s l.i end r, rest_escapes s end h, l.invariant.1, l.invariant.2, c.requires)

pub overflow_add-i : goal.overflow_add-i
overflow_add-i c = omega (arith, c.plain_to-end.ensures.near, c.if-end-s.false)

pub loop-i-smaller : goal.loop-i-smaller
loop-i-smaller c = omega (arith, c.plain_to-end.ensures.after, c.plain_to-end.ensures.near, c.if-end-s.false)

pub loop-i-preserved : goal.loop-i-preserved
loop-i-preserved c =
    let l = c.loop-i in
    let s = c.args.s.now in
    let end = c.plain_to-end.result in
    let r = c.plain_to-end.ensures in
    let p = c.put_bytes-p.ensures in
    let q = c.put_escape-p.ensures in
    let h : end < length s = omega (arith, r.near, c.if-end-s.false) in (
      omega arith,
      omega (arith, l.invariant.1),
      omega (arith, p.next, q.next, length_run s l.i end r, rest_run s l.i end r, rest_escapes s end h, l.invariant.2),
      escaped_one s c.put_bytes-p.new.out c.put_bytes-p.result end h q ∙ (escaped_run s l.i end r l.out l.p p ∙ l.invariant.3),
    )

pub returns : goal.returns
returns c =
    let l = c.loop-i in
    let s = c.args.s.now in
    record { stored = escaped_end s l.out l.p l.i c.loop-i-test.false ∙ l.invariant.3; next = omega (arith, no_escapes s l.i c.loop-i-test.false, l.invariant.2) }
