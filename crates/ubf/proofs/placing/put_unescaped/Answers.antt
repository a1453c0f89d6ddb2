-- `put_unescaped` meets its contract: what is left to store after k bytes makes the same of the buffer. Assumes nothing.
use mathlib.Core.Path.{◌≡◌, refl, sym, ap, ◌∙◌}
use mathlib.Core.Bool.{true}
use Prim.Native.Nat.{ℕ, ◌+◌, ◌-◌, ◌<◌}
use native.Mathlib.Omega.{arith}
use lib.ListN.{drop, length-set, length-drop}
use lib.Seq.{sets, length-take-le}
use Rattle.ubf.specs.Escape.{bytes_in}
use Rattle.ubf.proofs.Names.{byte_of, part_starts}
use Rattle.ubf.proofs.Placed.{run_stored, part_room, unescaped_one, unescaped_rest}
use Rattle.ubf.proofs.placing.put_unescaped.Goals as goal

pub loop-k-init : goal.loop-k-init
loop-k-init c =
    let a = c.args in
    let e : a.at + 0 ≡ a.at = omega arith in
    let m : a.n - 0 ≡ a.n = omega arith in
    (omega arith, refl, rw m c.requires.0, rw (e, m))

pub overflow_sub-n : goal.overflow_sub-n
overflow_sub-n c = c.loop-k.invariant.0

pub run_end-end-requires : goal.run_end-end-requires
run_end-end-requires c = part_room c.args.text.now c.loop-k.i (c.args.n - c.loop-k.k) c.loop-k.invariant.2

pub overflow_add-at : goal.overflow_add-at
overflow_add-at c = omega (arith, c.loop-k.invariant.0, c.requires.1)

pub slice_bounds-copy_to-count : goal.slice_bounds-copy_to-count
slice_bounds-copy_to-count c = c.run_end-end.ensures.0

pub slice_bounds-copy_to-start : goal.slice_bounds-copy_to-start
slice_bounds-copy_to-start c =
    let h = part_room c.args.text.now c.loop-k.i (c.args.n - c.loop-k.k) c.loop-k.invariant.2 in let r = c.run_end-end.ensures in omega (arith, h, r.0, r.1)

pub slice_bounds-copy_to-end : goal.slice_bounds-copy_to-end
slice_bounds-copy_to-end c =
    let h = part_room c.args.text.now c.loop-k.i (c.args.n - c.loop-k.k) c.loop-k.invariant.2 in let r = c.run_end-end.ensures in omega (arith, h, r.0, r.1)

pub copy_to-requires : goal.copy_to-requires
copy_to-requires c =
    let text = c.args.text.now in
    let l = c.loop-k in
    let r = c.run_end-end.ensures in
    let h = part_room c.args.text.now c.loop-k.i (c.args.n - c.loop-k.k) c.loop-k.invariant.2 in
    let t = length-take-le (c.run_end-end.result - l.i) (drop l.i text) (simp length-drop (omega (arith, h, r.0, r.1))) in
    omega (arith, t, r.0, r.1, l.invariant.0, l.invariant.1, c.requires.1)

pub overflow_sub-k : goal.overflow_sub-k
overflow_sub-k c = c.run_end-end.ensures.0

pub overflow_add-k : goal.overflow_add-k
overflow_add-k c = omega (arith, (run_stored c.loop-k.buffer c.copy_to.new.buffer c.args.text.now c.args.at c.loop-k.i c.args.n c.loop-k.k c.run_end-end.result c.loop-k.invariant.0 c.run_end-end.ensures.0 c.run_end-end.ensures.1 c.run_end-end.ensures.2 c.loop-k.invariant.2 c.copy_to.ensures).next)

pub shape_of-buffer-then-k-n : goal.shape_of-buffer-then-k-n
shape_of-buffer-then-k-n c = omega (arith, c.loop-k.invariant.1)

pub returns-then-k-n : goal.returns-then-k-n
returns-then-k-n c =
    let a = c.args in
    let l = c.loop-k in
    let end = c.run_end-end.result in
    let s = (run_stored c.loop-k.buffer c.copy_to.new.buffer c.args.text.now c.args.at c.loop-k.i c.args.n c.loop-k.k c.run_end-end.result c.loop-k.invariant.0 c.run_end-end.ensures.0 c.run_end-end.ensures.1 c.run_end-end.ensures.2 c.loop-k.invariant.2 c.copy_to.ensures) in
    let k = l.k + (end - l.i) in
    let m : a.n - k ≡ 0 = omega (arith, c.if-k-n.true) in
    sym (ap (λ (n : ℕ). sets c.copy_to.new.buffer (a.at + k) (bytes_in a.text.now end n true)) m) ∙ (s.same ∙ l.invariant.3)

pub byte_place-j-requires : goal.byte_place-j-requires
byte_place-j-requires c =
    part_starts c.args.text.now c.run_end-end.result (c.args.n - (c.loop-k.k + (c.run_end-end.result - c.loop-k.i))) true (omega (arith, (run_stored c.loop-k.buffer c.copy_to.new.buffer c.args.text.now c.args.at c.loop-k.i c.args.n c.loop-k.k c.run_end-end.result c.loop-k.invariant.0 c.run_end-end.ensures.0 c.run_end-end.ensures.1 c.run_end-end.ensures.2 c.loop-k.invariant.2 c.copy_to.ensures).next, c.if-k-n.false)) (run_stored c.loop-k.buffer c.copy_to.new.buffer c.args.text.now c.args.at c.loop-k.i c.args.n c.loop-k.k c.run_end-end.result c.loop-k.invariant.0 c.run_end-end.ensures.0 c.run_end-end.ensures.1 c.run_end-end.ensures.2 c.loop-k.invariant.2 c.copy_to.ensures).rest

pub bounds-text-j : goal.bounds-text-j
bounds-text-j c = (byte_of c.args.text.now c.run_end-end.result (c.args.n - (c.loop-k.k + (c.run_end-end.result - c.loop-k.i))) true c.byte_place-j.result (omega (arith, (run_stored c.loop-k.buffer c.copy_to.new.buffer c.args.text.now c.args.at c.loop-k.i c.args.n c.loop-k.k c.run_end-end.result c.loop-k.invariant.0 c.run_end-end.ensures.0 c.run_end-end.ensures.1 c.run_end-end.ensures.2 c.loop-k.invariant.2 c.copy_to.ensures).next, c.if-k-n.false)) c.byte_place-j.ensures (run_stored c.loop-k.buffer c.copy_to.new.buffer c.args.text.now c.args.at c.loop-k.i c.args.n c.loop-k.k c.run_end-end.result c.loop-k.invariant.0 c.run_end-end.ensures.0 c.run_end-end.ensures.1 c.run_end-end.ensures.2 c.loop-k.invariant.2 c.copy_to.ensures).rest).inside

pub overflow_add-buffer : goal.overflow_add-buffer
overflow_add-buffer c = let s = (run_stored c.loop-k.buffer c.copy_to.new.buffer c.args.text.now c.args.at c.loop-k.i c.args.n c.loop-k.k c.run_end-end.result c.loop-k.invariant.0 c.run_end-end.ensures.0 c.run_end-end.ensures.1 c.run_end-end.ensures.2 c.loop-k.invariant.2 c.copy_to.ensures) in omega (arith, s.next, c.requires.1)

pub bounds-buffer-at : goal.bounds-buffer-at
bounds-buffer-at c =
    let s = (run_stored c.loop-k.buffer c.copy_to.new.buffer c.args.text.now c.args.at c.loop-k.i c.args.n c.loop-k.k c.run_end-end.result c.loop-k.invariant.0 c.run_end-end.ensures.0 c.run_end-end.ensures.1 c.run_end-end.ensures.2 c.loop-k.invariant.2 c.copy_to.ensures) in omega (arith, s.next, c.if-k-n.false, c.requires.1, c.loop-k.invariant.1)

pub overflow_add-i : goal.overflow_add-i
overflow_add-i c = omega (arith, (byte_of c.args.text.now c.run_end-end.result (c.args.n - (c.loop-k.k + (c.run_end-end.result - c.loop-k.i))) true c.byte_place-j.result (omega (arith, (run_stored c.loop-k.buffer c.copy_to.new.buffer c.args.text.now c.args.at c.loop-k.i c.args.n c.loop-k.k c.run_end-end.result c.loop-k.invariant.0 c.run_end-end.ensures.0 c.run_end-end.ensures.1 c.run_end-end.ensures.2 c.loop-k.invariant.2 c.copy_to.ensures).next, c.if-k-n.false)) c.byte_place-j.ensures (run_stored c.loop-k.buffer c.copy_to.new.buffer c.args.text.now c.args.at c.loop-k.i c.args.n c.loop-k.k c.run_end-end.result c.loop-k.invariant.0 c.run_end-end.ensures.0 c.run_end-end.ensures.1 c.run_end-end.ensures.2 c.loop-k.invariant.2 c.copy_to.ensures).rest).inside)

pub overflow_add-k-in-loop-k : goal.overflow_add-k-in-loop-k
overflow_add-k-in-loop-k c = let s = (run_stored c.loop-k.buffer c.copy_to.new.buffer c.args.text.now c.args.at c.loop-k.i c.args.n c.loop-k.k c.run_end-end.result c.loop-k.invariant.0 c.run_end-end.ensures.0 c.run_end-end.ensures.1 c.run_end-end.ensures.2 c.loop-k.invariant.2 c.copy_to.ensures) in omega (arith, s.next, c.if-k-n.false)

pub loop-k-smaller : goal.loop-k-smaller
loop-k-smaller c = let s = (run_stored c.loop-k.buffer c.copy_to.new.buffer c.args.text.now c.args.at c.loop-k.i c.args.n c.loop-k.k c.run_end-end.result c.loop-k.invariant.0 c.run_end-end.ensures.0 c.run_end-end.ensures.1 c.run_end-end.ensures.2 c.loop-k.invariant.2 c.copy_to.ensures) in omega (arith, s.next, c.if-k-n.false)

pub loop-k-preserved : goal.loop-k-preserved
loop-k-preserved c =
    let a = c.args in
    let l = c.loop-k in
    let end = c.run_end-end.result in
    let k = l.k + (end - l.i) in
    let s = (run_stored c.loop-k.buffer c.copy_to.new.buffer c.args.text.now c.args.at c.loop-k.i c.args.n c.loop-k.k c.run_end-end.result c.loop-k.invariant.0 c.run_end-end.ensures.0 c.run_end-end.ensures.1 c.run_end-end.ensures.2 c.loop-k.invariant.2 c.copy_to.ensures) in
    let j = c.byte_place-j.result in
    let b = (byte_of c.args.text.now c.run_end-end.result (c.args.n - (c.loop-k.k + (c.run_end-end.result - c.loop-k.i))) true c.byte_place-j.result (omega (arith, (run_stored c.loop-k.buffer c.copy_to.new.buffer c.args.text.now c.args.at c.loop-k.i c.args.n c.loop-k.k c.run_end-end.result c.loop-k.invariant.0 c.run_end-end.ensures.0 c.run_end-end.ensures.1 c.run_end-end.ensures.2 c.loop-k.invariant.2 c.copy_to.ensures).next, c.if-k-n.false)) c.byte_place-j.ensures (run_stored c.loop-k.buffer c.copy_to.new.buffer c.args.text.now c.args.at c.loop-k.i c.args.n c.loop-k.k c.run_end-end.result c.loop-k.invariant.0 c.run_end-end.ensures.0 c.run_end-end.ensures.1 c.run_end-end.ensures.2 c.loop-k.invariant.2 c.copy_to.ensures).rest) in
    let h : k < a.n = omega (arith, s.next, c.if-k-n.false) in (
      omega arith,
      simp length-set (omega (arith, l.invariant.1)),
      unescaped_rest a.text.now end a.n k j h b,
      unescaped_one c.copy_to.new.buffer a.text.now a.at end a.n k j h b ∙ (s.same ∙ l.invariant.3),
    )

pub shape_of-buffer : goal.shape_of-buffer
shape_of-buffer c = c.loop-k.invariant.1

pub returns : goal.returns
returns c =
    let a = c.args in
    let l = c.loop-k in
    let m : a.n - l.k ≡ 0 = omega (arith, c.loop-k-test.false) in
    sym (ap (λ (n : ℕ). sets l.buffer (a.at + l.k) (bytes_in a.text.now l.i n true)) m) ∙ l.invariant.3
