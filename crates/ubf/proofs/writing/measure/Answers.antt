-- `measure` meets its contract: what was measured and the fields that are left. Assumes nothing.
use mathlib.Core.Path.{◌≡◌, sym, ap, ◌∙◌}
use mathlib.Core.List.{map}
use Prim.Native.Nat.{ℕ, ◌+◌}
use native.Mathlib.Omega.{arith}
use lib.ListN.{length}
use Rattle.notice.specs.Layout.{next_at, field_at}
use Rattle.notice.proofs.Renders.{fields_from, well_header, well_starts}
use Rattle.ubf.specs.Text.{fields_text}
use Rattle.ubf.proofs.Values.{rest_start, rest_right, rest_next, length_more, text_end, parts}
use Rattle.ubf.proofs.writing.measure.Goals as goal

pub read_u16-left-requires : goal.read_u16-left-requires
read_u16-left-requires c =
    let h = well_header c.args.notice.now (λ i. (c.shared_slice_known-1.given i).fits) c.requires in omega (arith, h.long)

pub loop-left-init : goal.loop-left-init
loop-left-init c =
    let s = c.args.notice.now in
    let h = well_header s (λ i. (c.shared_slice_known-1.given i).fits) c.requires in
    let w = well_starts s (λ i. (c.shared_slice_known-1.given i).fits) c.requires in
    let e = c.read_u16-left.ensures in
    let f = ap (λ (n : ℕ). fields_from n s 8) e ∙ ap (map (field_at s)) (sym w) in
    (rw e (rest_start s c.requires), omega (arith, h.few), let z = ap (λ l. length (fields_text l)) f in omega (arith, z))

pub field_length-len-requires : goal.field_length-len-requires
field_length-len-requires c = let l = c.loop-left in rest_right l.left c.args.notice.now l.at c.loop-left-test.true l.invariant.0

pub overflow_add-len : goal.overflow_add-len
overflow_add-len c =
    let s = c.args.notice.now in
    let l = c.loop-left in
    let t = c.loop-left-test.true in
    let p = parts s l.at (rest_right l.left s l.at t l.invariant.0) in
    omega (arith, l.invariant.1)

pub overflow_add-at : goal.overflow_add-at
overflow_add-at c =
    let s = c.args.notice.now in
    let l = c.loop-left in
    let t = c.loop-left-test.true in
    let p = parts s l.at (rest_right l.left s l.at t l.invariant.0) in
    omega (arith, p.within)

pub field_size-requires : goal.field_size-requires
field_size-requires c =
    let s = c.args.notice.now in
    let l = c.loop-left in
    let t = c.loop-left-test.true in
    let p = parts s l.at (rest_right l.left s l.at t l.invariant.0) in
    omega (arith, p.within)

pub overflow_add-at-in-loop-left : goal.overflow_add-at-in-loop-left
overflow_add-at-in-loop-left c =
    let s = c.args.notice.now in
    let l = c.loop-left in
    let t = c.loop-left-test.true in
    let p = parts s l.at (rest_right l.left s l.at t l.invariant.0) in
    omega (arith, p.within)

pub loop-left-preserved : goal.loop-left-preserved
loop-left-preserved c =
    let s = c.args.notice.now in
    let l = c.loop-left in
    let t = c.loop-left-test.true in
    let p = parts s l.at (rest_right l.left s l.at t l.invariant.0) in
    let n : l.at + 2 + c.field_size.result ≡ next_at s l.at = omega arith in
    let m = length_more l.left s l.at t l.invariant.0 in
    (rw n (rest_next l.left s l.at t l.invariant.0), omega (arith, l.invariant.1), rw n (omega (arith, l.invariant.2)))

pub returns : goal.returns
returns c =
    let l = c.loop-left in
    let z : l.left ≡ 0 = omega arith in
    let e = text_end l.left c.args.notice.now l.at z in
    (omega (arith, l.invariant.2, ap length e), omega (arith, l.invariant.1))
