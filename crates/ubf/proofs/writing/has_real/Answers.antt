-- `has_real` meets its contract: whether there was a real64, or is one among the fields that are left. Assumes nothing.
use mathlib.Core.Path.{◌≡◌, sym, ap, ◌∙◌}
use mathlib.Core.List.{map}
use Prim.Native.Nat.{ℕ, ◌+◌}
use native.Mathlib.Omega.{arith}
use Rattle.notice.specs.Layout.{next_at, field_at}
use Rattle.notice.proofs.Renders.{fields_from, well_header, well_starts}
use Rattle.ubf.specs.Answer.{has_real}
use Rattle.ubf.proofs.Values.{rest_start, rest_right, rest_next, real_next, real_end, parts}
use Rattle.ubf.proofs.writing.has_real.Goals as goal

pub read_u16-left-requires : goal.read_u16-left-requires
read_u16-left-requires c =
    let h = well_header c.args.notice.now (λ i. (c.shared_slice_known-1.given i).fits) c.requires in omega (arith, h.long)

pub loop-left-init : goal.loop-left-init
loop-left-init c =
    let s = c.args.notice.now in
    let h = well_header s (λ i. (c.shared_slice_known-1.given i).fits) c.requires in
    let w = well_starts s (λ i. (c.shared_slice_known-1.given i).fits) c.requires in
    let e = c.read_u16-left.ensures in
    let f = ap (λ (n : ℕ). fields_from n s 8) e ∙ ap (map (field_at s)) (sym w) in
    (rw e (rest_start s c.requires), ap has_real f)

pub overflow_add-at : goal.overflow_add-at
overflow_add-at c =
    let s = c.args.notice.now in
    let l = c.loop-left in
    let t = c.loop-left-test.true in
    let p = parts s l.at (rest_right l.left s l.at t l.invariant.0) in
    omega (arith, p.within)

pub read_u16-requires : goal.read_u16-requires
read_u16-requires c =
    let s = c.args.notice.now in
    let l = c.loop-left in
    let t = c.loop-left-test.true in
    let p = parts s l.at (rest_right l.left s l.at t l.invariant.0) in
    omega (arith, p.room, p.within)

pub overflow_add-at-in-loop-left : goal.overflow_add-at-in-loop-left
overflow_add-at-in-loop-left c =
    let s = c.args.notice.now in
    let l = c.loop-left in
    let t = c.loop-left-test.true in
    let p = parts s l.at (rest_right l.left s l.at t l.invariant.0) in
    omega (arith, p.within)

pub field_size-requires : goal.field_size-requires
field_size-requires c =
    let s = c.args.notice.now in
    let l = c.loop-left in
    let t = c.loop-left-test.true in
    let p = parts s l.at (rest_right l.left s l.at t l.invariant.0) in
    omega (arith, p.within)

pub overflow_add-at-in-loop-left-2 : goal.overflow_add-at-in-loop-left-2
overflow_add-at-in-loop-left-2 c =
    let s = c.args.notice.now in
    let l = c.loop-left in
    let t = c.loop-left-test.true in
    let p = parts s l.at (rest_right l.left s l.at t l.invariant.0) in
    omega (arith, p.within)

pub loop-left-preserved : goal.loop-left-preserved
loop-left-preserved c =
    let s = c.args.notice.now in
    let l = c.loop-left in
    let t = c.loop-left-test.true in
    let p = parts s l.at (rest_right l.left s l.at t l.invariant.0) in
    let n : l.at + 2 + c.field_size.result ≡ next_at s l.at = omega arith in (
      rw n (rest_next l.left s l.at t l.invariant.0),
      real_next l.left s l.at t l.invariant.0 l.real c.read_u16.result (l.at + 2 + c.field_size.result) c.read_u16.ensures n ∙ l.invariant.1,
    )

pub returns : goal.returns
returns c =
    let l = c.loop-left in
    let z : l.left ≡ 0 = omega arith in
    sym (real_end l.real l.left c.args.notice.now l.at z) ∙ l.invariant.1
