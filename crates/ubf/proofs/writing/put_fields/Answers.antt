use mathlib.Core.Path.{◌≡◌, refl, sym, ap, ◌∙◌}
use Prim.Native.Nat.{ℕ, ◌+◌}
use native.Mathlib.Omega.{arith}
use lib.ListN.{length}
use lib.Seq.{sets}
use Rattle.ubf.specs.Text.{fields_text}
use Rattle.notice.specs.Layout.{next_at, field_at}
use Rattle.notice.proofs.Renders.{fields_from, well_header, well_starts}
use mathlib.Core.List.{map}
use Rattle.ubf.proofs.Values.{rest_start, rest_right, rest_next, put_more, length_more, text_end, parts}
use Rattle.ubf.proofs.writing.put_fields.Goals as goal

pub read_u16-left-requires : goal.read_u16-left-requires
read_u16-left-requires c =
    let s = c.args.notice.now in let h = well_header s (λ i. (c.shared_slice_known-1.given i).fits) c.requires.0 in let w = well_starts s (λ i. (c.shared_slice_known-1.given i).fits) c.requires.0 in omega (arith, h.long)

pub loop-left-init : goal.loop-left-init
loop-left-init c =
    let s = c.args.notice.now in let h = well_header s (λ i. (c.shared_slice_known-1.given i).fits) c.requires.0 in let w = well_starts s (λ i. (c.shared_slice_known-1.given i).fits) c.requires.0 in let e = c.read_u16-left.ensures in let z = ap fields_text (ap (λ (n : ℕ). fields_from n s 8) e ∙ ap (map (field_at s)) (sym w)) in (rw e (rest_start s c.requires.0), refl, omega (arith, ap length z), ap (λ l. sets c.args.out.now c.args.from l) z)

pub put_field-p-requires : goal.put_field-p-requires
put_field-p-requires c =
    let s = c.args.notice.now in let l = c.loop-left in let r = rest_right l.left s l.at c.loop-left-test.true l.invariant.0 in let p = parts s l.at r in (r, omega (arith, length_more l.left s l.at c.loop-left-test.true l.invariant.0, l.invariant.1, l.invariant.2, c.requires.1))

pub overflow_add-at : goal.overflow_add-at
overflow_add-at c =
    let s = c.args.notice.now in let l = c.loop-left in let r = rest_right l.left s l.at c.loop-left-test.true l.invariant.0 in let p = parts s l.at r in omega arith

pub field_size-requires : goal.field_size-requires
field_size-requires c =
    let s = c.args.notice.now in let l = c.loop-left in let r = rest_right l.left s l.at c.loop-left-test.true l.invariant.0 in let p = parts s l.at r in omega arith

pub overflow_add-at-in-loop-left : goal.overflow_add-at-in-loop-left
overflow_add-at-in-loop-left c =
    let s = c.args.notice.now in let l = c.loop-left in let r = rest_right l.left s l.at c.loop-left-test.true l.invariant.0 in let p = parts s l.at r in omega arith

pub loop-left-preserved : goal.loop-left-preserved
loop-left-preserved c =
    let s = c.args.notice.now in let l = c.loop-left in let r = rest_right l.left s l.at c.loop-left-test.true l.invariant.0 in let p = parts s l.at r in let t = c.loop-left-test.true in let n : l.at + 2 + c.field_size.result ≡ next_at s l.at = omega arith in let m = length_more l.left s l.at t l.invariant.0 in let q = c.put_field-p.ensures in (rw n (rest_next l.left s l.at t l.invariant.0), omega (arith, l.invariant.1), rw n (omega (arith, l.invariant.2, q.next)), rw n (put_more l.left s l.at t l.invariant.0 q ∙ l.invariant.3))

pub returns : goal.returns
returns c =
    let s = c.args.notice.now in let l = c.loop-left in let z : l.left ≡ 0 = omega arith in let e = text_end l.left s l.at z in record { stored = ap (λ t. sets l.out l.p t) (sym e) ∙ l.invariant.3; next = omega (arith, l.invariant.2, ap length e) }
