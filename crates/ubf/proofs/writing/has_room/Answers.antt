use mathlib.Core.Path.{◌≡◌, sym, ap}
use Prim.Native.Nat.{ℕ, ◌+◌}
use native.Mathlib.Omega.{arith}
use borrow.Author.Tests.{le-leb}
use lib.Dec.{leb}
use lib.ListN.{length}
use Rattle.notice.specs.Layout.{fields_of}
use Rattle.notice.proofs.Renders.{well_header}
use Rattle.ubf.specs.Text.{text_of}
use Rattle.ubf.proofs.Writes.{length_text, text_room}
use Rattle.ubf.proofs.writing.has_room.Goals as goal

pub overflow_add-notice : goal.overflow_add-notice
overflow_add-notice c =
    let h = well_header c.args.notice.now (λ i. (c.shared_slice_known-1.given i).fits) c.requires in record { fits = omega (arith, h.short) }

pub returns-then-notice-room : goal.returns-then-notice-room
returns-then-notice-room c =
    let a = c.args in sym (le-leb (length (text_of (fields_of a.notice.now))) a.room (omega (arith, text_room a.notice.now (λ i. (c.shared_slice_known-1.given i).fits) c.requires, c.if-notice-room.true)))

pub returns : goal.returns
returns c =
    let a = c.args in
    let e : c.measure.result + 3 ≡ length (text_of (fields_of a.notice.now)) = omega (arith, length_text (fields_of a.notice.now), c.measure.ensures.0) in
    ap (λ (n : ℕ). leb n a.room) e
