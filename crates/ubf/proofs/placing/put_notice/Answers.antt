-- `put_notice` meets its contract: header and fields are the notice's bytes. Assumes nothing.
use mathlib.Core.Path.{refl, ap, ◌∙◌}
use mathlib.Core.List.{List}
use Prim.Native.Nat.{ℕ}
use native.Mathlib.Omega.{arith}
use lib.Seq.{sets}
use Rattle.word.specs.Word.{word_bytes}
use Rattle.notice.specs.Render.{fields_bytes}
use Rattle.ubf.specs.Span.{ordered}
use Rattle.ubf.proofs.Placed.{placing_whole, notice_stored}
use Rattle.ubf.proofs.placing.put_notice.Goals as goal

pub put_spans-requires : goal.put_spans-requires
put_spans-requires c =
    let a = c.args in
    placing_whole a.text.now a.rows.now a.order.now a.count a.size _ c.requires c.write_u16-2.new.d (omega (arith, c.write_u16-2.auto.d, c.write_u16.auto.d, c.write_u32.auto.d))

pub returns : goal.returns
returns c =
    let a = c.args in
    let body = fields_bytes (ordered a.text.now a.rows.now a.count a.order.now) in
    c.put_spans.ensures
    ∙ (ap (λ (t : List ℕ). sets t 8 body) (c.write_u16-2.ensures
    ∙ ap (λ (t : List ℕ). sets t 6 (word_bytes 2 a.count)) (c.write_u16.ensures
    ∙ ap (λ (t : List ℕ). sets t 4 (word_bytes 2 1)) c.write_u32.ensures))
    ∙ notice_stored a.text.now a.rows.now a.order.now a.count a.size _ c.requires a.buffer.now refl)
