use Rattle.std.proofs.Common.{◌≡◌, ℕ, ◌+◌, ◌-◌, List, take, drop, ap, ◌∙◌, ap₂, arith}
use lib.Seq.{sets}
use Rattle.word.specs.Word.{word_bytes}
use Rattle.notice.specs.Layout.{count_of}
use Rattle.notice.specs.Render.{field_bytes}
use Rattle.notice.specs.Write.{field, field_size, place_for}
use Rattle.notice.proofs.Inserts.{known, inserted}
use Rattle.notice.proofs.writing.insert.Goals as goal

pub move_up-requires : goal.move_up-requires
move_up-requires c =
    let z : c.args.len - 0 ≡ c.args.len = omega arith in
    let k = known c.args.buffer.now (λ i. (c.slice_known-1.given i).fits) c.args.len (field c.args.kind c.args.name.now c.args.value.now) c.requires in omega (arith, k.before_end, k.fits, c.place_for-at.ensures ∙ ap (λ (n : ℕ). place_for (take n c.args.buffer.now) c.args.name.now) z)

pub put_field-requires : goal.put_field-requires
put_field-requires c =
    let z : c.args.len - 0 ≡ c.args.len = omega arith in
    let k = known c.args.buffer.now (λ i. (c.slice_known-1.given i).fits) c.args.len (field c.args.kind c.args.name.now c.args.value.now) c.requires in omega (arith, k.before_end, k.fits, k.name_fits, k.value_fits, c.place_for-at.ensures ∙ ap (λ (n : ℕ). place_for (take n c.args.buffer.now) c.args.name.now) z, c.move_up.auto.buffer)

pub returns : goal.returns
returns c =
    let z : c.args.len - 0 ≡ c.args.len = omega arith in
    let a = c.args in
    let f = field a.kind a.name.now a.value.now in
    let b = a.buffer.now in
    let size = field_size f in
    let at = c.place_for-at.result in
    c.write_u16.ensures
    ∙ (ap₂ (λ (t : List ℕ) (n : ℕ). sets t 6 (word_bytes 2 (n + 1))) (c.write_u32.ensures
    ∙ ap (λ (t : List ℕ). sets t 0 (word_bytes 4 (a.len + size - 4))) (c.put_field.ensures
    ∙ ap (λ (t : List ℕ). sets t at (field_bytes f)) c.move_up.ensures)) (c.read_u16-count.ensures ∙ ap (λ (n : ℕ). count_of (take n c.args.buffer.now)) z)
    ∙ (ap (λ (i : ℕ). sets (sets (sets (sets b (i + size) (take (a.len - i) (drop i b))) i (field_bytes f)) 0 (word_bytes 4 (a.len + size - 4))) 6 (word_bytes 2 (count_of (take a.len b) + 1))) (c.place_for-at.ensures ∙ ap (λ (n : ℕ). place_for (take n c.args.buffer.now) c.args.name.now) z)
    ∙ inserted b (λ i. (c.slice_known-1.given i).fits) a.len f c.requires))
