use Rattle.std.proofs.Common.{ℕ, ◌+◌, List, length, set, ap, ◌∙◌}
use lib.Seq.{sets}
use Rattle.word.specs.Word.{word_bytes}
use Rattle.notice.specs.Write.{field}
use Rattle.notice.proofs.Stores.{field_stored}
use Rattle.notice.proofs.writing.put_field.Goals as goal

pub returns : goal.returns
returns c =
    let a = c.args in
    let name = a.name.now in
    let at = a.at in
    c.copy_to-2.ensures
    ∙ (ap (λ (t : List ℕ). sets t (at + 5 + length name) a.value.now) (c.copy_to.ensures
    ∙ ap (λ (t : List ℕ). sets (set t (at + 4) (length name)) (at + 5) name) (c.write_u16-2.ensures
    ∙ ap (λ (t : List ℕ). sets t (at + 2) (word_bytes 2 a.kind)) c.write_u16.ensures))
    ∙ field_stored a.buffer.now at (field a.kind name a.value.now))
