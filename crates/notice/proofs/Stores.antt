-- The stores of a field's parts. Assumes nothing.
use Rattle.std.proofs.Common.{◌≡◌, ℕ, suc, ◌+◌, List, ◌∷◌, ◌++◌, length, set, sym, ap, ◌∙◌, arith}
use lib.Seq.{sets}
use Rattle.common.proofs.Stores.{sets_append}
use Rattle.word.specs.Word.{word_bytes}
use Rattle.word.proofs.Laws.{length_word_bytes}
use Rattle.notice.specs.Field.{Field}
use Rattle.notice.specs.Render.{field_bytes}

-- the stores of a field's parts are the stores of its bytes
pub field_stored : (d : List ℕ) (at : ℕ) (f : Field)
    → sets (sets (set (sets (sets d at (word_bytes 2 (3 + length f.name + length f.value))) (at + 2) (word_bytes 2 f.kind)) (at + 4) (length f.name)) (at + 5) f.name) (at + 5 + length f.name) f.value
    ≡ sets d at (field_bytes f)
field_stored d at f =
    let size = 3 + length f.name + length f.value in
    let l1 : at + length (word_bytes 2 size) ≡ at + 2 = ap (λ (n : ℕ). at + n) (length_word_bytes 2 size) in
    let l2 : at + 2 + length (word_bytes 2 f.kind) ≡ at + 4 = omega (arith, length_word_bytes 2 f.kind) in
    let l3 : suc (at + 4) ≡ at + 5 = omega arith in
    let d1 = sets d at (word_bytes 2 size) in
    let d2 = sets d1 (at + 2) (word_bytes 2 f.kind) in
    let d3 = set d2 (at + 4) (length f.name) in
    let rest = length f.name ∷ (f.name ++ f.value) in
    sym (sets_append (word_bytes 2 size) (word_bytes 2 f.kind ++ rest) d at
    ∙ (ap (λ (n : ℕ). sets d1 n (word_bytes 2 f.kind ++ rest)) l1
    ∙ (sets_append (word_bytes 2 f.kind) rest d1 (at + 2)
    ∙ (ap (λ (n : ℕ). sets d2 n rest) l2
    ∙ (ap (λ (n : ℕ). sets d3 n (f.name ++ f.value)) l3
    ∙ sets_append f.name f.value d3 (at + 5))))))
