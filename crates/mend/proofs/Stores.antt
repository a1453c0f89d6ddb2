-- What is stored: a field of the list, the header, and a field's bytes as they are. Assumes nothing.
use mathlib.Core.Path.{◌≡◌, refl, sym, ap, ap₂, ◌∙◌}
use mathlib.Core.Bool.{true}
use mathlib.Core.List.{List, [], ◌∷◌, ◌++◌, append_assoc}
use Prim.Native.Nat.{ℕ, ◌+◌, ◌*◌, ◌≤◌}
use native.Mathlib.Omega.{arith}
use lib.ListN.{length, take, drop, set, length-append}
use lib.Seq.{sets, sets-eq, take_at}
use Rattle.common.proofs.Stores.{sets_append}
use Rattle.word.specs.Word.{word_bytes, Bytes}
use Rattle.word.proofs.Laws.{length_word_bytes}
use Rattle.notice.specs.Render.{field_bytes}
use Rattle.notice.specs.Layout.{size_at, next_at, field_at, right_at}
use Rattle.notice.proofs.Fields.{length_field, field_written}
use Rattle.notice.proofs.Places.{right_lies, length_name, length_value}
use Rattle.mend.specs.Mend.{onto, Entry, entry_bytes, list_bytes}

pub entry_stored : (l d : List ℕ) (p at code : ℕ) → d ≡ sets l p (word_bytes 2 at) → set d (p + 2) code ≡ sets l p (word_bytes 2 at ++ (code ∷ []))
entry_stored l d p at code e =
    let n : p + length (word_bytes 2 at) ≡ p + 2 = omega (arith, length_word_bytes 2 at) in
    ap (λ (x : List ℕ). set x (p + 2) code) e ∙ (ap (λ (i : ℕ). sets (sets l p (word_bytes 2 at)) i (code ∷ [])) (sym n) ∙ sym (sets_append (word_bytes 2 at) (code ∷ []) l p))

pub onto_sets : (vs l : List ℕ) → length vs ≤ length l → sets l 0 vs ≡ onto vs l
onto_sets vs l h =
    let n : 0 + length vs ≡ length vs = omega arith in
    sets-eq vs l 0 (omega arith) ∙ ap₂ (λ (a : List ℕ) (k : ℕ). a ++ vs ++ drop k l) (none l) n
  where
    none : (x : List ℕ) → take 0 x ≡ []
    none [] = refl
    none (b ∷ bs) = refl

-- a header, and what follows it
pub header_stored : (l body : List ℕ) (size count : ℕ) → 8 + length body ≤ length l
    → sets (sets (sets (sets l 0 (word_bytes 4 size)) 4 (word_bytes 2 1)) 6 (word_bytes 2 count)) 8 body ≡ onto ((word_bytes 4 size ++ (word_bytes 2 1 ++ word_bytes 2 count)) ++ body) l
header_stored l body size count h =
    let x = word_bytes 4 size in
    let y = word_bytes 2 1 in
    let z = word_bytes 2 count in
    let lx = length_word_bytes 4 size in
    let ly = length_word_bytes 2 1 in
    let lz = length_word_bytes 2 count in
    let n : 0 + length x ≡ 4 = omega arith in
    let m : 4 + length y ≡ 6 = omega arith in
    let k : 6 + length z ≡ 8 = omega arith in
    let three : sets (sets (sets (sets l 0 x) 4 y) 6 z) 8 body ≡ sets (sets (sets l 0 x) 4 y) 6 (z ++ body) =
    ap (λ (i : ℕ). sets (sets (sets (sets l 0 x) 4 y) 6 z) i body) (sym k) ∙ sym (sets_append z body (sets (sets l 0 x) 4 y) 6) in
    let two : sets (sets (sets l 0 x) 4 y) 6 (z ++ body) ≡ sets (sets l 0 x) 4 (y ++ (z ++ body)) =
    ap (λ (i : ℕ). sets (sets (sets l 0 x) 4 y) i (z ++ body)) (sym m) ∙ sym (sets_append y (z ++ body) (sets l 0 x) 4) in
    let one : sets (sets l 0 x) 4 (y ++ (z ++ body)) ≡ sets l 0 (x ++ (y ++ (z ++ body))) =
    ap (λ (i : ℕ). sets (sets l 0 x) i (y ++ (z ++ body))) (sym n) ∙ sym (sets_append x (y ++ (z ++ body)) l 0) in
    let a : x ++ (y ++ (z ++ body)) ≡ (x ++ (y ++ z)) ++ body = ap (λ (t : List ℕ). x ++ t) (sym (append_assoc y z body)) ∙ sym (append_assoc x (y ++ z) body) in
    let w : length (x ++ (y ++ (z ++ body))) ≤ length l = omega (arith, length-append x (y ++ (z ++ body)), length-append y (z ++ body), length-append z body) in
    three ∙ (two ∙ (one ∙ (onto_sets (x ++ (y ++ (z ++ body))) l w ∙ ap (λ (t : List ℕ). onto t l) a)))

-- "bytes and all": a right field is written as the bytes that it was read from
pub field_size_lem : (s : List ℕ) (at : ℕ) → right_at s at ≡ true → length (field_bytes (field_at s at)) ≡ 2 + size_at s at
field_size_lem s at r = let l = right_lies s at r in omega (arith, length_field (field_at s at), length_name s at l, length_value s at l, l.room)

pub field_bytes_lem : (s : List ℕ) (at : ℕ) → Bytes s → right_at s at ≡ true → field_bytes (field_at s at) ≡ take (2 + size_at s at) (drop at s)
field_bytes_lem s at bytes r =
    sym (ap (take (2 + size_at s at)) (field_written s bytes at (right_lies s at r)) ∙ take_at (field_bytes (field_at s at)) (drop (next_at s at) s) (2 + size_at s at) (field_size_lem s at r))

pub list_length : (es : List Entry) → length (list_bytes es) ≡ 3 * length es
list_length [] = refl
list_length (e ∷ es) =
    omega (arith, list_length es, length-append (entry_bytes e) (list_bytes es), length-append (word_bytes 2 e.offset) (e.code ∷ []), length_word_bytes 2 e.offset)
