-- What writing answers and leaves, by its tests. Assumes nothing.
use Rattle.std.specs.Prelude.{Ok, Err}
use mathlib.Core.Path.{◌≡◌, ap, ◌∙◌}
use mathlib.Core.Bool.{true, false}
use mathlib.Core.List.{List, [], ◌∷◌, ◌++◌, map}
use Prim.Native.Nat.{ℕ, ◌+◌, ◌*◌, ◌≤◌, ◌<◌}
use native.Mathlib.Omega.{arith}
use borrow.Author.Tests.{le-leb, lt-leb}
use lib.ListN.{length, drop, length-append}
use lib.Seq.{sets, sets-eq}
use Rattle.refusal.specs.declared.Refusal.{Refusal}
use Rattle.refusal.specs.Refusal.{number_of as refusal_number, place_of as refusal_place}
use Rattle.refusal.proofs.Numbers.{not_zero}
use Rattle.notice.specs.Layout.{count_of, field_at, check_of, fields_of}
use Rattle.notice.specs.Field.{Field}
use Rattle.notice.proofs.Renders.{well_header, well_starts}
use Rattle.word.specs.Word.{Bytes}
use Rattle.ubf.specs.Text.{fields_text, text_of}
use Rattle.ubf.specs.Answer.{Answer, has_real, leaves, write_answer, write_bytes}
use Rattle.ubf.proofs.Values.{rest_start, rest_room}

abbrev pub answer : ℕ → ℕ → ℕ → Answer
answer number place len = record { number = number; place = place; len = len }

pub length_text : (fs : List Field) → length (text_of fs) ≡ length (fields_text fs) + 3
length_text fs = let e = length-append (fields_text fs) (125 ∷ 36 ∷ []) in omega arith

pub stored_leaves : (d xs : List ℕ) → length xs ≤ length d → sets d 0 xs ≡ leaves 0 xs d
stored_leaves d xs h = sets-eq xs d 0 (omega arith) ∙ ap (λ (n : ℕ). xs ++ drop n d) (let z : 0 + length xs ≡ length xs = omega arith in z)

module _ (s b : List ℕ) where
  pub faulted : (r : Refusal) → check_of s ≡ Err r → (answer (refusal_number r) (refusal_place r) 0 ≡ write_answer s b) × (b ≡ write_bytes s b)
  faulted r e = (rw (e, not_zero r), rw (e, not_zero r))

  module _ (w : check_of s ≡ Ok tt) where
    pub real_field : has_real (fields_of s) ≡ true → (answer 23 0 0 ≡ write_answer s b) × (b ≡ write_bytes s b)
    real_field e = (rw (w, e), rw (w, e))

    module _ (e : has_real (fields_of s) ≡ false) where
      pub no_room : length b < length (text_of (fields_of s)) → (answer 15 0 0 ≡ write_answer s b) × (b ≡ write_bytes s b)
      no_room h = let l = lt-leb (length (text_of (fields_of s))) (length b) h in (rw (w, e, l), rw (w, e, l))

      pub written : length (text_of (fields_of s)) ≤ length b → (answer 0 0 (length (text_of (fields_of s))) ≡ write_answer s b) × (leaves 0 (text_of (fields_of s)) b ≡ write_bytes s b)
      written h = let l = le-leb (length (text_of (fields_of s))) (length b) h in (rw (w, e, l), rw (w, e, l))

-- no text is longer than twice its notice and 5 bytes for each of 64 fields
pub text_room : (s : List ℕ) → Bytes s → check_of s ≡ Ok tt → length (text_of (fields_of s)) ≤ 2 * length s + 320
text_room s b w =
    let h = well_header s b w in
    let e = ap (λ (l : List ℕ). length (fields_text (map (field_at s) l))) (well_starts s b w) in
    omega (arith, e, length_text (fields_of s), rest_room (count_of s) s 8 b (rest_start s w) h.long, h.long, h.few)
