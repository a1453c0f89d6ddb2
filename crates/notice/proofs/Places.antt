-- Where a field's parts lie. Assumes nothing.
use Rattle.std.proofs.Common.{◌≡◌, ℕ, ◌+◌, ◌≤◌, true, false, ◌&&◌, leb, List, length, drop, arith, length-drop, length-take-le, le-leb, leb-true}
use mathlib.Core.Bool.{and-false, and-true}
use Rattle.octets.proofs.Theorems.{and_parts}
use Rattle.notice.specs.Field.{printable, name_right, size_right, field_right}
use Rattle.notice.specs.Layout.{size_at, kind_at, name_size_at, value_size_at, value_start, next_at, name_at, value_at, field_at, lies_at, right_at}

module _ (s : List ℕ) (at : ℕ) where
  -- a field that lies within the notice, in numbers
  pub record Lies : Type 0 where
    pub room : 3 + name_size_at s at ≤ size_at s at
    pub within : next_at s at ≤ length s

  pub lies_true : lies_at s at ≡ true → Lies
  lies_true e =
      let p = and_parts _ _ e in
      record { room = leb-true _ _ p.0; within = leb-true _ _ p.1 }

  pub true_lies : Lies → true ≡ lies_at s at
  true_lies l = rw (le-leb _ _ l.room, le-leb _ _ l.within)

  module _ (l : Lies) where
    pub length_name : length (name_at s at) ≡ name_size_at s at
    length_name = length-take-le (name_size_at s at) (drop (at + 5) s) (simp length-drop (omega (arith, l.room, l.within)))

    pub length_value : length (value_at s at) ≡ value_size_at s at
    length_value = length-take-le (value_size_at s at) (drop (value_start s at) s) (simp length-drop (omega (arith, l.room, l.within)))

  -- the tests of `key_at`: the size first, then the name
  module _ (e : lies_at s at ≡ true) where
    pub wrong_size : size_right (kind_at s at) (value_size_at s at) ≡ false → false ≡ right_at s at
    wrong_size q = rw (e, length_value (lies_true e), q, and-false)

    pub by_name : size_right (kind_at s at) (value_size_at s at) ≡ true → name_right (name_at s at) ≡ right_at s at
    by_name q = rw (e, length_value (lies_true e), q, and-true)

  pub right_lies : right_at s at ≡ true → Lies
  right_lies e = lies_true (and_parts _ _ e).0

  pub right_name : right_at s at ≡ true → (1 ≤ name_size_at s at) × (printable (name_at s at) ≡ true)
  right_name e =
      let p = and_parts (name_right (name_at s at)) (size_right (kind_at s at) (length (value_at s at))) (and_parts (lies_at s at) (field_right (field_at s at)) e).1 in
      let q = and_parts (leb 1 (length (name_at s at)) && leb (length (name_at s at)) 64) (printable (name_at s at)) p.0 in
      let l : 1 ≤ length (name_at s at) = leb-true 1 (length (name_at s at)) (and_parts (leb 1 (length (name_at s at))) (leb (length (name_at s at)) 64) q.0).0 in
      (omega (arith, l, length_name (right_lies e)), q.1)
