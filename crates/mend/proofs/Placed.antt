-- The notice's fields, stored as they are in the bytes, those that lie side by side at once. Assumes nothing.
use mathlib.Core.Path.{◌≡◌, sym, ap, ap₂, ◌∙◌}
use mathlib.Core.List.{List, [], ◌∷◌, ◌++◌, append_assoc}
use Prim.Native.Nat.{ℕ, suc, ◌+◌, ◌-◌, ◌≤◌, ◌<◌}
use native.Mathlib.Omega.{arith}
use lib.ListN.{length, get_or, take, drop, length-append, length-drop}
use lib.Seq.{sets, length-sets, drop-cons, drop-drop, get_or-take, length-take-le, take-add}
use Rattle.common.proofs.Stores.{sets_append}
use Rattle.word.specs.Word.{Bytes}
use Rattle.notice.specs.Field.{Field}
use Rattle.notice.specs.Render.{field_bytes, fields_bytes}
use Rattle.notice.specs.Read.{blank}
use Rattle.notice.specs.Layout.{size_at, next_at, field_at}
use Rattle.notice.proofs.Places.{right_lies}
use Rattle.notice.proofs.Sorted.{map_at}
use Rattle.mend.specs.Order.{fields_in, InOrder}
use Rattle.mend.proofs.Orders.{order_length, right_at_lem}
use Rattle.mend.proofs.Stores.{field_size_lem, field_bytes_lem}

module _ (s order : List ℕ) (n : ℕ) (o : InOrder s order n) (i : ℕ) (h : i < n) where
  abbrev fs : List Field
  fs = fields_in s order n

  abbrev at : ℕ
  at = get_or order i 0

  rest_is : fields_bytes (drop i fs) ≡ field_bytes (field_at s at) ++ fields_bytes (drop (i + 1) fs)
  rest_is =
      let k : suc i ≡ i + 1 = omega arith in
      let l = length-take-le n order (omega (arith, o.long, o.few)) in
      let f : get_or fs i blank ≡ field_at s at = map_at (field_at s) (take n order) i 0 blank (omega arith) ∙ ap (field_at s) (get_or-take n order i 0 h) in
      ap fields_bytes (drop-cons fs i blank (omega (arith, order_length s order n o)) ∙ ap₂ (λ (f : Field) (j : ℕ). f ∷ drop j fs) f k)

  pub rest_size : length (fields_bytes (drop i fs)) ≡ 2 + size_at s at + length (fields_bytes (drop (i + 1) fs))
  rest_size = ap length rest_is ∙ omega (arith, length-append (field_bytes (field_at s at)) (fields_bytes (drop (i + 1) fs)), field_size_lem s at (right_at_lem s order n o i h))

-- what was stored and is still to store after i fields: those from `from` to `end`, which lie side by side, and the rest
pub record Placing (s order : List ℕ) (n : ℕ) (notice₀ notice : List ℕ) (to from end i : ℕ) : Type 0 where
  pub within : from ≤ end
  pub inside : end ≤ length s
  pub same_long : length notice ≡ length notice₀
  pub sizes : to + (end - from) + length (fields_bytes (drop i (fields_in s order n))) ≡ 8 + length (fields_bytes (fields_in s order n))
  pub stored : sets notice to (take (end - from) (drop from s) ++ fields_bytes (drop i (fields_in s order n))) ≡ sets notice₀ 8 (fields_bytes (fields_in s order n))

none_taken : (k : ℕ) (l : List ℕ) → k ≡ 0 → take k l ≡ []
none_taken k l e = ap (λ (j : ℕ). take j l) e

module _ (s order : List ℕ) (n : ℕ) (notice₀ notice : List ℕ) (to from end i : ℕ) (r : Placing s order n notice₀ notice to from end i) where
  abbrev part : List ℕ
  part = take (end - from) (drop from s)

  pub part_size : length part ≡ end - from
  part_size = length-take-le (end - from) (drop from s) (omega (arith, length-drop from s, r.within, r.inside))

  -- stored at once, so that what is still to store starts at the next field
  pub flushed : (after : List ℕ) (at : ℕ) → after ≡ sets notice to part → at ≤ length s → Placing s order n notice₀ after (to + (end - from)) at at i
  flushed after at e h =
      let rest = fields_bytes (drop i (fields_in s order n)) in
      let l : to + (end - from) ≡ to + length part = omega (arith, part_size) in
      record {
        within = omega arith;
        inside = h;
        same_long = ap length e ∙ (length-sets notice to part ∙ r.same_long);
        sizes = omega (arith, r.sizes);
        stored = ap₂ (λ (x t : List ℕ). sets t (to + (end - from)) (x ++ rest)) (none_taken (at - at) (drop at s) (omega arith)) e
            ∙ (ap (λ (k : ℕ). sets (sets notice to part) k rest) l ∙ (sym (sets_append part rest notice to) ∙ r.stored));
      }

  -- one field more, which starts where they end
  pub grown : (o : InOrder s order n) (h : i < n) → end ≡ get_or order i 0 → Bytes s → (next : ℕ) → next ≡ next_at s (get_or order i 0) → Placing s order n notice₀ notice to from next (i + 1)
  grown o h e b next z =
      let at = get_or order i 0 in
      let fs = fields_in s order n in
      let right = right_at_lem s order n o i h in
      let lies = right_lies s at right in
      let more = fields_bytes (drop (i + 1) fs) in
      let x = field_bytes (field_at s at) in
      let k : next - from ≡ (end - from) + (2 + size_at s at) = omega (arith, e, z, r.within) in
      let d : from + (end - from) ≡ at = omega (arith, e, r.within) in
      let f : take (2 + size_at s at) (drop (end - from) (drop from s)) ≡ x =
      ap (take (2 + size_at s at)) (drop-drop (end - from) from s ∙ ap (λ (j : ℕ). drop j s) d) ∙ sym (field_bytes_lem s at b right) in
      let p : take (next - from) (drop from s) ≡ part ++ x =
      ap (λ (j : ℕ). take j (drop from s)) k ∙ (take-add (end - from) (2 + size_at s at) (drop from s) ∙ ap (λ (y : List ℕ). part ++ y) f) in
      let q : take (next - from) (drop from s) ++ more ≡ part ++ fields_bytes (drop i fs) =
      ap (λ (y : List ℕ). y ++ more) p ∙ (append_assoc part x more ∙ ap (λ (y : List ℕ). part ++ y) (sym (rest_is s order n o i h))) in
      record {
        within = omega (arith, e, z, r.within);
        inside = omega (arith, z, lies.within);
        same_long = r.same_long;
        sizes = omega (arith, k, r.sizes, rest_size s order n o i h);
        stored = ap (sets notice to) q ∙ r.stored;
      }
