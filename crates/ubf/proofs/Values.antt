-- The sizes of values by kind, the texts of values by kind, and the parts of a field of a notice. Assumes nothing.
use Rattle.std.specs.Prelude.{Ok}
use mathlib.Core.Path.{◌≡◌, refl, sym, ap, ap₂, ◌∙◌}
use mathlib.Core.Bool.{Bool, true, false, ◌||◌}
use mathlib.Core.List.{List, [], ◌∷◌, ◌++◌, map}
use Prim.Native.Nat.{ℕ, zero, suc, ◌+◌, ◌*◌, ◌-◌, ◌≤◌, ◌<◌}
use native.Mathlib.Omega.{arith}
use borrow.Author.Tests.{ne_eqb, eqb-true, eqb-false, leb-true}
use lib.Dec.{eqb, lit<, lit≤}
use lib.ListN.{length, take, drop, length-append}
use lib.Seq.{sets, get_or-drop}
use Rattle.word.specs.Word.{word_at, Bytes}
use Rattle.word.proofs.Theorems.{bounded}
use Rattle.decimal.specs.Decimal.{Put}
use Rattle.octets.proofs.Theorems.{and_parts}
use Rattle.notice.specs.Field.{Field, name_right, size_right, field_right}
use Rattle.notice.specs.Layout.{size_at, kind_at, name_size_at, value_size_at, value_start, next_at, name_at, value_at, field_at, lies_at, right_at, count_of, header_right, check_from, check_of}
use Rattle.notice.proofs.Keys.{bytes_take}
use Rattle.notice.proofs.Places.{right_lies, length_name, length_value}
use Rattle.notice.proofs.Walks.{starts_end, starts_more}
use Rattle.notice.proofs.Checks.{wrong_field, wrong-order, right-field, by_fields, wrong_header}
use Rattle.notice.proofs.Renders.{fault_well, fields_from}
use Rattle.octets.specs.Octets.{before_of}
use Rattle.ubf.specs.Escape.{escapes}
use Rattle.ubf.specs.Text.{signed_of, signed_text, tag_text, string_text, binary_text, value_text, field_text, fields_text}
use Rattle.ubf.specs.Answer.{has_real}
use Rattle.common.proofs.Stores.{sets_append}
use Rattle.ubf.proofs.Laws.{length_string, length_binary, escapes_most, signed_short, count_short, or_assoc}

false_true : {A : Type 0} → false ≡ true → A
false_true e = let z : ◌≡◌ {A = ℕ} 0 1 = cc in absurd (omega arith)

-- ---- sizes and texts by kind

module _ (k : ℕ) where
  pub size_4 : (n : ℕ) → k ≡ 1 → size_right k n ≡ true → n ≡ 4
  size_4 n e h = eqb-true n 4 (rw e at h)

  pub size_8 : (n : ℕ) → k ≡ 2 → size_right k n ≡ true → n ≡ 8
  size_8 n e h = eqb-true n 8 (rw e at h)

  pub size_most : (n : ℕ) → (k ≡ 1 → ⊥) → size_right k n ≡ true → n ≤ 1024
  size_most n p h = go (eqb k 2 || eqb k 3) refl (eqb k 4 || eqb k 5) refl
    where
      go : (a : Bool) → (eqb k 2 || eqb k 3) ≡ a → (b : Bool) → (eqb k 4 || eqb k 5) ≡ b → n ≤ 1024
      go true e b f = let q : eqb n 8 ≡ true = rw (ne_eqb k 1 p, e) at h in omega (arith, eqb-true n 8 q)
      go false e true f = leb-true n 1024 (rw (ne_eqb k 1 p, e, f) at h)
      go false e false f = false_true (rw (ne_eqb k 1 p, e, f) at h)

  module _ (v : List ℕ) where
    pub text_1 : k ≡ 1 → signed_text (signed_of 4 (word_at 4 v 0)) ≡ value_text k v
    unfolding value_text
    text_1 e = rw e

    pub text_2 : k ≡ 2 → signed_text (signed_of 8 (word_at 8 v 0)) ++ tag_text ≡ value_text k v
    unfolding value_text
    text_2 e = rw e

    pub text_4 : k ≡ 4 → string_text v ≡ value_text k v
    unfolding value_text
    text_4 e = rw e

    pub text_other : (k ≡ 1 → ⊥) → (k ≡ 2 → ⊥) → (k ≡ 4 → ⊥) → binary_text v ≡ value_text k v
    unfolding value_text
    text_other p q r = rw (ne_eqb k 1 p, ne_eqb k 2 q, ne_eqb k 4 r)

-- ---- a field of a notice

module _ (s : List ℕ) (at : ℕ) (h : right_at s at ≡ true) where
  pub record Parts : Type 0 where
    pub room : 3 + name_size_at s at ≤ size_at s at
    pub within : at + 2 + size_at s at ≤ length s
    pub name_long : length (name_at s at) ≡ name_size_at s at
    pub value_long : length (value_at s at) ≡ value_size_at s at
    pub size_right_lem : size_right (kind_at s at) (length (value_at s at)) ≡ true

  pub parts : Parts
  parts =
      let l = right_lies s at h in
      record {
        room = l.room;
        within = l.within;
        name_long = length_name s at l;
        value_long = length_value s at l;
        size_right_lem = (and_parts (name_right (name_at s at)) (size_right (kind_at s at) (length (value_at s at))) (and_parts (lies_at s at) (field_right (field_at s at)) h).1).1;
      }

module _ (s : List ℕ) (at : ℕ) where
  pub name_part : (v : ℕ) → v ≡ at + 5 + name_size_at s at → take (v - (at + 5)) (drop (at + 5) s) ≡ name_at s at
  name_part v e = let z : v - (at + 5) ≡ name_size_at s at = omega arith in rw z

  pub value_part : (v n : ℕ) → v ≡ at + 5 + name_size_at s at → n ≡ at + 2 + size_at s at → take (n - v) (drop v s) ≡ value_at s at
  value_part v n e f =
      let z : n - v ≡ value_size_at s at = omega arith in
      ap₂ (λ (i j : ℕ). take i (drop j s)) z e

pub length_field : (f : Field) → length (field_text f) ≡ length (escapes 34 f.name) + 2 + length (value_text f.kind f.value)
length_field f = let e = length-append (string_text f.name) (value_text f.kind f.value) in omega (arith, length_string f.name)

-- ---- the fields that are left on a walk over a well-formed notice

pub record Rest (n : ℕ) (s : List ℕ) (at : ℕ) : Type 0 where
  pub last : List ℕ
  pub checked : check_from n last s at ≡ Ok tt

pub rest_start : (s : List ℕ) → check_of s ≡ Ok tt → Rest (count_of s) s 8
rest_start s w = go (header_right s) refl
  where
    go : (b : Bool) → header_right s ≡ b → Rest (count_of s) s 8
    go true e = record { last = []; checked = by_fields s e ∙ w }
    go false e = fault_well (wrong_header s e ∙ w)

module _ (n : ℕ) (s : List ℕ) (at : ℕ) (p : 0 < n) (r : Rest n s at) where
  pub rest_right : right_at s at ≡ true
  rest_right = go (right_at s at) refl
    where
      go : (b : Bool) → right_at s at ≡ b → right_at s at ≡ true
      go true e = e
      go false e = fault_well (wrong_field s at r.last n p e ∙ r.checked)

  pub rest_next : Rest (n - 1) s (next_at s at)
  rest_next = go (before_of r.last (name_at s at)) refl
    where
      go : (b : Bool) → before_of r.last (name_at s at) ≡ b → Rest (n - 1) s (next_at s at)
      go true e = record { last = name_at s at; checked = right-field s at r.last n p (name_at s at) refl rest_right e ∙ r.checked }
      go false e = fault_well (wrong-order s at r.last n p (name_at s at) refl rest_right e ∙ r.checked)

  pub rest_more : fields_from n s at ≡ field_at s at ∷ fields_from (n - 1) s (next_at s at)
  rest_more = ap (map (field_at s)) (starts_more s at n p (and_parts (lies_at s at) (field_right (field_at s at)) rest_right).0)

  pub real_more : has_real (fields_from n s at) ≡ (eqb (kind_at s at) 3 || has_real (fields_from (n - 1) s (next_at s at)))
  unfolding has_real
  real_more = ap has_real rest_more

  pub real_next : (real : Bool) (k m : ℕ) → k ≡ kind_at s at → m ≡ next_at s at → ((real || eqb k 3) || has_real (fields_from (n - 1) s m)) ≡ (real || has_real (fields_from n s at))
  real_next real k m e f =
      or_assoc real (eqb k 3) (has_real (fields_from (n - 1) s m))
      ∙ ap₂ (λ (i j : ℕ). real || (eqb i 3 || has_real (fields_from (n - 1) s j))) e f
      ∙ ap (λ (b : Bool). real || b) (sym real_more)

  text_more : fields_text (fields_from n s at) ≡ field_text (field_at s at) ++ fields_text (fields_from (n - 1) s (next_at s at))
  unfolding fields_text
  text_more = ap fields_text rest_more

  pub length_more : length (fields_text (fields_from n s at)) ≡ length (field_text (field_at s at)) + length (fields_text (fields_from (n - 1) s (next_at s at)))
  length_more = ap length text_more ∙ length-append (field_text (field_at s at)) (fields_text (fields_from (n - 1) s (next_at s at)))

  pub put_more : {d d1 : List ℕ} {q t : ℕ} → Put d q (field_text (field_at s at)) d1 t → sets d1 t (fields_text (fields_from (n - 1) s (next_at s at))) ≡ sets d q (fields_text (fields_from n s at))
  put_more {d} {d1} {q} {t} put =
      ap₂ (λ (l : List ℕ) (i : ℕ). sets l i (fields_text (fields_from (n - 1) s (next_at s at)))) put.stored put.next
      ∙ sym (sets_append (field_text (field_at s at)) (fields_text (fields_from (n - 1) s (next_at s at))) d q)
      ∙ ap (λ (l : List ℕ). sets d q l) (sym text_more)

module _ (s : List ℕ) (at : ℕ) where
  pub real_none : has_real (fields_from 0 s at) ≡ false
  unfolding has_real
  real_none = ap (λ (l : List ℕ). has_real (map (field_at s) l)) (starts_end s at)

  pub text_none : fields_text (fields_from 0 s at) ≡ []
  unfolding fields_text
  text_none = ap (λ (l : List ℕ). fields_text (map (field_at s) l)) (starts_end s at)

or-false : (b : Bool) → (b || false) ≡ b
or-false true = refl
or-false false = refl

pub real_end : (real : Bool) (n : ℕ) (s : List ℕ) (at : ℕ) → n ≡ 0 → (real || has_real (fields_from n s at)) ≡ real
real_end real n s at e = ap (λ (k : ℕ). real || has_real (fields_from k s at)) e ∙ ap (λ (b : Bool). real || b) (real_none s at) ∙ or-false real

pub text_end : (n : ℕ) (s : List ℕ) (at : ℕ) → n ≡ 0 → fields_text (fields_from n s at) ≡ []
text_end n s at e = ap (λ (k : ℕ). fields_text (fields_from k s at)) e ∙ text_none s at

-- ---- no text is longer than twice its notice and 5 bytes a field

bytes_drop : (n : ℕ) (s : List ℕ) → Bytes s → Bytes (drop n s)
bytes_drop n s b i = let e = get_or-drop n s i 0 in rw e (b (n + i))

pub value_bytes : (s : List ℕ) (at : ℕ) → Bytes s → Bytes (value_at s at)
value_bytes s at b = bytes_take (value_size_at s at) (drop (value_start s at) s) (bytes_drop (value_start s at) s b)

value_room : (k : ℕ) (v : List ℕ) → Bytes v → size_right k (length v) ≡ true → length (value_text k v) ≤ 2 * length v + 13
value_room k v b h = go (eqb k 1) (eqb k 2) (eqb k 4) refl refl refl
  where
    go : (x y z : Bool) → eqb k 1 ≡ x → eqb k 2 ≡ y → eqb k 4 ≡ z → length (value_text k v) ≤ 2 * length v + 13
    go true y z e f g =
        let o = eqb-true k 1 e in
        omega (arith, size_4 k (length v) o h, signed_short 4 (word_at 4 v 0) (lit< tt) (lit≤ tt) (bounded 4 0 v b), ap length (text_1 k v o))
    go false true z e f g =
        let o = eqb-true k 2 f in
        let a = length-append (signed_text (signed_of 8 (word_at 8 v 0))) tag_text in
        omega (arith, a, size_8 k (length v) o h, signed_short 8 (word_at 8 v 0) (lit< tt) (lit≤ tt) (bounded 8 0 v b), ap length (text_2 k v o))
    go false false true e f g = omega (arith, length_string v, escapes_most v, ap length (text_4 k v (eqb-true k 4 g)))
    go false false false e f g =
        let o = eqb-false k 1 e in
        omega (arith, length_binary v, count_short (length v) (size_most k (length v) o h), ap length (text_other k v o (eqb-false k 2 f) (eqb-false k 4 g)))

field_room : (s : List ℕ) (at : ℕ) → Bytes s → right_at s at ≡ true → length (field_text (field_at s at)) ≤ 2 * (2 + size_at s at) + 5
field_room s at b h =
    let p = parts s at h in
    omega (arith, length_field (field_at s at), escapes_most (name_at s at), value_room (kind_at s at) (value_at s at) (value_bytes s at b) p.size_right_lem, p.room, p.name_long, p.value_long)

pub rest_room : (n : ℕ) (s : List ℕ) (at : ℕ) → Bytes s → Rest n s at → at ≤ length s → length (fields_text (fields_from n s at)) ≤ 2 * (length s - at) + 5 * n
rest_room zero s at b r l = omega (arith, ap length (text_end 0 s at refl))
rest_room (suc n) s at b r l =
    let z : 0 < suc n = omega arith in
    let h = rest_right (suc n) s at z r in
    let p = parts s at h in
    let e : suc n - 1 ≡ n = omega arith in
    let ih = rest_room n s (next_at s at) b (rw e at (rest_next (suc n) s at z r)) p.within in
    let m : length (fields_text (fields_from (suc n) s at)) ≡ length (field_text (field_at s at)) + length (fields_text (fields_from n s (next_at s at))) = rw e at (length_more (suc n) s at z r) in
    omega (arith, m, field_room s at b h, ih, p.within)
