-- One field as bytes: what is written is read, and what is read is written again. Assumes nothing.
use Rattle.std.proofs.Common.{◌≡◌, ℕ, suc, ◌+◌, ◌^◌, ◌<◌, ◌≤◌, Bool, true, false, cond, ◌&&◌, ◌||◌, eqb, leb, List, [], ◌∷◌, ◌++◌, length, get_or, take, drop, sym, refl, ap, ◌∙◌, ap₂, ⊎_elim, append_assoc, arith, length-append, take-append-drop, drop-cons, drop-drop, drop_at, eqb-true, leb-true}
use lib.Seq.{get_or_at, take-append_seam}
use Rattle.common.proofs.Choice.{true_false}
use Rattle.word.specs.Word.{word_at, word_bytes, Bytes}
use Rattle.word.proofs.Laws.{length_word_bytes}
use Rattle.word.proofs.Theorems.{bytes_read, read_bytes_lem}
use Rattle.octets.proofs.Theorems.{and_parts, or_parts}
use Rattle.notice.specs.Field.{Field, printable, name_right, size_right, field_right}
use Rattle.notice.specs.Render.{field_bytes}
use Rattle.notice.specs.Layout.{size_at, kind_at, name_size_at, value_size_at, value_start, next_at, name_at, value_at, field_at, lies_at}
use Rattle.notice.proofs.Places.{Lies, true_lies, length_name, length_value}

-- the numbers of a right field fit their words
pub record Small (f : Field) : Type 0 where
  pub kind_fits : f.kind ≤ 5
  pub some_name : 1 ≤ length f.name
  pub name_fits : length f.name ≤ 64
  pub value_fits : length f.value ≤ 1024

kind_size : (k n : ℕ) → size_right k n ≡ true → (k ≤ 5) × (n ≤ 1024)
kind_size k n e = one (eqb k 1) refl e
  where
    three : (b : Bool) → (eqb k 4 || eqb k 5) ≡ b → cond b (leb n 1024) false ≡ true → (k ≤ 5) × (n ≤ 1024)
    three true p h =
        let m : n ≤ 1024 = leb-true n 1024 h in
        ⊎_elim (λ q. let z : k ≡ 4 = eqb-true k 4 q in omega arith) (λ q. let z : k ≡ 5 = eqb-true k 5 q in omega arith) (or_parts (eqb k 4) (eqb k 5) p)
    three false p h = true_false (sym h)

    two : (b : Bool) → (eqb k 2 || eqb k 3) ≡ b → cond b (eqb n 8) (cond (eqb k 4 || eqb k 5) (leb n 1024) false) ≡ true → (k ≤ 5) × (n ≤ 1024)
    two true p h =
        let m : n ≡ 8 = eqb-true n 8 h in
        ⊎_elim (λ q. let z : k ≡ 2 = eqb-true k 2 q in omega arith) (λ q. let z : k ≡ 3 = eqb-true k 3 q in omega arith) (or_parts (eqb k 2) (eqb k 3) p)
    two false p h = three (eqb k 4 || eqb k 5) refl h

    one : (b : Bool) → eqb k 1 ≡ b → cond b (eqb n 4) (cond (eqb k 2 || eqb k 3) (eqb n 8) (cond (eqb k 4 || eqb k 5) (leb n 1024) false)) ≡ true → (k ≤ 5) × (n ≤ 1024)
    one true p h =
        let m : n ≡ 4 = eqb-true n 4 h in
        let z : k ≡ 1 = eqb-true k 1 p in
        omega arith
    one false p h = two (eqb k 2 || eqb k 3) refl h

pub right_small : (f : Field) → field_right f ≡ true → Small f
right_small f e =
    let p = and_parts (name_right f.name) (size_right f.kind (length f.value)) e in
    let q = and_parts (leb 1 (length f.name) && leb (length f.name) 64) (printable f.name) p.0 in
    let r = and_parts (leb 1 (length f.name)) (leb (length f.name) 64) q.0 in
    let k = kind_size f.kind (length f.value) p.1 in
    record {
      kind_fits = k.0;
      some_name = leb-true 1 (length f.name) r.0;
      name_fits = leb-true (length f.name) 64 r.1;
      value_fits = k.1;
    }

pub length_field : (f : Field) → length (field_bytes f) ≡ 5 + length f.name + length f.value
length_field f = simp (length-append, length_word_bytes) (omega arith)

-- a field between others
module _ (p q : List ℕ) (f : Field) (small : Small f) where
  abbrev size : ℕ
  size = 3 + length f.name + length f.value

  abbrev to_name : List ℕ
  to_name = p ++ (word_bytes 2 size ++ (word_bytes 2 f.kind ++ (length f.name ∷ [])))

  abbrev to_value : List ℕ
  to_value = p ++ (word_bytes 2 size ++ (word_bytes 2 f.kind ++ (length f.name ∷ f.name)))

  abbrev whole : List ℕ
  whole = p ++ (field_bytes f ++ q)

  from_kind : whole ≡ (p ++ word_bytes 2 size) ++ (word_bytes 2 f.kind ++ (length f.name ∷ (f.name ++ (f.value ++ q))))
  from_kind = simp append_assoc

  from_size : whole ≡ p ++ (word_bytes 2 size ++ (word_bytes 2 f.kind ++ (length f.name ∷ (f.name ++ (f.value ++ q)))))
  from_size = simp append_assoc

  from_name_size : whole ≡ (p ++ (word_bytes 2 size ++ word_bytes 2 f.kind)) ++ (length f.name ∷ (f.name ++ (f.value ++ q)))
  from_name_size = simp append_assoc

  from_name : whole ≡ to_name ++ (f.name ++ (f.value ++ q))
  from_name = simp append_assoc

  from_value : whole ≡ to_value ++ (f.value ++ q)
  from_value = simp append_assoc

  pub size_read : size_at whole (length p) ≡ size
  size_read =
      let b : size < 256 ^ 2 = omega (arith, small.name_fits, small.value_fits) in
      ap (λ (s : List ℕ). word_at 2 s (length p)) from_size ∙ bytes_read 2 size p _ b

  pub kind_read : kind_at whole (length p) ≡ f.kind
  kind_read =
      let b : f.kind < 256 ^ 2 = omega (arith, small.kind_fits) in
      let a : length (p ++ word_bytes 2 size) ≡ length p + 2 = simp (length-append, length_word_bytes) in
      ap₂ (λ (s : List ℕ) (n : ℕ). word_at 2 s n) from_kind (sym a) ∙ bytes_read 2 f.kind (p ++ word_bytes 2 size) _ b

  pub name_size_read : name_size_at whole (length p) ≡ length f.name
  name_size_read =
      let a : length (p ++ (word_bytes 2 size ++ word_bytes 2 f.kind)) ≡ length p + 4 = simp (length-append, length_word_bytes) in
      ap (λ (s : List ℕ). get_or s (length p + 4) 0) from_name_size ∙ get_or_at (p ++ (word_bytes 2 size ++ word_bytes 2 f.kind)) _ _ 0 (length p + 4) a

  pub name_read : name_at whole (length p) ≡ f.name
  name_read =
      let a : length to_name ≡ length p + 5 = simp (length-append, length_word_bytes) in
      let d : drop (length p + 5) whole ≡ f.name ++ (f.value ++ q) = ap (drop (length p + 5)) from_name ∙ drop_at to_name (f.name ++ (f.value ++ q)) (length p + 5) a in
      ap₂ (λ (n : ℕ) (s : List ℕ). take n s) name_size_read d ∙ take-append_seam f.name (f.value ++ q)

  pub value_size_read : value_size_at whole (length p) ≡ length f.value
  value_size_read = omega (arith, size_read, name_size_read)

  pub value_read : value_at whole (length p) ≡ f.value
  value_read =
      let n : value_start whole (length p) ≡ length p + 5 + length f.name = omega (arith, name_size_read) in
      let a : length to_value ≡ length p + 5 + length f.name = simp (length-append, length_word_bytes) (omega arith) in
      let d : drop (length p + 5 + length f.name) whole ≡ f.value ++ q = ap (drop (length p + 5 + length f.name)) from_value ∙ drop_at to_value (f.value ++ q) (length p + 5 + length f.name) a in
      ap₂ (λ (m : ℕ) (s : List ℕ). take m s) value_size_read (ap (λ (k : ℕ). drop k whole) n ∙ d) ∙ take-append_seam f.value q

  pub field_read : field_at whole (length p) ≡ f
  field_read = λ i. record { kind = kind_read i; name = name_read i; value = value_read i }

  pub next_read : next_at whole (length p) ≡ length (p ++ field_bytes f)
  next_read = omega (arith, size_read, length-append p (field_bytes f), length_field f)

  pub lies_read : lies_at whole (length p) ≡ true
  lies_read =
      let l : length whole ≡ length p + (length (field_bytes f) + length q) = simp length-append in
      sym (true_lies whole (length p) (record {
        room = omega (arith, size_read, name_size_read);
        within = omega (arith, l, size_read, length_field f);
      }))

-- a field that lies within some bytes is the bytes from its start on
pub split_drop : (k at : ℕ) (s : List ℕ) → drop at s ≡ take k (drop at s) ++ drop (at + k) s
split_drop k at s = sym (take-append-drop k (drop at s)) ∙ ap (λ (t : List ℕ). take k (drop at s) ++ t) (drop-drop k at s)

module _ (s : List ℕ) (bytes : Bytes s) (at : ℕ) (l : Lies s at) where
  pub field_written : drop at s ≡ field_bytes (field_at s at) ++ drop (next_at s at) s
  field_written =
      let room = l.room in
      let within = l.within in
      let e1 : drop at s ≡ word_bytes 2 (size_at s at) ++ drop (at + 2) s = split_drop 2 at s ∙ ap (λ (t : List ℕ). t ++ drop (at + 2) s) (sym (read_bytes_lem 2 at s bytes (omega arith))) in
      let i2 : at + 2 + 2 ≡ at + 4 = omega arith in
      let i3 : suc (at + 4) ≡ at + 5 = omega arith in
      let i5 : value_start s at + value_size_at s at ≡ next_at s at = omega arith in
      let e2 : drop (at + 2) s ≡ word_bytes 2 (kind_at s at) ++ drop (at + 4) s =
      split_drop 2 (at + 2) s ∙ ap₂ (λ (t : List ℕ) (n : ℕ). t ++ drop n s) (sym (read_bytes_lem 2 (at + 2) s bytes (omega arith))) i2 in
      let e3 : drop (at + 4) s ≡ name_size_at s at ∷ drop (at + 5) s =
      drop-cons s (at + 4) 0 (omega arith) ∙ ap (λ (n : ℕ). name_size_at s at ∷ drop n s) i3 in
      let e4 : drop (at + 5) s ≡ name_at s at ++ drop (value_start s at) s = split_drop (name_size_at s at) (at + 5) s in
      let e5 : drop (value_start s at) s ≡ value_at s at ++ drop (next_at s at) s =
      split_drop (value_size_at s at) (value_start s at) s ∙ ap (λ (n : ℕ). value_at s at ++ drop n s) i5 in
      let n : name_size_at s at ≡ length (name_at s at) = sym (length_name s at l) in
      let z : size_at s at ≡ 3 + length (name_at s at) + length (value_at s at) = omega (arith, length_name s at l, length_value s at l) in
      e1 ∙ (ap₂ (λ (m : ℕ) (t : List ℕ). word_bytes 2 m ++ t) z (e2 ∙ ap (λ (t : List ℕ). word_bytes 2 (kind_at s at) ++ t)
      (e3 ∙ ap₂ (λ (m : ℕ) (t : List ℕ). m ∷ t) n (e4 ∙ ap (λ (t : List ℕ). name_at s at ++ t) e5)))
      ∙ simp append_assoc)
