-- A whole notice as bytes: the check accepts exactly what `render` gives. Assumes nothing.
use Rattle.std.specs.Prelude.{Ok, Err}
use Rattle.std.proofs.Common.{◌≡◌, ℕ, zero, suc, ◌+◌, ◌-◌, ◌^◌, ◌<◌, ◌≤◌, Bool, true, false, cond, ◌&&◌, eqb, List, [], ◌∷◌, ◌++◌, map, length, drop, sym, refl, ap, ◌∙◌, ap₂, append_assoc, append-nil, arith, length-append, length-drop, drop_of_length-le, eq-eqb, eqb-true, le-leb}
use Rattle.common.specs.Choice.{pick}
use Rattle.word.specs.Word.{word_at, word_bytes, Bytes}
use Rattle.word.proofs.Laws.{length_word_bytes}
use Rattle.word.proofs.Theorems.{bytes_read, read_bytes_lem}
use Rattle.octets.specs.Octets.{before_of}
use Rattle.octets.proofs.Theorems.{and_parts}
use Rattle.refusal.specs.declared.Refusal.{Refusal}
use Rattle.refusal.specs.declared.Refusal.TheVariants.{Notice}
use Rattle.notice.specs.Layout.{Layout}
use Rattle.notice.specs.Field.{Field, field_right, all_right, before_first, rising}
use Rattle.notice.specs.Render.{field_bytes, fields_bytes, header_bytes, render, NoticeFields}
use Rattle.notice.specs.Layout.{next_at, name_at, field_at, lies_at, right_at, stands_at, length_right, count_of, header_right, check_from, check_of, starts_from, starts_of, fields_of}
use Rattle.notice.proofs.Places.{right_lies}
use Rattle.notice.proofs.Walks.{starts_end, starts_more}
use Rattle.notice.proofs.Checks.{Header, header_numbers, more_suc}
use Rattle.notice.proofs.Fields.{right_small, split_drop, field_read, next_read, lies_read, field_written, length_field}

-- a faulty notice is not well-formed
abbrev at_fault : Layout → ℕ
at_fault (Ok u) = 0
at_fault (Err r) = 1

pub fault_well : {A : Type 0} {r : Refusal} → ◌≡◌ {A = Layout} (Err r) (Ok tt) → A
fault_well e = let z : ◌≡◌ {A = ℕ} 1 0 = ap at_fault e in absurd (omega arith)

-- n fields from `at` on
abbrev pub fields_from : ℕ → List ℕ → ℕ → List Field
fields_from n s at = map (field_at s) (starts_from n s at)

-- what the check finds of n fields from `at` on
pub record Checked (n : ℕ) (last s : List ℕ) (at : ℕ) : Type 0 where
  pub rest : drop at s ≡ fields_bytes (fields_from n s at)
  pub count : length (fields_from n s at) ≡ n
  pub right : all_right (fields_from n s at) ≡ true
  pub after : before_first last (fields_from n s at) ≡ true
  pub rises : rising (fields_from n s at) ≡ true

checked_end : (last s : List ℕ) (at : ℕ) → length s ≤ at → Checked 0 last s at
checked_end last s at h =
    let e = starts_end s at in
    record {
      rest = rw (e, drop_of_length-le s h);
      count = rw e;
      right = rw e;
      after = rw e;
      rises = rw e;
    }

checked_more : (n : ℕ) (last s : List ℕ) (at : ℕ) → Bytes s → stands_at last s at ≡ true → Checked n (name_at s at) s (next_at s at) → Checked (suc n) last s at
checked_more n last s at bytes e c =
    let p = and_parts (right_at s at) (before_of last (name_at s at)) e in
    let q = and_parts (lies_at s at) (field_right (field_at s at)) p.0 in
    let i : suc n - 1 ≡ n = omega arith in
    let m : starts_from (suc n) s at ≡ at ∷ starts_from n s (next_at s at) = rw i at (starts_more s at (suc n) (omega arith) q.0) in
    let fs = fields_from n s (next_at s at) in
    record {
      rest = rw m (field_written s bytes at (right_lies s at p.0) ∙ ap (λ (t : List ℕ). field_bytes (field_at s at) ++ t) c.rest);
      count = rw m (ap suc c.count);
      right = rw m (ap₂ (λ (a b : Bool). a && b) q.1 c.right);
      after = rw m p.1;
      rises = rw m (ap₂ (λ (a b : Bool). a && b) c.after c.rises);
    }

-- a check that finds no fault: the first field stands, and the others pass
pub stands_suc : (n : ℕ) (last s : List ℕ) (at : ℕ) → check_from (suc n) last s at ≡ Ok tt → (stands_at last s at ≡ true) × (check_from n (name_at s at) s (next_at s at) ≡ Ok tt)
unfolding check_from
stands_suc n last s at e = go (stands_at last s at) refl e
  where
    go : (b : Bool) → stands_at last s at ≡ b → pick b (λ _. check_from n (name_at s at) s (next_at s at)) (λ _. Err (Notice at)) ≡ Ok tt
        → (stands_at last s at ≡ true) × (check_from n (name_at s at) s (next_at s at) ≡ Ok tt)
    go true p h = (p, h)
    go false p h = fault_well h

pub first_stands : (n : ℕ) (last s : List ℕ) (at : ℕ) → 0 < n → check_from n last s at ≡ Ok tt → (stands_at last s at ≡ true) × (check_from (n - 1) (name_at s at) s (next_at s at) ≡ Ok tt)
first_stands n last s at p e =
    let z : n ≡ suc (n - 1) = omega arith in
    stands_suc (n - 1) last s at (ap (λ (k : ℕ). check_from k last s at) (sym z) ∙ e)

pub check_sound : (n : ℕ) (last s : List ℕ) (at : ℕ) → Bytes s → check_from n last s at ≡ Ok tt → Checked n last s at
unfolding check_from
check_sound zero last s at bytes e = go (eqb at (length s)) refl e
  where
    go : (b : Bool) → eqb at (length s) ≡ b → cond {A = Layout} b (Ok tt) (Err (Notice at)) ≡ Ok tt → Checked 0 last s at
    go true p h = let z : at ≡ length s = eqb-true at (length s) p in checked_end last s at (omega arith)
    go false p h = fault_well h
check_sound (suc n) last s at bytes e =
    let p = stands_suc n last s at e in
    checked_more n last s at bytes p.0 (check_sound n (name_at s at) s (next_at s at) bytes p.1)

-- a list of right fields after some bytes
module _ (fs : List Field) where
  pub length_fields : (f : Field) → length (fields_bytes (f ∷ fs)) ≡ 5 + length f.name + length f.value + length (fields_bytes fs)
  length_fields f = length-append (field_bytes f) (fields_bytes fs) ∙ ap (λ (n : ℕ). n + length (fields_bytes fs)) (length_field f)

pub fields_read : (fs : List Field) (p : List ℕ) → all_right fs ≡ true → fields_from (length fs) (p ++ fields_bytes fs) (length p) ≡ fs
fields_read [] p r = rw (starts_end (p ++ []) (length p))
fields_read (f ∷ fs) p r =
    let a = and_parts (field_right f) (all_right fs) r in
    let small = right_small f a.0 in
    let s = p ++ (field_bytes f ++ fields_bytes fs) in
    let i : suc (length fs) - 1 ≡ length fs = omega arith in
    let m = rw i at (starts_more s (length p) (suc (length fs)) (omega arith) (lies_read p (fields_bytes fs) f small)) in
    let again : p ++ (field_bytes f ++ fields_bytes fs) ≡ (p ++ field_bytes f) ++ fields_bytes fs = sym (append_assoc p (field_bytes f) (fields_bytes fs)) in
    let ih = fields_read fs (p ++ field_bytes f) a.1 in
    rw (m, next_read p (fields_bytes fs) f small)
    (ap₂ (λ (g : Field) (gs : List Field). g ∷ gs) (field_read p (fields_bytes fs) f small)
    (ap (λ (t : List ℕ). fields_from (length fs) t (length (p ++ field_bytes f))) again ∙ ih))

pub fields_pass : (fs : List Field) (p last : List ℕ) → all_right fs ≡ true → before_first last fs ≡ true → rising fs ≡ true
    → check_from (length fs) last (p ++ fields_bytes fs) (length p) ≡ Ok tt
unfolding check_from
fields_pass [] p last r b u =
    let e : length p ≡ length (p ++ []) = ap length (sym (append-nil p)) in
    rw (eq-eqb (length p) (length (p ++ [])) e)
fields_pass (f ∷ fs) p last r b u =
    let a = and_parts (field_right f) (all_right fs) r in
    let v = and_parts (before_first f.name fs) (rising fs) u in
    let small = right_small f a.0 in
    let s = p ++ (field_bytes f ++ fields_bytes fs) in
    let field : field_at s (length p) ≡ f = field_read p (fields_bytes fs) f small in
    let right : right_at s (length p) ≡ true = ap₂ (λ (x : Bool) (g : Field). x && field_right g) (lies_read p (fields_bytes fs) f small) field ∙ a.0 in
    let stands : stands_at last s (length p) ≡ true = ap₂ (λ (x : Bool) (g : Field). x && before_of last g.name) right field ∙ b in
    let again : s ≡ (p ++ field_bytes f) ++ fields_bytes fs = sym (append_assoc p (field_bytes f) (fields_bytes fs)) in
    let ih = fields_pass fs (p ++ field_bytes f) f.name a.1 v.0 v.1 in
    sym (more_suc s (length p) last (length fs) stands)
    ∙ (ap₂ (λ (g : Field) (n : ℕ). check_from (length fs) g.name s n) field (next_read p (fields_bytes fs) f small)
    ∙ (ap (λ (t : List ℕ). check_from (length fs) f.name t (length (p ++ field_bytes f))) again ∙ ih))

-- the header before some bytes
module _ (size count : ℕ) (body : List ℕ) where
  pub length_header : length (header_bytes size count) ≡ 8
  length_header = simp (length-append, length_word_bytes)

  pub length_whole : length (header_bytes size count ++ body) ≡ 8 + length body
  length_whole = length-append (header_bytes size count) body ∙ ap (λ (n : ℕ). n + length body) length_header

  pub length_read : 4 + size < 256 ^ 4 → word_at 4 (header_bytes size count ++ body) 0 ≡ 4 + size
  length_read h =
      let e : header_bytes size count ++ body ≡ word_bytes 4 (4 + size) ++ (word_bytes 2 1 ++ (word_bytes 2 count ++ body)) = simp append_assoc in
      ap (λ (s : List ℕ). word_at 4 s 0) e ∙ bytes_read 4 (4 + size) [] (word_bytes 2 1 ++ (word_bytes 2 count ++ body)) h

  pub kind_read : word_at 2 (header_bytes size count ++ body) 4 ≡ 1
  kind_read =
      let e : header_bytes size count ++ body ≡ word_bytes 4 (4 + size) ++ (word_bytes 2 1 ++ (word_bytes 2 count ++ body)) = simp append_assoc in
      let n : 4 ≡ length (word_bytes 4 (4 + size)) = sym (length_word_bytes 4 (4 + size)) in
      let b : 1 < 256 ^ 2 = omega arith in
      ap₂ (λ (s : List ℕ) (i : ℕ). word_at 2 s i) e n ∙ bytes_read 2 1 (word_bytes 4 (4 + size)) (word_bytes 2 count ++ body) b

  pub count_read : count < 256 ^ 2 → count_of (header_bytes size count ++ body) ≡ count
  count_read h =
      let e : header_bytes size count ++ body ≡ (word_bytes 4 (4 + size) ++ word_bytes 2 1) ++ (word_bytes 2 count ++ body) = simp append_assoc in
      let n : 6 ≡ length (word_bytes 4 (4 + size) ++ word_bytes 2 1) = sym (length-append (word_bytes 4 (4 + size)) (word_bytes 2 1) ∙ ap₂ (λ (a b : ℕ). a + b) (length_word_bytes 4 (4 + size)) (length_word_bytes 2 1)) in
      ap₂ (λ (s : List ℕ) (i : ℕ). word_at 2 s i) e n ∙ bytes_read 2 count (word_bytes 4 (4 + size) ++ word_bytes 2 1) body h

pub length_render : (fs : List Field) → length (render fs) ≡ 8 + length (fields_bytes fs)
length_render fs = length_whole (length (fields_bytes fs)) (length fs) (fields_bytes fs)

-- every name is after the empty one
pub after_none : (fs : List Field) → all_right fs ≡ true → before_first [] fs ≡ true
after_none [] r = refl
after_none (f ∷ fs) r = go f.name (right_small f (and_parts (field_right f) (all_right fs) r).0).some_name
  where
    go : (name : List ℕ) → 1 ≤ length name → before_of [] name ≡ true
    go [] h = absurd (omega arith)
    go (b ∷ bs) h = refl

-- what `render` gives of a notice's fields is well-formed, and holds them
module _ (fs : List Field) (ok : NoticeFields fs) where
  abbrev size : ℕ
  size = length (fields_bytes fs)

  rendered_length : length_right (render fs) ≡ true
  rendered_length =
      let l = length_render fs in
      let a : 8 ≤ length (render fs) = omega arith in
      ap₂ (λ (x y : Bool). x && y) (le-leb 8 (length (render fs)) a) (le-leb (length (render fs)) 16384 ok.short)

  pub rendered_count : count_of (render fs) ≡ length fs
  rendered_count =
      let b : length fs < 256 ^ 2 = omega (arith, ok.few) in
      count_read size (length fs) (fields_bytes fs) b

  rendered_header : header_right (render fs) ≡ true
  rendered_header =
      let l = length_render fs in
      let b : 4 + size < 256 ^ 4 = omega (arith, ok.short) in
      let n : 4 + word_at 4 (render fs) 0 ≡ length (render fs) = omega (arith, length_read size (length fs) (fields_bytes fs) b) in
      let c : count_of (render fs) ≤ 64 = omega (arith, rendered_count, ok.few) in
      let k = kind_read size (length fs) (fields_bytes fs) in
      ap₂ (λ (x y : Bool). x && y) rendered_length
      (ap₂ (λ (x y : Bool). x && y) (eq-eqb (4 + word_at 4 (render fs) 0) (length (render fs)) n)
      (ap₂ (λ (x y : Bool). x && y) (eq-eqb (word_at 2 (render fs) 4) 1 k) (le-leb (count_of (render fs)) 64 c)))

  pub render_passes : check_of (render fs) ≡ Ok tt
  render_passes =
      let p = fields_pass fs (header_bytes size (length fs)) [] ok.right (after_none fs ok.right) ok.rises in
      let q = rw (length_header size (length fs) (fields_bytes fs)) at p in
      rw (rendered_header, rendered_count) q

  pub render_fields : fields_of (render fs) ≡ fs
  render_fields =
      let p = fields_read fs (header_bytes size (length fs)) ok.right in
      let q = rw (length_header size (length fs) (fields_bytes fs)) at p in
      rw (rendered_length, rendered_count) q

-- a well-formed notice is what `render` gives of its fields
module _ (s : List ℕ) (bytes : Bytes s) (well : check_of s ≡ Ok tt) where
  pub header_well : (header_right s ≡ true) × (check_from (count_of s) [] s 8 ≡ Ok tt)
  header_well = go (header_right s) refl well
    where
      go : (b : Bool) → header_right s ≡ b → pick b (λ _. check_from (count_of s) [] s 8) (λ _. Err (Notice 0)) ≡ Ok tt → (header_right s ≡ true) × (check_from (count_of s) [] s 8 ≡ Ok tt)
      go true p e = (p, e)
      go false p e = fault_well e

  pub well_header : Header s
  well_header = header_numbers s header_well.0

  pub well_starts : starts_of s ≡ starts_from (count_of s) s 8
  well_starts =
      let h = well_header in
      rw (le-leb 8 (length s) h.long, le-leb (length s) 16384 h.short)

  pub well_checked : Checked (count_of s) [] s 8
  well_checked = check_sound (count_of s) [] s 8 bytes header_well.1

  pub well_count : length (fields_of s) ≡ count_of s
  well_count = ap (λ (t : List ℕ). length (map (field_at s) t)) well_starts ∙ well_checked.count

  header_bytes_lem : s ≡ header_bytes (length (drop 8 s)) (count_of s) ++ drop 8 s
  header_bytes_lem =
      let h = well_header in
      let long = h.long in
      let z : word_at 4 s 0 ≡ 4 + length (drop 8 s) = omega (arith, h.size, length-drop 8 s) in
      let e1 : s ≡ word_bytes 4 (4 + length (drop 8 s)) ++ drop 4 s = split_drop 4 0 s ∙ ap (λ (t : List ℕ). t ++ drop 4 s) (sym (read_bytes_lem 4 0 s bytes (omega arith)) ∙ ap (word_bytes 4) z) in
      let e2 : drop 4 s ≡ word_bytes 2 1 ++ drop 6 s = split_drop 2 4 s ∙ ap (λ (t : List ℕ). t ++ drop 6 s) (sym (read_bytes_lem 2 4 s bytes (omega arith)) ∙ ap (word_bytes 2) h.kind) in
      let e3 : drop 6 s ≡ word_bytes 2 (count_of s) ++ drop 8 s = split_drop 2 6 s ∙ ap (λ (t : List ℕ). t ++ drop 8 s) (sym (read_bytes_lem 2 6 s bytes (omega arith))) in
      e1 ∙ (ap (λ (t : List ℕ). word_bytes 4 (4 + length (drop 8 s)) ++ t) (e2 ∙ ap (λ (t : List ℕ). word_bytes 2 1 ++ t) e3) ∙ simp append_assoc)

  pub well_render : s ≡ render (fields_of s)
  well_render =
      let r : drop 8 s ≡ fields_bytes (fields_of s) = well_checked.rest ∙ ap (λ (t : List ℕ). fields_bytes (map (field_at s) t)) (sym well_starts) in
      header_bytes_lem ∙ ap₂ (λ (t : List ℕ) (n : ℕ). header_bytes (length t) n ++ t) r (sym well_count)

  pub well_fields : NoticeFields (fields_of s)
  well_fields =
      let h = well_header in
      let c = well_checked in
      record {
        few = rw well_count h.few;
        right = rw well_starts c.right;
        rises = rw well_starts c.rises;
        short = rw (← well_render) h.short;
      }
