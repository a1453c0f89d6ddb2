-- Writing into the notice of a list of fields, once and again and again. Assumes nothing.
use Rattle.std.specs.Prelude.{Ok}
use Rattle.std.proofs.Common.{◌≡◌, ℕ, ◌+◌, ◌<◌, ◌≤◌, true, false, not, ltb, List, [], ◌∷◌, ◌++◌, length, take, drop, sym, refl, ap, ◌∙◌, arith, length-append, length-drop, drop-drop, take_at, lt-ltb, le-leb}
use lib.Seq.{drop-append-add}
use borrow.Author.Tests.{not-true}
use Rattle.octets.proofs.Theorems.{and_parts}
use Rattle.notice.specs.Write.{WriteAnswer}
use Rattle.notice.specs.Field.{Field, name_right, size_right, field_right, all_right}
use Rattle.notice.specs.Render.{field_bytes, fields_bytes, render, NoticeFields}
use Rattle.notice.specs.Layout.{count_of, check_of, fields_of}
use Rattle.notice.specs.Write.{field_size, has_name, insert_field, refusal_in, written_of, written_bytes, Writes}
use Rattle.notice.proofs.Fields.{length_field}
use Rattle.notice.proofs.Renders.{render_passes, render_fields, rendered_count, length_render}
use Rattle.notice.proofs.Orders.{insert_rising, insert_length, insert_size, insert_right, insert_all, fresh, fresh_inserted}
use Rattle.notice.proofs.Writes.{added}

-- a new right field, with room: the fields with it are a notice's, too
pub record Fitting (fs : List Field) (f : Field) (room : ℕ) : Type 0 where
  pub ok : NoticeFields fs
  pub right : field_right f ≡ true
  pub new : has_name f.name fs ≡ false
  pub few : length fs < 64
  pub short : length (render fs) + field_size f ≤ 16384
  pub fits : length (render fs) + field_size f ≤ room

pub added_length : (fs : List Field) (f : Field) → length (render (insert_field f fs)) ≡ length (render fs) + field_size f
added_length fs f = omega (arith, insert_size f fs, length_render fs, length_render (insert_field f fs))

pub added_fields : (fs : List Field) (f : Field) (room : ℕ) → Fitting fs f room → NoticeFields (insert_field f fs)
added_fields fs f room t =
    let few = t.few in
    let short = t.short in
    record {
      few = omega (arith, insert_length f fs);
      right = insert_right f fs t.right t.ok.right;
      rises = insert_rising f fs t.ok.rises t.new;
      short = omega (arith, added_length fs f);
    }

-- one write
module _ (fs : List Field) (f : Field) (b : List ℕ) (t : Fitting fs f (length b)) (e : take (length (render fs)) b ≡ render fs) where
  abbrev len : ℕ
  len = length (render fs)

  within : len ≤ length b
  within = omega (arith, t.fits)

  well : check_of (take len b) ≡ Ok tt
  well = ap check_of e ∙ render_passes fs t.ok

  fitting : refusal_in (take len b) (length b) f ≡ 0
  fitting =
      let p = and_parts (name_right f.name) (size_right f.kind (length f.value)) t.right in
      let n : has_name f.name (fields_of (render fs)) ≡ false = ap (has_name f.name) (render_fields fs t.ok) ∙ t.new in
      let c : ltb (count_of (render fs)) 64 ≡ true = lt-ltb (count_of (render fs)) 64 (omega (arith, rendered_count fs t.ok, t.few)) in
      rw (e, p.0, p.1, n, c, le-leb (len + field_size f) 16384 t.short, le-leb (len + field_size f) (length b) t.fits)

  pub one_more : (record { number = 0; place = 0; len = len + field_size f } ≡ written_of b len f) × (render (insert_field f fs) ++ drop (len + field_size f) b ≡ written_bytes b len f)
  one_more =
      let a = added b len f within well fitting in
      let g : fields_of (take len b) ≡ fs = ap fields_of e ∙ render_fields fs t.ok in
      (a.0, ap (λ (l : List Field). render (insert_field f l) ++ drop (len + field_size f) b) (sym g) ∙ a.1)

-- the notice of some fields at the start of a buffer
abbrev pub over : List Field → List ℕ → List ℕ
over fs b = render fs ++ drop (length (render fs)) b

over_length : (fs : List Field) (b : List ℕ) → length (render fs) ≤ length b → length (over fs b) ≡ length b
over_length fs b h = omega (arith, length-append (render fs) (drop (length (render fs)) b), length-drop (length (render fs)) b)

over_again : (fs : List Field) (f : Field) (b : List ℕ) → render (insert_field f fs) ++ drop (length (render fs) + field_size f) (over fs b) ≡ over (insert_field f fs) b
over_again fs f b =
    let d : drop (length (render fs) + field_size f) (over fs b) ≡ drop (length (render (insert_field f fs))) b =
    drop-append-add (render fs) (drop (length (render fs)) b) (field_size f)
    ∙ (drop-drop (field_size f) (length (render fs)) b ∙ ap (λ (n : ℕ). drop n b) (sym (added_length fs f))) in
    ap (λ (l : List ℕ). render (insert_field f fs) ++ l) d

pub writes_all : (gs fs : List Field) (b : List ℕ) → NoticeFields fs → all_right gs ≡ true → fresh gs fs ≡ true
    → length fs + length gs ≤ 64 → length (render fs) + length (fields_bytes gs) ≤ 16384 → length (render fs) + length (fields_bytes gs) ≤ length b
    → Writes gs (over fs b) (length (render fs)) (over (insert_all gs fs) b) (length (render (insert_all gs fs)))
unfolding Writes
writes_all [] fs b ok r n few short fits = (refl, refl)
writes_all (g ∷ gs) fs b ok r n few short fits =
    let p = and_parts (field_right g) (all_right gs) r in
    let q = and_parts (not (has_name g.name fs)) (fresh gs (g ∷ fs)) n in
    let l : length (fields_bytes (g ∷ gs)) ≡ field_size g + length (fields_bytes gs) = length-append (field_bytes g) (fields_bytes gs) ∙ ap (λ (k : ℕ). k + length (fields_bytes gs)) (length_field g) in
    let o : length (over fs b) ≡ length b = over_length fs b (omega arith) in
    let t : Fitting fs g (length (over fs b)) =
    record { ok = ok; right = p.0; new = not-true _ q.0; few = omega arith; short = omega arith; fits = omega arith } in
    let w = one_more fs g (over fs b) t (take_at (render fs) (drop (length (render fs)) b) (length (render fs)) refl) in
    let a = added_length fs g in
    let ih = writes_all gs (insert_field g fs) b (added_fields fs g (length (over fs b)) t) p.1 (fresh_inserted g gs fs q.1) (omega (arith, insert_length g fs)) (omega arith) (omega arith) in (
      ap (λ (x : WriteAnswer). x.number) (sym w.0),
      next (written_bytes (over fs b) (length (render fs)) g) (written_of (over fs b) (length (render fs)) g).len
          (sym w.1 ∙ over_again fs g b) (ap (λ (x : WriteAnswer). x.len) (sym w.0) ∙ sym a) ih,
    )
  where
    next : (d : List ℕ) (m : ℕ) → d ≡ over (insert_field g fs) b → m ≡ length (render (insert_field g fs))
        → Writes gs (over (insert_field g fs) b) (length (render (insert_field g fs))) (over (insert_all gs (insert_field g fs)) b) (length (render (insert_all gs (insert_field g fs))))
        → Writes gs d m (over (insert_all gs (insert_field g fs)) b) (length (render (insert_all gs (insert_field g fs))))
    next d m e k h = rw (e, k) h
