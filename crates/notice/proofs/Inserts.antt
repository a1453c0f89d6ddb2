-- A field at its name's place: in the list of fields, and in the bytes. Assumes nothing.
use Rattle.std.specs.Prelude.{Some, is_some}
use Rattle.std.proofs.Common.{◌≡◌, ℕ, suc, ◌+◌, ◌-◌, ◌<◌, ◌≤◌, Bool, true, false, not, ◌&&◌, ◌||◌, ltb, leb, List, [], ◌∷◌, ◌++◌, map, length, take, drop, sym, refl, ap, ◌∙◌, ap₂, append_assoc, append-nil, arith, length-append, length-drop, take-append-drop, length-take-le, drop-drop, take_at, drop_at, ltb-true, leb-true}
use lib.Seq.{sets}
use borrow.Author.Tests.{not-true}
use Rattle.common.specs.Choice.{pick}
use Rattle.common.proofs.Stores.{sets_between}
use Rattle.word.specs.Word.{word_bytes, Bytes}
use Rattle.word.proofs.Laws.{length_word_bytes}
use Rattle.octets.specs.Octets.{same_of, before_of}
use Rattle.octets.proofs.Theorems.{and_parts}
use Rattle.notice.specs.Field.{Field, name_right, size_right, field_right, all_right}
use Rattle.notice.specs.Render.{field_bytes, fields_bytes, header_bytes, render}
use Rattle.notice.specs.Layout.{unless, name_at, field_at, count_of, starts_from, starts_of, fields_of}
use Rattle.notice.specs.Lookup.{found_at, lookup_in, lookup_of}
use Rattle.notice.specs.Write.{field_size, has_name, insert_field, place_in, place_for, has_room, refusal_in, Insertable, inserted_bytes}
use Rattle.notice.proofs.Keys.{bytes_take}
use Rattle.notice.proofs.Walks.{starts_end, starts_more}
use Rattle.notice.proofs.Fields.{Small, right_small, length_field, field_read, next_read, lies_read}
use Rattle.notice.proofs.Renders.{length_header, length_render, well_header, well_starts, well_count, well_render, well_fields}

-- lookup finds a name exactly if a field has it
found_named : (s name ats : List ℕ) → has_name name (map (field_at s) ats) ≡ is_some (lookup_in s name ats)
found_named s name [] = refl
found_named s name (at ∷ ats) = go (same_of (name_at s at) name) (found_named s name ats)
  where
    go : (b : Bool) → has_name name (map (field_at s) ats) ≡ is_some (lookup_in s name ats)
        → (b || has_name name (map (field_at s) ats)) ≡ is_some (pick b (λ _. Some (found_at s at)) (λ _. lookup_in s name ats))
    go true e = refl
    go false e = e

-- the refusals in their order
passes : (b : Bool) (n next : ℕ) → unless b (suc n) next ≡ 0 → (b ≡ true) × (next ≡ 0)
passes true n next e = (refl, e)
passes false n next e = absurd (omega arith)

module _ (s : List ℕ) (room : ℕ) (f : Field) where
  module _ (p : name_right f.name ≡ true) where
    module _ (q : size_right f.kind (length f.value) ≡ true) where
      pub small_parts : Small f
      small_parts = right_small f (ap₂ (λ (a b : Bool). a && b) p q)

      pub present : is_some (lookup_of s f.name) ≡ true → 14 ≡ refusal_in s room f
      present e =
          let h : has_name f.name (fields_of s) ≡ true = found_named s f.name (starts_of s) ∙ e in
          rw (p, q, h)

      module _ (e : is_some (lookup_of s f.name) ≡ false) where
        absent : has_name f.name (fields_of s) ≡ false
        absent = found_named s f.name (starts_of s) ∙ e

        pub no_room : has_room (count_of s) (length s + field_size f) room ≡ false → 15 ≡ refusal_in s room f
        no_room h = rw (p, q, absent, h)

        pub no_refusal : has_room (count_of s) (length s + field_size f) room ≡ true → 0 ≡ refusal_in s room f
        no_refusal h = rw (p, q, absent, h)

  -- what holds of a field that is not refused
  pub record Accepted : Type 0 where
    pub right : field_right f ≡ true
    pub new : has_name f.name (fields_of s) ≡ false
    pub few : count_of s < 64
    pub short : length s + field_size f ≤ 16384
    pub fits : length s + field_size f ≤ room

  pub accepted : refusal_in s room f ≡ 0 → Accepted
  accepted e =
      let a = passes (name_right f.name) 12 _ e in
      let b = passes (size_right f.kind (length f.value)) 15 _ a.1 in
      let c = passes (not (has_name f.name (fields_of s))) 13 _ b.1 in
      let d = passes (has_room (count_of s) (length s + field_size f) room) 14 0 c.1 in
      let p = and_parts (ltb (count_of s) 64) _ d.0 in
      let q = and_parts (leb (length s + field_size f) 16384) (leb (length s + field_size f) room) p.1 in
      record {
        right = ap₂ (λ (x y : Bool). x && y) a.0 b.0;
        new = not-true _ c.0;
        few = ltb-true (count_of s) 64 p.0;
        short = leb-true (length s + field_size f) 16384 q.0;
        fits = leb-true (length s + field_size f) room q.1;
      }

pub fields_append : (fs gs : List Field) → fields_bytes (fs ++ gs) ≡ fields_bytes fs ++ fields_bytes gs
fields_append [] gs = refl
fields_append (f ∷ fs) gs = ap (λ (t : List ℕ). field_bytes f ++ t) (fields_append fs gs) ∙ sym (append_assoc (field_bytes f) (fields_bytes fs) (fields_bytes gs))

-- where a field goes: after `pre` and before `post`, which are all the fields
pub record Spot (f : Field) (fs : List Field) (base at : ℕ) : Type 0 where
  pub pre : List Field
  pub post : List Field
  pub old : fs ≡ pre ++ post
  pub new : insert_field f fs ≡ pre ++ (f ∷ post)
  pub place : at ≡ base + length (fields_bytes pre)

spot_first : (f : Field) (fs : List Field) (base at : ℕ) → at ≡ base → insert_field f fs ≡ f ∷ fs → Spot f fs base at
spot_first f fs base at e n = record { pre = []; post = fs; old = refl; new = n; place = omega arith }

spot_next : (f g : Field) (gs : List Field) (base at : ℕ) → before_of f.name g.name ≡ false → Spot f gs (base + length (field_bytes g)) at → Spot f (g ∷ gs) base at
spot_next f g gs base at e s =
    record {
      pre = g ∷ s.pre;
      post = s.post;
      old = ap (λ (l : List Field). g ∷ l) s.old;
      new = rw e (ap (λ (l : List Field). g ∷ l) s.new);
      place = omega (arith, s.place, length-append (field_bytes g) (fields_bytes s.pre));
    }

pub spot : (f : Field) (fs : List Field) (p : List ℕ) → all_right fs ≡ true
    → Spot f fs (length p) (place_in (p ++ fields_bytes fs) f.name (starts_from (length fs) (p ++ fields_bytes fs) (length p)))
spot f [] p r =
    let s = p ++ [] in
    let e : place_in s f.name (starts_from 0 s (length p)) ≡ length p = ap (place_in s f.name) (starts_end s (length p)) ∙ ap length (append-nil p) in
    spot_first f [] (length p) _ e refl
spot f (g ∷ gs) p r =
    let a = and_parts (field_right g) (all_right gs) r in
    let small = right_small g a.0 in
    let s = p ++ (field_bytes g ++ fields_bytes gs) in
    let i : suc (length gs) - 1 ≡ length gs = omega arith in
    let m = rw (i, next_read p (fields_bytes gs) g small) at (starts_more s (length p) (suc (length gs)) (omega arith) (lies_read p (fields_bytes gs) g small)) in
    let n : name_at s (length p) ≡ g.name = ap (λ (h : Field). h.name) (field_read p (fields_bytes gs) g small) in
    let again : (p ++ field_bytes g) ++ fields_bytes gs ≡ s = append_assoc p (field_bytes g) (fields_bytes gs) in
    let ih = rw again at (spot f gs (p ++ field_bytes g) a.1) in
    let l : length (p ++ field_bytes g) ≡ length p + length (field_bytes g) = length-append p (field_bytes g) in
    go s m n (before_of f.name g.name) refl (rw l at ih)
  where
    go : (s : List ℕ) → starts_from (suc (length gs)) s (length p) ≡ length p ∷ starts_from (length gs) s (length (p ++ field_bytes g)) → name_at s (length p) ≡ g.name
        → (b : Bool) → before_of f.name g.name ≡ b
        → Spot f gs (length p + length (field_bytes g)) (place_in s f.name (starts_from (length gs) s (length p + length (field_bytes g))))
        → Spot f (g ∷ gs) (length p) (place_in s f.name (starts_from (suc (length gs)) s (length p)))
    go s m n true e ih = spot_first f (g ∷ gs) (length p) _ (rw (m, n, e)) (rw e)
    go s m n false e ih =
        let l : length (p ++ field_bytes g) ≡ length p + length (field_bytes g) = length-append p (field_bytes g) in
        rw (m, n, e, l) (spot_next f g gs (length p) _ e ih)

-- the bytes: what lies from the field's place on moves up, the field is stored, and the header's two words are written anew
module _ (h q g t f : List ℕ) (room : length g ≡ length f) where
  pub made_room : (i : ℕ) → length h ≡ i → sets (h ++ (q ++ (g ++ t))) (i + length f) q ≡ h ++ (take (length f) (q ++ g) ++ (q ++ t))
  made_room i e =
      let y = take (length f) (q ++ g) in
      let z = drop (length f) (q ++ g) in
      let n = length-append q g in
      let ly : length y ≡ length f = length-take-le (length f) (q ++ g) (omega arith) in
      let lz : length z ≡ length q = omega (arith, length-drop (length f) (q ++ g)) in
      let lp : length (h ++ y) ≡ i + length f = omega (arith, length-append h y) in
      let w : h ++ (q ++ (g ++ t)) ≡ (h ++ y) ++ (z ++ t) =
      ap (λ (l : List ℕ). h ++ l) (sym (append_assoc q g t) ∙ ap (λ (l : List ℕ). l ++ t) (sym (take-append-drop (length f) (q ++ g)))) ∙ simp append_assoc in
      ap (λ (l : List ℕ). sets l (i + length f) q) w ∙ (sets_between (h ++ y) z q t (i + length f) lp lz ∙ append_assoc h y (q ++ t))

  pub field_in : (i : ℕ) → length h ≡ i → sets (h ++ (take (length f) (q ++ g) ++ (q ++ t))) i f ≡ h ++ (f ++ (q ++ t))
  field_in i e =
      let n = length-append q g in
      sets_between h (take (length f) (q ++ g)) f (q ++ t) i e (length-take-le (length f) (q ++ g) (omega arith))

-- the header's length and count
pub new_header : (a a' k c c' rest : List ℕ) → length a ≡ 4 → length a' ≡ 4 → length k ≡ 2 → length c ≡ 2 → length c' ≡ 2
    → sets (sets ((a ++ (k ++ c)) ++ rest) 0 a') 6 c' ≡ (a' ++ (k ++ c')) ++ rest
new_header a a' k c c' rest la la' lk lc lc' =
    let w : (a ++ (k ++ c)) ++ rest ≡ [] ++ (a ++ (k ++ (c ++ rest))) = simp append_assoc in
    let one : sets ((a ++ (k ++ c)) ++ rest) 0 a' ≡ a' ++ (k ++ (c ++ rest)) =
    ap (λ (l : List ℕ). sets l 0 a') w ∙ sets_between [] a a' (k ++ (c ++ rest)) 0 refl (omega arith) in
    let v : a' ++ (k ++ (c ++ rest)) ≡ (a' ++ k) ++ (c ++ rest) = simp append_assoc in
    let n : length (a' ++ k) ≡ 6 = omega (arith, length-append a' k) in
    ap (λ (l : List ℕ). sets l 6 c') (one ∙ v) ∙ (sets_between (a' ++ k) c c' rest 6 n (omega arith) ∙ simp append_assoc)

module _ (b : List ℕ) (bytes : Bytes b) (len : ℕ) (f : Field) (ins : Insertable b len f) where
  abbrev s : List ℕ
  s = take len b

  abbrev fs : List Field
  fs = fields_of s

  s_bytes : Bytes s
  s_bytes = bytes_take len b bytes

  pub long : length s ≡ len
  long = length-take-le len b ins.within

  pub taken : Accepted s (length b) f
  taken = accepted s (length b) f ins.accepted

  pub sizes : Small f
  sizes = right_small f taken.right

  head : (8 ≤ len) × (len ≤ 16384)
  head = let h = well_header s s_bytes ins.well in omega (arith, h.long, h.short, long)

  spotted : Spot f fs 8 (place_for s f.name)
  spotted =
      let ok = well_fields s s_bytes ins.well in
      let e : s ≡ header_bytes (length (fields_bytes fs)) (length fs) ++ fields_bytes fs = well_render s s_bytes ins.well in
      let h = length_header (length (fields_bytes fs)) (length fs) (fields_bytes fs) in
      let at : place_for s f.name ≡ place_in s f.name (starts_from (length fs) s 8) =
      ap (place_in s f.name) (well_starts s s_bytes ins.well ∙ ap (λ (n : ℕ). starts_from n s 8) (sym (well_count s s_bytes ins.well))) in
      rw at (rw (h, ← e) at (spot f fs (header_bytes (length (fields_bytes fs)) (length fs)) ok.right))

  pub placed : (8 ≤ place_for s f.name) × (place_for s f.name ≤ len)
  placed =
      let w = spotted in
      let l = length_render fs in
      let e : length s ≡ length (render fs) = ap length (well_render s s_bytes ins.well) in
      let n : length (fields_bytes fs) ≡ length (fields_bytes w.pre) + length (fields_bytes w.post) =
      ap (λ (l : List Field). length (fields_bytes l)) w.old ∙ (ap length (fields_append w.pre w.post) ∙ length-append (fields_bytes w.pre) (fields_bytes w.post)) in
      omega (arith, w.place, long)

  pub inserted : sets (sets (sets (sets b (place_for s f.name + field_size f) (take (len - place_for s f.name) (drop (place_for s f.name) b)))
      (place_for s f.name) (field_bytes f)) 0 (word_bytes 4 (len + field_size f - 4))) 6 (word_bytes 2 (count_of s + 1)) ≡ inserted_bytes b len f
  inserted =
      let w = spotted in
      let at = place_for s f.name in
      let count = length fs in
      let p = fields_bytes w.pre in
      let q = fields_bytes w.post in
      let g = take (field_size f) (drop len b) in
      let t = drop (len + field_size f) b in
      let a = word_bytes 4 (4 + length (fields_bytes fs)) in
      let k = word_bytes 2 1 in
      let c = word_bytes 2 count in
      let new : fields_bytes (insert_field f fs) ≡ p ++ (field_bytes f ++ q) = ap fields_bytes w.new ∙ fields_append w.pre (f ∷ w.post) in
      let body : fields_bytes fs ≡ p ++ q = ap fields_bytes w.old ∙ fields_append w.pre w.post in
      let lf = length_field f in
      let lb : length (fields_bytes fs) ≡ length p + length q = ap length body ∙ length-append p q in
      let ls : len ≡ 8 + length (fields_bytes fs) = sym long ∙ (ap length (well_render s s_bytes ins.well) ∙ length_render fs) in
      let fits = taken.fits in
      let lg : length g ≡ length (field_bytes f) = length-take-le (field_size f) (drop len b) (omega (arith, length-drop len b, long)) ∙ sym lf in
      let whole : b ≡ ((a ++ (k ++ c)) ++ p) ++ (q ++ (g ++ t)) =
      sym (take-append-drop len b)
      ∙ (ap₂ (λ (x y : List ℕ). x ++ y) (well_render s s_bytes ins.well ∙ ap (λ (x : List ℕ). (a ++ (k ++ c)) ++ x) body) (sym (take-append-drop (field_size f) (drop len b)) ∙ ap (λ (x : List ℕ). g ++ x) (drop-drop (field_size f) len b))
      ∙ simp append_assoc) in
      let h = (a ++ (k ++ c)) ++ p in
      let lh : length h ≡ at = omega (arith, w.place, length-append (a ++ (k ++ c)) p, length_header (length (fields_bytes fs)) count p) in
      let moved : take (len - at) (drop at b) ≡ q =
      ap (λ (x : List ℕ). take (len - at) (drop at x)) whole
      ∙ (ap (take (len - at)) (drop_at h (q ++ (g ++ t)) at lh) ∙ take_at q (g ++ t) (len - at) (omega (arith, w.place))) in
      let size : at + field_size f ≡ at + length (field_bytes f) = omega arith in
      let one : sets b (at + field_size f) (take (len - at) (drop at b)) ≡ h ++ (take (length (field_bytes f)) (q ++ g) ++ (q ++ t)) =
      ap₂ (λ (x y : List ℕ). sets x (at + field_size f) y) whole moved ∙ (ap (λ (n : ℕ). sets (h ++ (q ++ (g ++ t))) n q) size ∙ made_room h q g t (field_bytes f) lg at lh) in
      let two : sets (sets b (at + field_size f) (take (len - at) (drop at b))) at (field_bytes f) ≡ (a ++ (k ++ c)) ++ (p ++ (field_bytes f ++ (q ++ t))) =
      ap (λ (x : List ℕ). sets x at (field_bytes f)) one ∙ (field_in h q g t (field_bytes f) lg at lh ∙ append_assoc (a ++ (k ++ c)) p (field_bytes f ++ (q ++ t))) in
      let n4 : len + field_size f - 4 ≡ 4 + length (fields_bytes (insert_field f fs)) = omega (arith, ap length new, length-append p (field_bytes f ++ q), length-append (field_bytes f) q) in
      let n2 : count_of s + 1 ≡ length (insert_field f fs) =
      omega (arith, well_count s s_bytes ins.well, ap length w.new, length-append w.pre (f ∷ w.post), ap length w.old, length-append w.pre w.post) in
      let a' = word_bytes 4 (len + field_size f - 4) in
      let c' = word_bytes 2 (count_of s + 1) in
      let rest = p ++ (field_bytes f ++ (q ++ t)) in
      ap (λ (x : List ℕ). sets (sets x 0 a') 6 c') two
      ∙ (new_header a a' k c c' rest (length_word_bytes 4 _) (length_word_bytes 4 _) (length_word_bytes 2 1) (length_word_bytes 2 _) (length_word_bytes 2 _)
      ∙ (ap₂ (λ (x y : List ℕ). (x ++ (k ++ y)) ++ rest) (ap (word_bytes 4) n4) (ap (word_bytes 2) n2)
      ∙ (ap (λ (x : List ℕ). header_bytes (length (fields_bytes (insert_field f fs))) (length (insert_field f fs)) ++ x) (simp append_assoc refl ∙ ap (λ (x : List ℕ). x ++ t) (sym new))
      ∙ sym (append_assoc (header_bytes (length (fields_bytes (insert_field f fs))) (length (insert_field f fs))) (fields_bytes (insert_field f fs)) t))))

  -- the numbers of an insertion
  pub record Known : Type 0 where
    pub header : 8 ≤ len
    pub short : len + field_size f ≤ 16384
    pub fits : len + field_size f ≤ length b
    pub name_fits : length f.name ≤ 64
    pub value_fits : length f.value ≤ 1024
    pub few : count_of s < 64
    pub after_header : 8 ≤ place_for s f.name
    pub before_end : place_for s f.name ≤ len

  pub known : Known
  known =
      let a = taken in
      record {
        header = head.0;
        short = omega (arith, a.short, long);
        fits = omega (arith, a.fits, long);
        name_fits = sizes.name_fits;
        value_fits = sizes.value_fits;
        few = a.few;
        after_header = placed.0;
        before_end = placed.1;
      }
