-- The fields kept so far by their places, in the order of their names: what comparing with one tells, what a new one is among them, and the places with it. Assumes nothing.
use mathlib.Core.Path.{◌≡◌, refl, sym, ap, ap₂, ◌∙◌}
use mathlib.Core.Bool.{Bool, true, false, cond, ◌&&◌, ◌||◌, or-false}
use mathlib.Core.List.{List, [], ◌∷◌, ◌++◌, map, append_assoc}
use Prim.Native.Nat.{ℕ, suc, ◌+◌, ◌-◌, ◌≤◌, ◌<◌}
use native.Mathlib.Omega.{arith}
use lib.Dec.{eqb, ltb}
use lib.ListN.{length, get_or, set, take, drop, length-drop, length-map, length-append}
use lib.Seq.{sets, sets-eq, set_at, take_at, drop_at, take-suc, take-take, take-add, length-take-le, get_or-take}
use borrow.Author.Tests.{lt-ltb, le-ltb, ltb-true, ltb-false, ne_eqb}
use Rattle.common.proofs.Choice.{true_false}
use Rattle.common.proofs.Each.{each_at}
use Rattle.octets.specs.Octets.{same_of, before_of}
use Rattle.notice.specs.Field.{Field, rising}
use Rattle.notice.specs.Read.{blank}
use Rattle.notice.specs.Layout.{name_at, field_at, right_at}
use Rattle.notice.specs.Write.{has_name, insert_field, place_among}
use Rattle.notice.proofs.Orders.{insert_rising, before_not_same, before_not_after, after_by_other}
use Rattle.notice.proofs.Searches.{name_head}
use Rattle.notice.proofs.Sorted.{map_at, map_around, each_around, nth_name, place_near, insert_place, place_before, place_after, has_none, has_before}
use Rattle.mend.specs.Mend.{has_greater, code_among}
use Rattle.mend.specs.Order.{fields_in, InOrder}

-- two names by their first bytes
first_is : (s : List ℕ) (at : ℕ) → right_at s at ≡ true → name_at s at ≡ get_or s (at + 5) 0 ∷ drop 1 (name_at s at)
first_is s at r = name_head s at r (0 ∷ []) 0 refl

pub by_first : (s : List ℕ) (at k : ℕ) → right_at s at ≡ true → right_at s k ≡ true → (get_or s (at + 5) 0 ≡ get_or s (k + 5) 0 → ⊥)
    → ltb (get_or s (at + 5) 0) (get_or s (k + 5) 0) ≡ before_of (name_at s at) (name_at s k)
by_first s at k p q f =
    let a = get_or s (at + 5) 0 in
    let b = get_or s (k + 5) 0 in
    let rest = before_of (drop 1 (name_at s at)) (drop 1 (name_at s k)) in
    let e : (ltb a b || (eqb a b && rest)) ≡ ltb a b = ap (λ (x : Bool). ltb a b || (x && rest)) (ne_eqb a b f) ∙ or-false (ltb a b) in
    sym (ap₂ before_of (first_is s at p) (first_is s k q) ∙ e)

ltb_suc : (a b : ℕ) → ltb (suc a) (suc b) ≡ ltb a b
ltb_suc a b = go (ltb a b) refl
  where
    go : (t : Bool) → ltb a b ≡ t → ltb (suc a) (suc b) ≡ t
    go true e = let h = ltb-true a b e in lt-ltb (suc a) (suc b) (omega arith)
    go false e = let h = ltb-false a b e in le-ltb (suc a) (suc b) (omega arith)

-- a greater name is there if the name's place is not the last
pub greater_place : (name : List ℕ) (gs : List Field) → has_greater name gs ≡ ltb (place_among name gs) (length gs)
unfolding place_among
greater_place name [] = refl
greater_place name (g ∷ gs) = go (before_of name g.name) (greater_place name gs)
  where
    go : (b : Bool) → has_greater name gs ≡ ltb (place_among name gs) (length gs) → (b || has_greater name gs) ≡ ltb (cond b 0 (suc (place_among name gs))) (suc (length gs))
    go true e = sym (lt-ltb 0 (suc (length gs)) (omega arith))
    go false e = e ∙ sym (ltb_suc (place_among name gs) (length gs))

module _ (s order : List ℕ) (n : ℕ) (o : InOrder s order n) where
  abbrev fs : List Field
  fs = fields_in s order n

  pub order_length : length fs ≡ n
  order_length = length-map (take n order) (field_at s) ∙ length-take-le n order (omega (arith, o.long, o.few))

  pub right_at_lem : (i : ℕ) → i < n → right_at s (get_or order i 0) ≡ true
  right_at_lem i h =
      let r = each_at (λ (k : ℕ). right_at s k ≡ true) (take n order) 0 o.right i (omega (arith, length-take-le n order (omega (arith, o.long, o.few)))) in
      ap (right_at s) (sym (get_or-take n order i 0 h)) ∙ r

  named : (i : ℕ) → i < n → nth_name fs i ≡ name_at s (get_or order i 0)
  named i h =
      ap (λ (g : Field). g.name) (map_at (field_at s) (take n order) i 0 blank (omega (arith, length-take-le n order (omega (arith, o.long, o.few)))) ∙ ap (field_at s) (get_or-take n order i 0 h))

  pub place_within : (name : List ℕ) → place_among name fs ≤ n
  place_within name = omega (arith, place_near name fs, order_length)

  -- what comparing a name with that of place i tells
  module _ (name : List ℕ) (i : ℕ) (h : i < n) where
    pub not_after : before_of name (name_at s (get_or order i 0)) ≡ true → place_among name fs ≤ i
    not_after e = place_before name fs i (omega (arith, order_length)) (ap (before_of name) (named i h) ∙ e)

    pub after : before_of name (name_at s (get_or order i 0)) ≡ false → i < place_among name fs
    after e = place_after name fs i o.rise (omega (arith, order_length)) (ap (before_of name) (named i h) ∙ e)

  -- a name at its place: repeated, moved or kept
  module _ (name : List ℕ) (place : ℕ) (p : place ≡ place_among name fs) where
    pub first_new : place ≤ 0 → has_name name fs ≡ false
    first_new h = has_none name fs o.rise (omega arith)

    pub by_before : 0 < place → same_of (name_at s (get_or order (place - 1) 0)) name ≡ has_name name fs
    by_before h =
        let w = place_within name in
        ap (λ (x : List ℕ). same_of x name) (sym (named (place - 1) (omega arith))) ∙ sym (has_before name fs (place - 1) o.rise (omega arith))

    pub is_repeated : has_name name fs ≡ true → 2 ≡ code_among fs name
    is_repeated e = rw e

    greater_is : (b : Bool) → ltb place n ≡ b → has_greater name fs ≡ b
    greater_is b e = greater_place name fs ∙ (ap₂ ltb (sym p) order_length ∙ e)

    pub is_moved : has_name name fs ≡ false → place < n → 1 ≡ code_among fs name
    is_moved e h = ap₂ (λ (a b : Bool). cond a 2 (cond b 1 0)) (sym e) (sym (greater_is true (lt-ltb place n h)))

    pub is_kept : has_name name fs ≡ false → n ≤ place → 0 ≡ code_among fs name
    is_kept e h = ap₂ (λ (a b : Bool). cond a 2 (cond b 1 0)) (sym e) (sym (greater_is false (le-ltb place n h)))

  -- what comparing with the last name tells: kept where it stands, or not
  module _ (name : List ℕ) where
    abbrev code : ℕ
    code = code_among fs name

    is_zero : 0 ≡ code → true ≡ eqb code 0
    is_zero e = ap (λ (x : ℕ). eqb x 0) e

    abbrev last : List ℕ
    last = name_at s (get_or order (n - 1) 0)

    pub by_last : 0 < n → before_of last name ≡ eqb code 0
    by_last h = go (before_of last name) (before_of name last) refl refl
      where
        at_end : before_of name last ≡ false → n ≡ place_among name fs
        at_end e = let a = after name (n - 1) (omega arith) e in let w = place_within name in omega arith

        not_zero : (k : ℕ) → 0 < k → k ≡ code → false ≡ eqb code 0
        not_zero k h e = sym (ne_eqb code 0 (λ z. omega arith))

        moved : (d : Bool) → has_name name fs ≡ d → place_among name fs < n → false ≡ eqb code 0
        moved true q p = not_zero 2 (omega arith) (is_repeated name (place_among name fs) refl q)
        moved false q p = not_zero 1 (omega arith) (is_moved name (place_among name fs) refl q p)

        alike : (d : Bool) → same_of last name ≡ d → before_of last name ≡ false → before_of name last ≡ false → false ≡ eqb code 0
        alike true q e f = let p = at_end f in not_zero 2 (omega arith) (is_repeated name n p (sym (by_before name n p h) ∙ q))
        alike false q e f = true_false (sym (after_by_other last name q e) ∙ f)

        go : (a b : Bool) → before_of last name ≡ a → before_of name last ≡ b → a ≡ eqb code 0
        go true b e f =
            let p = at_end (before_not_after last name e) in
            is_zero (is_kept name n p (sym (by_before name n p h) ∙ before_not_same last name e) (omega arith))
        go false true e f = moved (has_name name fs) refl (let m = not_after name (n - 1) (omega arith) f in omega arith)
        go false false e f = alike (same_of last name) refl e f

    pub kept_place : 0 ≡ code → n ≡ place_among name fs
    kept_place = go (has_name name fs) (has_greater name fs) refl
      where
        go : (a b : Bool) → has_greater name fs ≡ b → ◌≡◌ {A = ℕ} 0 (cond a 2 (cond b 1 0)) → n ≡ place_among name fs
        go true b p q = absurd (omega arith)
        go false true p q = absurd (omega arith)
        go false false p q =
            let t : ltb (place_among name fs) (length fs) ≡ false = sym (greater_place name fs) ∙ p in
            omega (arith, ltb-false (place_among name fs) (length fs) t, order_length, place_within name)

-- ---- one more

-- the places after those from `place` to n have moved up and the new one is stored
pub places_more : (order : List ℕ) (n place at : ℕ) → place ≤ n → n < length order
    → take (n + 1) (set (sets order (place + 1) (take (n - place) (drop place order))) place at) ≡ take place (take n order) ++ (at ∷ drop place (take n order))
places_more order n place at p q =
    let x = take place order in
    let y = take (n - place) (drop place order) in
    let d = drop (place + 1 + length y) order in
    let v = get_or order place 0 in
    let ld = length-drop place order in
    let lx : length x ≡ place = length-take-le place order (omega arith) in
    let ly : length y ≡ n - place = length-take-le (n - place) (drop place order) (omega arith) in
    let k : place + 1 ≡ suc place = omega arith in
    let a : take (place + 1) order ≡ x ++ (v ∷ []) = ap (λ (j : ℕ). take j order) k ∙ take-suc order place 0 (omega arith) in
    let b : sets order (place + 1) y ≡ x ++ (v ∷ (y ++ d)) =
    sets-eq y order (place + 1) (omega arith) ∙ (ap (λ (t : List ℕ). t ++ y ++ d) a ∙ (append_assoc (x ++ (v ∷ [])) y d ∙ append_assoc x (v ∷ []) (y ++ d))) in
    let e : set (sets order (place + 1) y) place at ≡ (x ++ (at ∷ y)) ++ d =
    ap (λ (t : List ℕ). set t place at) b ∙ (set_at x v (y ++ d) at place lx ∙ sym (append_assoc x (at ∷ y) d)) in
    let l : length (x ++ (at ∷ y)) ≡ n + 1 = length-append x (at ∷ y) ∙ omega arith in
    let m : place + (n - place) ≡ n = omega arith in
    let f : drop place (take n order) ≡ y = ap (λ (k : ℕ). drop place (take k order)) (sym m) ∙ (ap (drop place) (take-add place (n - place) order) ∙ drop_at x y place lx) in
    ap (take (n + 1)) e
    ∙ (take_at (x ++ (at ∷ y)) d (n + 1) l
    ∙ ap₂ (λ (s t : List ℕ). s ++ (at ∷ t)) (sym (take-take place n order p)) (sym f))

-- .. are those of the fields with the new one, which is right and has a new name
module _ (s order : List ℕ) (n at : ℕ) (o : InOrder s order n) (h : n < 65) (r : right_at s at ≡ true) (e : has_name (name_at s at) (fields_in s order n) ≡ false) (after : List ℕ) (l : length after ≡ 65)
    (t : take (n + 1) after ≡ take (place_among (name_at s at) (fields_in s order n)) (take n order) ++ (at ∷ drop (place_among (name_at s at) (fields_in s order n)) (take n order))) where
  pub inserted : fields_in s after (n + 1) ≡ insert_field (field_at s at) (fields_in s order n)
  inserted =
      ap (map (field_at s)) t
      ∙ (map_around (field_at s) (place_among (name_at s at) (fields_in s order n)) (take n order) at ∙ sym (insert_place (field_at s at) (fields_in s order n)))

  pub still_order : InOrder s after (n + 1)
  still_order = record {
    long = l;
    few = omega arith;
    right = rw t (each_around (λ (k : ℕ). right_at s k ≡ true) (place_among (name_at s at) (fields_in s order n)) (take n order) at o.right r);
    rise = ap rising inserted ∙ insert_rising (field_at s at) (fields_in s order n) o.rise e;
  }
