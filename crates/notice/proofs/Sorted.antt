-- Fields in name order: the place of one more, whether its name is there, and what sorting keeps. Assumes nothing.
use Rattle.std.proofs.Common.{◌≡◌, ℕ, zero, suc, ◌<◌, ◌≤◌, Bool, true, false, cond, ◌||◌, List, [], ◌∷◌, ◌++◌, map, length, get_or, take, drop, sym, refl, ap, ◌∙◌, ap₂, arith}
use mathlib.Core.Bool.{or-false}
use mathlib.Core.List.Permᴰ
use mathlib.Core.List.{Permᴰ}
use Rattle.common.specs.Each.{Each}
use Rattle.common.proofs.Choice.{true_false}
use Rattle.octets.specs.Octets.{same_of, before_of}
use Rattle.octets.proofs.Theorems.{and_parts, same, before_irreflexive, before_transitive}
use Rattle.notice.specs.Field.{Field, before_first, rising}
use Rattle.notice.specs.Render.{fields_bytes}
use Rattle.notice.specs.Read.{blank}
use Rattle.notice.specs.Write.{has_name, insert_field, sorted, place_among}
use Rattle.notice.proofs.Renders.{length_fields}
use Rattle.notice.proofs.Orders.{insert_length, insert_size, insert_named}

-- fields of numbers, and one more number between them
pub map_at : {A : Type 0} (f : A → Field) (l : List A) (n : ℕ) (d : A) (e : Field) → n < length l → get_or (map f l) n e ≡ f (get_or l n d)
map_at f [] n d e h = absurd (omega arith)
map_at f (x ∷ l) zero d e h = refl
map_at f (x ∷ l) (suc n) d e h = map_at f l n d e (omega arith)

pub map_around : (f : ℕ → Field) (n : ℕ) (l : List ℕ) (v : ℕ) → map f (take n l ++ (v ∷ drop n l)) ≡ take n (map f l) ++ (f v ∷ drop n (map f l))
map_around f zero l v = refl
map_around f (suc n) [] v = refl
map_around f (suc n) (x ∷ l) v = ap (λ (t : List Field). f x ∷ t) (map_around f n l v)

pub each_around : (P : ℕ → Type 0) (n : ℕ) (l : List ℕ) (v : ℕ) → Each P l → P v → Each P (take n l ++ (v ∷ drop n l))
each_around P zero l v e p = (p, e)
each_around P (suc n) [] v e p = (p, tt)
each_around P (suc n) (x ∷ l) v e p = (e.0, each_around P n l v e.1 p)

-- the name of the j-th field
abbrev pub nth_name : List Field → ℕ → List ℕ
nth_name gs j = (get_or gs j blank).name

-- the place of a name
pub place_near : (name : List ℕ) (gs : List Field) → place_among name gs ≤ length gs
unfolding place_among
place_near name [] = omega arith
place_near name (g ∷ gs) = go (before_of name g.name) (place_near name gs)
  where
    go : (b : Bool) → place_among name gs ≤ length gs → cond b 0 (suc (place_among name gs)) ≤ suc (length gs)
    go true h = omega arith
    go false h = omega arith

-- .. is where the field is inserted
pub insert_place : (f : Field) (gs : List Field) → insert_field f gs ≡ take (place_among f.name gs) gs ++ (f ∷ drop (place_among f.name gs) gs)
unfolding place_among
insert_place f [] = refl
insert_place f (g ∷ gs) = go (before_of f.name g.name) (insert_place f gs)
  where
    go : (b : Bool) → insert_field f gs ≡ take (place_among f.name gs) gs ++ (f ∷ drop (place_among f.name gs) gs)
        → cond b (f ∷ (g ∷ gs)) (g ∷ insert_field f gs) ≡ take (cond b 0 (suc (place_among f.name gs))) (g ∷ gs) ++ (f ∷ drop (cond b 0 (suc (place_among f.name gs))) (g ∷ gs))
    go true e = refl
    go false e = ap (λ (l : List Field). g ∷ l) e

-- .. is not after a name that it is before, nor, where names rise, before or at one that it is not before
pub place_before : (name : List ℕ) (gs : List Field) (j : ℕ) → j < length gs → before_of name (nth_name gs j) ≡ true → place_among name gs ≤ j
unfolding place_among
place_before name [] j h e = absurd (omega arith)
place_before name (g ∷ gs) zero h e = rw e (omega arith)
place_before name (g ∷ gs) (suc j) h e = go (before_of name g.name) (place_before name gs j (omega arith) e)
  where
    go : (b : Bool) → place_among name gs ≤ j → cond b 0 (suc (place_among name gs)) ≤ suc j
    go true i = omega arith
    go false i = omega arith

-- the first of some fields whose names rise is before all others
pub rising_first : (g : Field) (gs : List Field) (j : ℕ) → rising (g ∷ gs) ≡ true → j < length gs → before_of g.name (nth_name gs j) ≡ true
rising_first g [] j r h = absurd (omega arith)
rising_first g (k ∷ gs) zero r h = (and_parts (before_of g.name k.name) (rising (k ∷ gs)) r).0
rising_first g (k ∷ gs) (suc j) r h =
    let p = and_parts (before_of g.name k.name) (rising (k ∷ gs)) r in
    before_transitive g.name k.name (nth_name gs j) p.0 (rising_first k gs j p.1 (omega arith))

pub place_after : (name : List ℕ) (gs : List Field) (j : ℕ) → rising gs ≡ true → j < length gs → before_of name (nth_name gs j) ≡ false → j < place_among name gs
unfolding place_among
place_after name [] j r h e = absurd (omega arith)
place_after name (g ∷ gs) zero r h e = rw e (omega arith)
place_after name (g ∷ gs) (suc j) r h e = go (before_of name g.name) refl (place_after name gs j (and_parts (before_first g.name gs) (rising gs) r).1 (omega arith) e)
  where
    go : (b : Bool) → before_of name g.name ≡ b → j < place_among name gs → suc j < cond b 0 (suc (place_among name gs))
    go true p i = true_false (sym (before_transitive name g.name (nth_name gs j) p (rising_first g gs j r (omega arith))) ∙ e)
    go false p i = omega arith

-- a name that is before the first is none of them
pub before_none : (name : List ℕ) (gs : List Field) → rising gs ≡ true → before_first name gs ≡ true → has_name name gs ≡ false
before_none name [] r e = refl
before_none name (g ∷ gs) r e =
    let p = and_parts (before_first g.name gs) (rising gs) r in
    ap₂ (λ (a b : Bool). a || b) (not_first (same_of g.name name) refl) (before_none name gs p.1 (next gs p.0))
  where
    not_first : (b : Bool) → same_of g.name name ≡ b → b ≡ false
    not_first true q = true_false (sym e ∙ (ap (λ (u : List ℕ). before_of name u) ((same g.name name).0 q) ∙ before_irreflexive name))
    not_first false q = refl

    next : (hs : List Field) → before_first g.name hs ≡ true → before_first name hs ≡ true
    next [] q = refl
    next (h ∷ hs) q = before_transitive name g.name h.name e q

pub has_none : (name : List ℕ) (gs : List Field) → rising gs ≡ true → place_among name gs ≡ 0 → has_name name gs ≡ false
unfolding place_among
has_none name gs r e = before_none name gs r (first gs e)
  where
    first : (hs : List Field) → place_among name hs ≡ 0 → before_first name hs ≡ true
    first [] z = refl
    first (h ∷ hs) z = go (before_of name h.name) z
      where
        go : (b : Bool) → cond b 0 (suc (place_among name hs)) ≡ 0 → b ≡ true
        go true y = refl
        go false y = absurd (omega arith)

-- the only name that may be the same is the last that it is not before
pub has_before : (name : List ℕ) (gs : List Field) (k : ℕ) → rising gs ≡ true → place_among name gs ≡ suc k → has_name name gs ≡ same_of (nth_name gs k) name
unfolding place_among
has_before name [] k r e = absurd (omega arith)
has_before name (g ∷ gs) k r e = go (before_of name g.name) k e (has_before name gs)
  where
    rest : rising gs ≡ true
    rest = (and_parts (before_first g.name gs) (rising gs) r).1

    other : (j : ℕ) (b : Bool) → same_of g.name name ≡ b → place_among name gs ≡ suc j → b ≡ false
    other j true q z =
        let n = place_near name gs in
        let a : before_of g.name (nth_name gs 0) ≡ true = rising_first g gs 0 r (omega arith) in
        let i : place_among name gs ≤ 0 = place_before name gs 0 (omega arith) (ap (λ (u : List ℕ). before_of u (nth_name gs 0)) (sym ((same g.name name).0 q)) ∙ a) in
        absurd (omega arith)
    other j false q z = refl

    go : (b : Bool) (k : ℕ) → cond b 0 (suc (place_among name gs)) ≡ suc k
        → ((j : ℕ) → rising gs ≡ true → place_among name gs ≡ suc j → has_name name gs ≡ same_of (nth_name gs j) name)
        → (same_of g.name name || has_name name gs) ≡ same_of (nth_name (g ∷ gs) k) name
    go true k z ih = absurd (omega arith)
    go false zero z ih = ap (λ (b : Bool). same_of g.name name || b) (has_none name gs rest (omega arith)) ∙ or-false (same_of g.name name)
    go false (suc j) z ih =
        let y : place_among name gs ≡ suc j = omega arith in
        ap (λ (b : Bool). b || has_name name gs) (other j (same_of g.name name) refl y) ∙ ih j rest y

-- sorting keeps names, their number and their sizes
pub sorted_named : (name : List ℕ) (fs : List Field) → has_name name (sorted fs) ≡ has_name name fs
unfolding sorted
sorted_named name [] = refl
sorted_named name (f ∷ fs) = insert_named f name (sorted fs) ∙ ap (λ (b : Bool). same_of f.name name || b) (sorted_named name fs)

pub sorted_length : (fs : List Field) → length (sorted fs) ≡ length fs
unfolding sorted
sorted_length [] = refl
sorted_length (f ∷ fs) = insert_length f (sorted fs) ∙ ap suc (sorted_length fs)

pub sorted_size : (fs : List Field) → length (fields_bytes (sorted fs)) ≡ length (fields_bytes fs)
unfolding sorted
sorted_size [] = refl
sorted_size (f ∷ fs) = omega (arith, insert_size f (sorted fs), sorted_size fs, length_fields fs f)

-- .. and every field
insert_same : (f : Field) (gs : List Field) → Permᴰ (insert_field f gs) (f ∷ gs)
insert_same f [] = Permᴰ.refl (f ∷ [])
insert_same f (g ∷ gs) = go (before_of f.name g.name) refl (insert_same f gs)
  where
    go : (b : Bool) → before_of f.name g.name ≡ b → Permᴰ (insert_field f gs) (f ∷ gs) → Permᴰ (insert_field f (g ∷ gs)) (f ∷ g ∷ gs)
    go true e ih = rw e (Permᴰ.refl (f ∷ g ∷ gs))
    go false e ih = rw e (Permᴰ.trans (Permᴰ.cons refl ih) (Permᴰ.swap refl refl))

pub sorted_same_fields : (fs : List Field) → Permᴰ (sorted fs) fs
unfolding sorted
sorted_same_fields [] = Permᴰ.nil
sorted_same_fields (f ∷ fs) = Permᴰ.trans (insert_same f (sorted fs)) (Permᴰ.cons refl (sorted_same_fields fs))

-- fields that rise stand in order
insert_first : (f : Field) (fs : List Field) → before_first f.name fs ≡ true → insert_field f fs ≡ f ∷ fs
insert_first f [] p = refl
insert_first f (g ∷ gs) p = rw p

pub sorted_same : (fs : List Field) → rising fs ≡ true → sorted fs ≡ fs
unfolding sorted
sorted_same [] r = refl
sorted_same (f ∷ fs) r =
    let q = and_parts (before_first f.name fs) (rising fs) r in
    ap (insert_field f) (sorted_same fs q.1) ∙ insert_first f fs q.0
