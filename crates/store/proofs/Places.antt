-- Records and the places that they fill. Assumes nothing.
use mathlib.Core.Path.{◌≡◌, refl, sym, ap, ap₂, ◌∙◌}
use mathlib.Core.Bool.{Bool, true, false}
use mathlib.Core.List.{List, [], ◌∷◌, ◌++◌}
use mathlib.Core.Option.{none, some}
use Prim.Native.Nat.{ℕ, zero, suc, ◌+◌, ◌*◌, ◌≤◌, ◌<◌}
use native.Mathlib.Omega.{arith}
use lib.Dec.{eqb}
use lib.ListN.{length, get_or, set, replicate, length-append, length-set, length-replicate}
use lib.Seq.{get_or-set_same, get_or-set_other, set-get_or, set-set, set_comm}
use Rattle.common.specs.Choice.{pick}
use borrow.Author.Tests.{eqb-true, eqb-false}
use Rattle.word.specs.Word.{word_bytes}
use Rattle.word.proofs.Laws.{length_word_bytes}
use Rattle.store.specs.Layout.{Rec, Place, mark, rec_bytes, recs_bytes, put, places_from, free}
use Rattle.store.specs.Calls.{Found, At, Nothing, lowest_free, held_count, held_bytes, without, locate_in}
use Rattle.store.specs.Theorems.{Good}

pub some_none : {A : Type 0} {t : List ℕ} → ◌≡◌ {A = Place} (some t) none → A
some_none e = let z : ◌≡◌ {A = ℕ} 1 0 = ap mark e in absurd (omega arith)

pub length_rec : (r : Rec) → length (rec_bytes r) ≡ 4 + length r.table
length_rec r =
    omega (
      arith,
      length-append (word_bytes 2 (2 + length r.table)) (word_bytes 2 (256 + r.number) ++ r.table),
      length-append (word_bytes 2 (256 + r.number)) r.table,
      length_word_bytes 2 (2 + length r.table),
      length_word_bytes 2 (256 + r.number),
    )

pub recs_append : (xs bs : List Rec) → length (recs_bytes (xs ++ bs)) ≡ length (recs_bytes xs) + length (recs_bytes bs)
recs_append [] bs = omega arith
recs_append (a ∷ xs) bs =
    omega (arith, recs_append xs bs, length-append (rec_bytes a) (recs_bytes (xs ++ bs)), length-append (rec_bytes a) (recs_bytes xs))

-- each record has at least 4 bytes
pub recs_many : (rs : List Rec) → length rs + (length rs + (length rs + length rs)) ≤ length (recs_bytes rs)
recs_many [] = omega arith
recs_many (r ∷ rs) = omega (arith, recs_many rs, length_rec r, length-append (rec_bytes r) (recs_bytes rs))

module _ (ps : List Place) where
  pub length_put : (r : Rec) → length (put ps r) ≡ length ps
  length_put r = length-set ps r.number (some r.table)

pub length_places : (ps : List Place) (rs : List Rec) → length (places_from ps rs) ≡ length ps
unfolding places_from
length_places ps [] = refl
length_places ps (r ∷ rs) = length_places (put ps r) rs ∙ length_put ps r

pub places_append : (ps : List Place) (xs bs : List Rec) → places_from ps (xs ++ bs) ≡ places_from (places_from ps xs) bs
unfolding places_from
places_append ps [] bs = refl
places_append ps (a ∷ xs) bs = places_append (put ps a) xs bs

pub good_append : (ps : List Place) (xs bs : List Rec) → Good ps xs → Good (places_from ps xs) bs → Good ps (xs ++ bs)
unfolding Good places_from
good_append ps [] bs g h = h
good_append ps (a ∷ xs) bs g h = (g.0, g.1, g.2, good_append (put ps a) xs bs g.3 h)

pub good_split : (ps : List Place) (xs bs : List Rec) → Good ps (xs ++ bs) → Good ps xs × Good (places_from ps xs) bs
unfolding Good places_from
good_split ps [] bs g = (tt, g)
good_split ps (a ∷ xs) bs g = let q = good_split (put ps a) xs bs g.3 in ((g.0, g.1, g.2, q.0), q.1)

-- a place that is held is not filled again
pub other : (ps : List Place) (n k : ℕ) (t : List ℕ) → get_or ps n none ≡ some t → get_or ps k none ≡ none → n ≡ k → ⊥
other ps n k t e f z = some_none {t = t} (sym e ∙ ap (λ (i : ℕ). get_or ps i none) z ∙ f)

pub kept : (ps : List Place) (rs : List Rec) (n : ℕ) (t : List ℕ) → Good ps rs → get_or ps n none ≡ some t → get_or (places_from ps rs) n none ≡ some t
unfolding Good places_from
kept ps [] n t g e = e
kept ps (r ∷ rs) n t g e =
    kept (put ps r) rs n t g.3 (get_or-set_other ps r.number n (some r.table) none (other ps n r.number t e g.2) ∙ e)

-- ---- removing

pub taken_out : (ps : List Place) (r : Rec) (rs : List Rec) → r.number < length ps → get_or ps r.number none ≡ none → Good (put ps r) rs
    → Good ps rs × (places_from ps rs ≡ set (places_from (put ps r) rs) r.number none)
unfolding Good places_from
taken_out ps r [] h e g =
    (tt, sym (set-set ps r.number (some r.table) none ∙ ap (set ps r.number) (sym e) ∙ set-get_or ps r.number none))
taken_out ps r (q ∷ qs) h e g =
    let k = q.number in
    let n = r.number in
    let same = get_or-set_same ps n (some r.table) none h in
    let d : n ≡ k → ⊥ = other (put ps r) n k r.table same g.2 in
    let fk : get_or ps k none ≡ none = sym (get_or-set_other ps n k (some r.table) none (λ z. d (sym z))) ∙ g.2 in
    let fn : get_or (put ps q) n none ≡ none = get_or-set_other ps k n (some q.table) none d ∙ e in
    let c : put (put ps r) q ≡ put (put ps q) r = set_comm ps n k (some r.table) (some q.table) d in
    let ih = taken_out (put ps q) r qs (rw (length_put ps q) h) fn (rw c at g.3) in
    ((g.0, g.1, fk, ih.0), ih.1 ∙ ap (λ (x : List Place). set (places_from x qs) n none) (sym c))

-- ---- the lowest free number

pub lowest_free_lem : (ps : List Place) → get_or ps (lowest_free ps) none ≡ none
unfolding lowest_free
lowest_free_lem [] = refl
lowest_free_lem (none ∷ ps) = refl
lowest_free_lem (some t ∷ ps) = lowest_free_lem ps

pub lowest_most : (ps : List Place) → lowest_free ps ≤ length ps
unfolding lowest_free
lowest_most [] = omega arith
lowest_most (none ∷ ps) = omega arith
lowest_most (some t ∷ ps) = let ih = lowest_most ps in omega arith

-- ---- how many are held

count_set : (ps : List Place) (n : ℕ) (t : List ℕ) → n < length ps → get_or ps n none ≡ none → held_count (set ps n (some t)) ≡ suc (held_count ps)
unfolding held_count
count_set [] n t h e = absurd (omega arith)
count_set (none ∷ ps) zero t h e = refl
count_set (some u ∷ ps) zero t h e = some_none {t = u} e
count_set (none ∷ ps) (suc n) t h e = count_set ps n t (omega arith) e
count_set (some u ∷ ps) (suc n) t h e = ap suc (count_set ps n t (omega arith) e)

pub count_places : (ps : List Place) (rs : List Rec) → length ps ≡ 64 → Good ps rs → held_count (places_from ps rs) ≡ held_count ps + length rs
unfolding Good places_from
count_places ps [] l g = omega arith
count_places ps (r ∷ rs) l g =
    let a = count_set ps r.number r.table (omega (arith, g.0)) g.2 in
    let ih = count_places (put ps r) rs (length_put ps r ∙ l) g.3 in
    omega (arith, a, ih)

pub count_free : (n : ℕ) → held_count (replicate n none) ≡ 0
unfolding held_count
count_free zero = refl
count_free (suc n) = count_free n

pub count_most : (ps : List Place) → held_count ps ≤ length ps
unfolding held_count
count_most [] = omega arith
count_most (none ∷ ps) = let ih = count_most ps in omega arith
count_most (some t ∷ ps) = let ih = count_most ps in omega arith

pub full_count : (ps : List Place) → lowest_free ps ≡ length ps → held_count ps ≡ length ps
unfolding held_count lowest_free
full_count [] e = refl
full_count (none ∷ ps) e = absurd (omega arith)
full_count (some t ∷ ps) e = let ih = full_count ps (omega arith) in omega arith

pub count_full : (ps : List Place) → held_count ps ≡ length ps → lowest_free ps ≡ length ps
unfolding held_count lowest_free
count_full [] e = refl
count_full (none ∷ ps) e = let m = count_most ps in absurd (omega arith)
count_full (some t ∷ ps) e = let ih = count_full ps (omega arith) in omega arith

pub lower_held : (ps : List Place) (n : ℕ) → n < lowest_free ps → get_or ps n none ≡ none → ⊥
unfolding lowest_free
lower_held [] n h e = omega arith
lower_held (none ∷ ps) n h e = omega arith
lower_held (some t ∷ ps) zero h e = some_none {t = t} e
lower_held (some t ∷ ps) (suc n) h e = lower_held ps n (omega arith) e

-- ---- the room

bytes_set : (ps : List Place) (n : ℕ) (t : List ℕ) → n < length ps → get_or ps n none ≡ none → held_bytes (set ps n (some t)) ≡ length t + held_bytes ps
unfolding held_bytes
bytes_set [] n t h e = absurd (omega arith)
bytes_set (none ∷ ps) zero t h e = refl
bytes_set (some u ∷ ps) zero t h e = some_none {t = u} e
bytes_set (none ∷ ps) (suc n) t h e = bytes_set ps n t (omega arith) e
bytes_set (some u ∷ ps) (suc n) t h e = let ih = bytes_set ps n t (omega arith) e in omega arith

bytes_places : (ps : List Place) (rs : List Rec) → length ps ≡ 64 → Good ps rs
    → held_bytes (places_from ps rs) + 4 * held_count (places_from ps rs) ≡ held_bytes ps + 4 * held_count ps + length (recs_bytes rs)
unfolding Good places_from
bytes_places ps [] l g = omega arith
bytes_places ps (r ∷ rs) l g =
    let a = bytes_set ps r.number r.table (omega (arith, g.0)) g.2 in
    let b = count_set ps r.number r.table (omega (arith, g.0)) g.2 in
    let ih = bytes_places (put ps r) rs (length_put ps r ∙ l) g.3 in
    omega (arith, a, b, ih, length_rec r, length-append (rec_bytes r) (recs_bytes rs))

bytes_free : (n : ℕ) → held_bytes (replicate n none) ≡ 0
unfolding held_bytes
bytes_free zero = refl
bytes_free (suc n) = bytes_free n

-- the tables held and 4 bytes for each are the bytes of the records
pub bytes_held : (rs : List Rec) → Good free rs → held_bytes (places_from free rs) + 4 * held_count (places_from free rs) ≡ length (recs_bytes rs)
bytes_held rs g = omega (arith, bytes_places free rs (length-replicate {A = Place} 64 none) g, bytes_free 64, count_free 64)

-- ---- the record of a number

-- where a record stands among the others
pub record Spot (n : ℕ) (rs : List Rec) (base at : ℕ) : Type 0 where
  pub pre : List Rec
  pub it : Rec
  pub post : List Rec
  pub all : rs ≡ pre ++ (it ∷ post)
  pub rest : without n rs ≡ pre ++ post
  pub number : it.number ≡ n
  pub place : at ≡ base + length (recs_bytes pre)

abbrev place_in : Found → ℕ
place_in (At at) = at
place_in Nothing = 0

abbrev tag : Found → ℕ
tag (At at) = 1
tag Nothing = 0

pub at_nothing : {A : Type 0} {at : ℕ} → ◌≡◌ {A = Found} (At at) Nothing → A
at_nothing e = let z : ◌≡◌ {A = ℕ} 1 0 = ap tag e in absurd (omega arith)

pub spot : (n : ℕ) (rs : List Rec) (base at : ℕ) → locate_in n rs base ≡ At at → Spot n rs base at
spot n [] base at e = at_nothing (sym e)
spot n (r ∷ rs) base at e = go (eqb r.number n) refl e (spot n rs (base + (4 + length r.table)) at)
  where
    go : (b : Bool) → eqb r.number n ≡ b → pick b (λ _. At base) (λ _. locate_in n rs (base + (4 + length r.table))) ≡ At at
        → (locate_in n rs (base + (4 + length r.table)) ≡ At at → Spot n rs (base + (4 + length r.table)) at) → Spot n (r ∷ rs) base at
    go true p h ih =
        let z : base ≡ at = ap place_in h in
        record { pre = []; it = r; post = rs; all = refl; rest = rw p; number = eqb-true r.number n p; place = omega arith }
    go false p h ih =
        let s = ih h in
        record {
          pre = r ∷ s.pre;
          it = s.it;
          post = s.post;
          all = ap (λ (l : List Rec). r ∷ l) s.all;
          rest = rw p (ap (λ (l : List Rec). r ∷ l) s.rest);
          number = s.number;
          place = omega (arith, s.place, length_rec r, length-append (rec_bytes r) (recs_bytes s.pre));
        }

pub none_found : (n : ℕ) (ps : List Place) (rs : List Rec) (base : ℕ) → locate_in n rs base ≡ Nothing → get_or (places_from ps rs) n none ≡ get_or ps n none
unfolding places_from
none_found n ps [] base e = refl
none_found n ps (r ∷ rs) base e = go (eqb r.number n) refl e (none_found n (put ps r) rs (base + (4 + length r.table)))
  where
    go : (b : Bool) → eqb r.number n ≡ b → pick b (λ _. At base) (λ _. locate_in n rs (base + (4 + length r.table))) ≡ Nothing
        → (locate_in n rs (base + (4 + length r.table)) ≡ Nothing → get_or (places_from (put ps r) rs) n none ≡ get_or (put ps r) n none)
        → get_or (places_from (put ps r) rs) n none ≡ get_or ps n none
    go true p h ih = at_nothing h
    go false p h ih = ih h ∙ get_or-set_other ps r.number n (some r.table) none (λ z. eqb-false r.number n p (sym z))

-- what the record of a number is to the places
pub spot_held : (n : ℕ) (rs : List Rec) (base at : ℕ) (s : Spot n rs base at) → Good free rs → get_or (places_from free rs) n none ≡ some s.it.table
unfolding Good places_from
spot_held n rs base at s g =
    let q = good_split free s.pre (s.it ∷ s.post) (rw s.all at g) in
    let ps = places_from free s.pre in
    let l : length ps ≡ 64 = length_places free s.pre ∙ length-replicate {A = Place} 64 none in
    let here : get_or (put ps s.it) n none ≡ some s.it.table =
    ap (λ (i : ℕ). get_or (put ps s.it) i none) (sym s.number) ∙ get_or-set_same ps s.it.number (some s.it.table) none (omega (arith, q.1.0, l)) in
    ap (λ (x : List Rec). get_or (places_from free x) n none) s.all
    ∙ ap (λ (x : List Place). get_or x n none) (places_append free s.pre (s.it ∷ s.post))
    ∙ kept (put ps s.it) s.post n s.it.table q.1.3 here

pub spot_removed : (n : ℕ) (rs : List Rec) (base at : ℕ) → Spot n rs base at → Good free rs
    → Good free (without n rs) × (places_from free (without n rs) ≡ set (places_from free rs) n none)
unfolding Good places_from
spot_removed n rs base at s g =
    let q = good_split free s.pre (s.it ∷ s.post) (rw s.all at g) in
    let ps = places_from free s.pre in
    let l : length ps ≡ 64 = length_places free s.pre ∙ length-replicate {A = Place} 64 none in
    let t = taken_out ps s.it s.post (omega (arith, q.1.0, l)) q.1.2 q.1.3 in
    let a : Good free (s.pre ++ s.post) = good_append free s.pre s.post q.0 t.0 in
    let b : places_from free (s.pre ++ s.post) ≡ set (places_from free rs) n none =
    places_append free s.pre s.post
    ∙ t.1
    ∙ ap₂ (λ (x : List Place) (i : ℕ). set x i none) (sym (places_append free s.pre (s.it ∷ s.post)) ∙ ap (places_from free) (sym s.all)) s.number in
    (rw s.rest a, ap (places_from free) s.rest ∙ b)
