-- The starts of records by number: 0 exactly where the place is free. Assumes nothing.
use mathlib.Core.Path.{◌≡◌, refl, sym, ap, ◌∙◌}
use mathlib.Core.Bool.{Bool, true, false}
use mathlib.Core.List.{List, [], ◌∷◌}
use mathlib.Core.Option.{none, some}
use Prim.Native.Nat.{ℕ, zero, suc, ◌+◌, ◌<◌}
use native.Mathlib.Omega.{arith}
use lib.Dec.{eqb}
use lib.ListN.{length, get_or, set, replicate, length-set, length-replicate}
use lib.Seq.{get_or-set_same, get_or-set_other}
use borrow.Author.Tests.{ne_eqb, eqb-true, eqb-false}
use Rattle.common.specs.Choice.{pick}
use Rattle.common.proofs.Choice.{false_true}
use Rattle.store.specs.Layout.{Rec, Place, mark, put, places_from, free}
use Rattle.store.specs.Calls.{Found, At, Nothing, first_zero, starts_in, lowest_free, locate_in}
use Rattle.store.specs.Theorems.{Good}
use Rattle.store.proofs.Places.{length_put, other, spot}

-- a start is 0 exactly where the place is free
unfoldable pub Zeros : List ℕ → List Place → Type 0
Zeros [] [] = Unit {0}
Zeros [] (p ∷ ps) = ⊥
Zeros (m ∷ ms) [] = ⊥
Zeros (m ∷ ms) (p ∷ ps) = (eqb m 0 ≡ eqb (mark p) 0) × Zeros ms ps

zeros_some : (n : ℕ) → Zeros (replicate n 0) (replicate n none)
unfolding Zeros
zeros_some zero = tt
zeros_some (suc n) = (refl, zeros_some n)

pub zeros_free : Zeros (replicate 64 0) free
zeros_free = zeros_some 64

pub zeros_set : (ms : List ℕ) (ps : List Place) (n a : ℕ) (t : List ℕ) → 0 < a → Zeros ms ps → Zeros (set ms n a) (set ps n (some t))
unfolding Zeros
zeros_set [] [] n a t h z = tt
zeros_set [] (p ∷ ps) n a t h z = absurd z
zeros_set (m ∷ ms) [] n a t h z = absurd z
zeros_set (m ∷ ms) (p ∷ ps) zero a t h z = (ne_eqb a 0 (λ e. omega arith), z.1)
zeros_set (m ∷ ms) (p ∷ ps) (suc n) a t h z = (z.0, zeros_set ms ps n a t h z.1)

pub zeros_at : (ms : List ℕ) (ps : List Place) (n : ℕ) → Zeros ms ps → eqb (get_or ms n 0) 0 ≡ eqb (mark (get_or ps n none)) 0
unfolding Zeros
zeros_at [] [] n z = refl
zeros_at [] (p ∷ ps) n z = absurd z
zeros_at (m ∷ ms) [] n z = absurd z
zeros_at (m ∷ ms) (p ∷ ps) zero z = z.0
zeros_at (m ∷ ms) (p ∷ ps) (suc n) z = zeros_at ms ps n z.1

pub zeros_first : (ms : List ℕ) (ps : List Place) → Zeros ms ps → first_zero ms ≡ lowest_free ps
unfolding Zeros first_zero lowest_free
zeros_first [] [] z = refl
zeros_first [] (p ∷ ps) z = absurd z
zeros_first (m ∷ ms) [] z = absurd z
zeros_first (zero ∷ ms) (none ∷ ps) z = refl
zeros_first (zero ∷ ms) (some t ∷ ps) z = false_true (sym z.0)
zeros_first (suc m ∷ ms) (none ∷ ps) z = false_true (sym (ne_eqb (suc m) 0 (λ e. omega arith)) ∙ z.0)
zeros_first (suc m ∷ ms) (some t ∷ ps) z = ap suc (zeros_first ms ps z.1)

pub zeros_starts : (ms : List ℕ) (ps : List Place) (rs : List Rec) (at : ℕ) → 0 < at → Zeros ms ps → Zeros (starts_in ms rs at) (places_from ps rs)
unfolding starts_in places_from
zeros_starts ms ps [] at h z = z
zeros_starts ms ps (r ∷ rs) at h z = zeros_starts (set ms r.number at) (put ps r) rs (at + (4 + length r.table)) (omega arith) (zeros_set ms ps r.number at r.table h z)

starts_kept : (ms : List ℕ) (ps : List Place) (rs : List Rec) (at n : ℕ) (t : List ℕ) → Good ps rs → get_or ps n none ≡ some t → get_or (starts_in ms rs at) n 0 ≡ get_or ms n 0
unfolding starts_in Good
starts_kept ms ps [] at n t g e = refl
starts_kept ms ps (r ∷ rs) at n t g e =
    let d = other ps n r.number t e g.2 in
    starts_kept (set ms r.number at) (put ps r) rs (at + (4 + length r.table)) n t g.3 (get_or-set_other ps r.number n (some r.table) none d ∙ e)
    ∙ get_or-set_other ms r.number n at 0 d

abbrev located_by : Found → ℕ → ℕ
located_by (At at) d = at
located_by Nothing d = d

starts_at : (ms : List ℕ) (ps : List Place) (rs : List Rec) (at n : ℕ) → length ms ≡ 64 → length ps ≡ 64 → Good ps rs
    → (f : Found) → locate_in n rs at ≡ f → get_or (starts_in ms rs at) n 0 ≡ located_by f (get_or ms n 0)
unfolding starts_in Good
starts_at ms ps [] at n l k g f e = ap (λ (x : Found). located_by x (get_or ms n 0)) e
starts_at ms ps (r ∷ rs) at n l k g f e =
    go (eqb r.number n) refl e
    (starts_at (set ms r.number at) (put ps r) rs (at + (4 + length r.table)) n (length-set ms r.number at ∙ l) (length_put ps r ∙ k) g.3 f)
  where
    go : (b : Bool) → eqb r.number n ≡ b → pick b (λ _. At at) (λ _. locate_in n rs (at + (4 + length r.table))) ≡ f
        → (locate_in n rs (at + (4 + length r.table)) ≡ f → get_or (starts_in (set ms r.number at) rs (at + (4 + length r.table))) n 0 ≡ located_by f (get_or (set ms r.number at) n 0))
        → get_or (starts_in (set ms r.number at) rs (at + (4 + length r.table))) n 0 ≡ located_by f (get_or ms n 0)
    go true p h ih =
        let z : r.number ≡ n = eqb-true r.number n p in
        let few = g.0 in
        let here : get_or (put ps r) n none ≡ some r.table = ap (λ (i : ℕ). get_or (put ps r) i none) (sym z) ∙ get_or-set_same ps r.number (some r.table) none (omega arith) in
        let there : get_or (set ms r.number at) n 0 ≡ at = ap (λ (i : ℕ). get_or (set ms r.number at) i 0) (sym z) ∙ get_or-set_same ms r.number at 0 (omega arith) in
        starts_kept (set ms r.number at) (put ps r) rs (at + (4 + length r.table)) n r.table g.3 here ∙ there ∙ ap (λ (x : Found). located_by x (get_or ms n 0)) h
    go false p h ih = ih h ∙ ap (located_by f) (get_or-set_other ms r.number n at 0 (λ z. eqb-false r.number n p (sym z)))

pub length_starts : (ms : List ℕ) (rs : List Rec) (at : ℕ) → length (starts_in ms rs at) ≡ length ms
unfolding starts_in
length_starts ms [] at = refl
length_starts ms (r ∷ rs) at = length_starts (set ms r.number at) rs (at + (4 + length r.table)) ∙ length-set ms r.number at

-- what the start of a number tells
zero_default : (m n : ℕ) → ◌≡◌ {A = ℕ} (get_or (replicate m 0) n 0) 0
zero_default zero n = refl
zero_default (suc m) zero = refl
zero_default (suc m) (suc n) = zero_default m n

module _ (rs : List Rec) (g : Good free rs) (n : ℕ) where
  start_is : (f : Found) → locate_in n rs 8 ≡ f → get_or (starts_in (replicate 64 0) rs 8) n 0 ≡ located_by f 0
  start_is f e =
      starts_at (replicate 64 0) free rs 8 n (length-replicate {A = ℕ} 64 0) (length-replicate {A = Place} 64 none) g f e
      ∙ ap (located_by f) (zero_default 64 n)

  pub start_none : get_or (starts_in (replicate 64 0) rs 8) n 0 ≡ 0 → locate_in n rs 8 ≡ Nothing
  start_none z = go (locate_in n rs 8) refl
    where
      go : (f : Found) → locate_in n rs 8 ≡ f → locate_in n rs 8 ≡ Nothing
      go (At at) e = let p = (spot n rs 8 at e).place in let q = start_is (At at) e in absurd (omega arith)
      go Nothing e = e

  pub start_found : (v : ℕ) → v ≡ get_or (starts_in (replicate 64 0) rs 8) n 0 → (v ≡ 0 → ⊥) → locate_in n rs 8 ≡ At v
  start_found v q z = go (locate_in n rs 8) refl
    where
      go : (f : Found) → locate_in n rs 8 ≡ f → locate_in n rs 8 ≡ At v
      go (At at) e = e ∙ ap At (sym (q ∙ start_is (At at) e))
      go Nothing e = absurd (z (q ∙ start_is Nothing e))
